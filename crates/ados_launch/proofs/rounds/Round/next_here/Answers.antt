use Rattle.std.proofs.Common.{◌≡◌, ◌∙◌, None, rules, sym}
use Rattle.ados_launch.specs.Rounds.{in_this_round}
use Rattle.ados_launch.proofs.Stages.{further-first, no-line, no-start, no-turn, nothing, start-first, turn-first}
use Rattle.ados_launch.proofs.rounds.Round.next_here.Goals as goal

pub returns-in-Some : goal.returns-in-Some
returns-in-Some c =
    let w = c.args.world.now in
    let round = c.args.self.now in
    turn-first w round.answered round.place _ c.in-Some.number c.clamp.ensures
    (no-line w round.answered round.place (sym c.is_line_due.ensures ∙ c.if-is_line_due.false)) c.in-Some.ensures.number

pub returns-in-Some-first_start : goal.returns-in-Some-first_start
returns-in-Some-first_start c =
    let w = c.args.world.now in
    let round = c.args.self.now in
    let line = no-line w round.answered round.place (sym c.is_line_due.ensures ∙ c.if-is_line_due.false) in
    let turn = no-turn w round.answered round.place _ c.clamp.ensures line c.in_default.ensures.number in
    start-first w round.answered round.place _ c.in-Some-first_start.number c.clamp-2.ensures turn c.in-Some-first_start.ensures.number

pub returns-in_err-number : goal.returns-in_err-number
returns-in_err-number c =
    let w = c.args.world.now in
    let round = c.args.self.now in
    let line = no-line w round.answered round.place (sym c.is_line_due.ensures ∙ c.if-is_line_due.false) in
    let turn = no-turn w round.answered round.place _ c.clamp.ensures line c.in_default.ensures.number in
    let start = no-start w round.answered round.place _ c.clamp-2.ensures turn c.in_default-first_start.ensures.number in
    let none : None ≡ in_this_round round w = nothing w round.answered round.place _ c.clamp-3.ensures start c.in_err-number.ensures.number in
    let given : c.from_residual.result ≡ None = search rules in
    given ∙ none

pub returns : goal.returns
returns c =
    let w = c.args.world.now in
    let round = c.args.self.now in
    let line = no-line w round.answered round.place (sym c.is_line_due.ensures ∙ c.if-is_line_due.false) in
    let turn = no-turn w round.answered round.place _ c.clamp.ensures line c.in_default.ensures.number in
    let start = no-start w round.answered round.place _ c.clamp-2.ensures turn c.in_default-first_start.ensures.number in
    further-first w round.answered round.place _ c.in_ok-number.number c.clamp-3.ensures start c.in_ok-number.ensures.number
