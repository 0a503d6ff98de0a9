use Rattle.std.proofs.Common.{◌≡◌, ◌∙◌, List, Option, not, true, ap, subst, sym}
use Rattle.std.specs.Prelude.{is_some}
use Rattle.ados_machine.specs.Breaks.{kind_breaks, broken_number}
use Rattle.ados_machine.specs.FrameEnds.{IsSane}
use Rattle.ados_machine.specs.Shells.{ShellState}
use Rattle.ados_machine.specs.World.{WorldState, numbered_shell}
use Rattle.ados_world.proofs.AnswerLemmas.{copied-some, sane-broken}
use Rattle.ados_world.proofs.worlds.World.break_shell.Goals as goal

pub invariant_of-self : goal.invariant_of-self
invariant_of-self c =
    let w = c.args.self.now in
    let k = c.args.number in
    let kind = c.args.kind in
    let inside = c.self.inside in
    let runs : is_some (numbered_shell w k) ≡ true =
    subst (λ o. is_some o ≡ true) c.shell.ensures.shell (copied-some c.shell.result (c.is_none.ensures ∙ ap not c.if-is_none.false)) in
    let sane = sane-broken w k kind (rw c.self.view_is at c.self.invariant) c.requires runs in
    let shells : c.break_shell.new.self ≡ broken_number (kind_breaks kind) k inside.shells =
    c.break_shell.ensures ∙ ap (λ b. broken_number b k inside.shells) c.kind_breaks.ensures in
    let P : WorldState → Type 0 = λ v. IsSane (record v { shells = broken_number (kind_breaks kind) k v.shells }) in
    let Q : List (Option ShellState) → Type 0 = λ s.
    IsSane (record { shells = s; ended = inside.ended; queue = inside.queue.items; input_ended = inside.input_ended; shared = inside.shared }) in
    subst Q (sym shells) (subst P (sym c.self.view_is) sane)
