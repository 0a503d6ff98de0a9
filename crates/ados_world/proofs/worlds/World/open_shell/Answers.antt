use Rattle.std.proofs.Common.{◌≡◌, ◌∙◌, ◌∷◌, [], Some, length, ap, sym}
use Rattle.ados_machine.specs.Numbers.{free_number}
use Rattle.ados_machine.proofs.Tellings.{alone-tells}
use Rattle.ados_world.proofs.OpenedLemmas.{opened-sane}
use Rattle.ados_world.proofs.worlds.World.open_shell.Goals as goal

pub place-requires-clause-sane : goal.place-requires-clause-sane
place-requires-clause-sane c =
    let free : free_number c.args.self.now.shells ≡ Some c.in-Some.number =
    sym (ap (λ w. free_number w.shells) c.self.view_is) ∙ (ap free_number (sym c.places.ensures) ∙ sym c.in-Some.ensures.number) in
    rw c.in-Ok.ensures
    (opened-sane c.args.self.now c.in-Some.number (c.args.line.now ∷ []) (rw c.self.view_is at c.self.invariant) free)

pub returns-in-Ok-clause-reports : goal.returns-in-Ok-clause-reports
returns-in-Ok-clause-reports c = λ n answers.
    (let free : free_number c.args.self.now.shells ≡ Some c.in-Some.number =
    sym (ap (λ w. free_number w.shells) c.self.view_is) ∙ (ap free_number (sym c.places.ensures) ∙ sym c.in-Some.ensures.number) in
    rw (c.place.ensures, c.in-Ok.ensures)
    (alone-tells n c.in-Some.number c.args.self.now c.args.line.now [] answers free))

pub returns-in-Ok-clause-place : goal.returns-in-Ok-clause-place
returns-in-Ok-clause-place c =
    let all : length c.args.self.now.ended ≡ 20 = sym (ap (λ w. length w.ended) c.self.view_is) ∙ c.note_places.ensures in
    rw all c.in-Some.ensures.within.last
