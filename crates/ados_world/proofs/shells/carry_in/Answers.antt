use Rattle.std.proofs.Common.{◌≡◌, ◌∙◌, ◌-◌, Some, ap, sym}
use Rattle.std.specs.Prelude.{map, option_map, slice_set}
use Rattle.ados_machine.specs.Carrying.{carried_directory, carried_place, carried_shell}
use Rattle.ados_machine.specs.World.{option_flatten, at_number}
use Rattle.ados_shell.specs.Drafts.{drafted_shell}
use Rattle.ados_world.specs.Shells.{placed_shells, carried_directories}
use Rattle.ados_world.proofs.CarryingLemmas.{placed-set}
use Rattle.ados_world.proofs.shells.carry_in.Goals as goal

pub returns-clause-ok : goal.returns-clause-ok
returns-clause-ok c =
    let n = c.args.number in
    let moved = c.args.moved.now in
    let shells = c.args.shells.now in
    let shell = c.in-Some.shell.now in
    let draft = c.args.draft.now in
    let new = drafted_shell draft shell in
    let here : option_flatten (at_number shells n) ≡ Some shell =
    ap (λ l. option_flatten (at_number l n)) (sym c.places.ensures) ∙ sym c.in-Some.ensures.shell in
    c.carry.ensures
    ∙ ap (λ l. placed_shells (slice_set l (n - 1) (Some c.in_ok-own.own)) c.commit.new.self) (c.in_ok-directories.ensures ∙ ap (carried_directories moved) c.places-2.ensures)
    ∙ ap (λ d. placed_shells (slice_set (carried_directories moved shells) (n - 1) (Some d)) c.commit.new.self) c.in_ok-own.ensures
    ∙ ap (placed_shells (slice_set (carried_directories moved shells) (n - 1) (Some (carried_directory moved new))))
    (c.in_ok-commit.ensures.ok ∙ ap (λ o. slice_set shells (n - 1) (option_map (drafted_shell draft) o)) here)
    ∙ placed-set moved new shells (n - 1)
    ∙ ap (λ o. slice_set (map (carried_place moved) shells) (n - 1) (option_map (λ s. carried_shell moved (drafted_shell draft s)) o)) (sym here)
