-- The shells that run from an entry are its uses.
use Rattle.std.proofs.Common.{◌≡◌, List, [], ◌∷◌, Option, Some, None, refl, ap, inl, inr, length, suc}
use Rattle.std.specs.List.{filter}
use Rattle.std.proofs.lemmas.Bool.{cases_Bool}
use Rattle.ados_text.specs.Text.{Text, is_same}
use Rattle.ados_resident.specs.Residents.{count_of}
use Rattle.ados_machine.specs.Course.{uses_of, with_use}
use Rattle.ados_machine.specs.Shells.{ShellState, phase_entry}
use Rattle.ados_machine.specs.World.{seen_shells}
use Rattle.ados_world.specs.Shells.{runs_from}

counts-one : (entry : Option Text) (shell : ShellState) (shells : List (Option ShellState)) (name : Text) → phase_entry shell.phase ≡ entry →
    length (filter (λ place. runs_from place name) shells) ≡ count_of (uses_of (seen_shells shells)) name →
    length (filter (λ place. runs_from place name) (Some shell ∷ shells)) ≡ count_of (with_use (phase_entry shell.phase) (uses_of (seen_shells shells))) name
counts-one None shell shells name is same = rw is same
counts-one (Some entry) shell shells name is same =
    elim (cases_Bool (is_same entry name)) [
      | inl e ↦ rw (is, e) (ap suc same)
      | inr e ↦ rw (is, e) same
    ]

pub uses_counted : (shells : List (Option ShellState)) (name : Text) →
    length (filter (λ place. runs_from place name) shells) ≡ count_of (uses_of (seen_shells shells)) name
uses_counted [] name = refl
uses_counted (None ∷ shells) name = uses_counted shells name
uses_counted (Some shell ∷ shells) name = counts-one (phase_entry shell.phase) shell shells name refl (uses_counted shells name)
