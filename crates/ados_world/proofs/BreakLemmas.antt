-- Breaks: that of a place; and the place of the shell whose command broke another one is set before or after the break.
use Rattle.std.proofs.Common.{◌≡◌, ◌≤◌, ◌<◌, ◌-◌, ℕ, zero, suc, List, [], ◌∷◌, length, Option, Some, None, ap, arith, refl, sym, inl, inr}
use Rattle.std.specs.List.{slice_get, slice_set}
use Rattle.std.proofs.lemmas.Bool.{cases_eq, eq-eqb, ne_eqb}
use Rattle.ados_find.specs.declared.outcomes.Breaking.{Breaking}
use Rattle.ados_find.specs.declared.outcomes.Breaks.{Breaks}
use Rattle.ados_machine.specs.Breaks.{broken_at, shells_after_break, broken_number, broken_place}
use Rattle.ados_machine.specs.Shells.{ShellState}
use Rattle.ados_machine.specs.World.{option_flatten}
use Rattle.ados_machine.proofs.Places.{broken-after, broken-lost}
use Rattle.ados_machine.proofs.Shells.{found, place_before}
use Rattle.ados_world.specs.Breaks.{shells_with_broken}

pub others-broken : (k : ℕ) (breaking : Option Breaking) (shells : List (Option ShellState)) (shell : ShellState) (now : Option ShellState)
    → found shells k ≡ Some shell → shells_with_broken k breaking (slice_set shells (k - 1) now) ≡ slice_set (shells_after_break breaking shells) (k - 1) now
others-broken k None shells shell now e = refl
others-broken zero (Some breaking) shells shell now e = cc
others-broken (suc i) (Some breaking) shells shell now e =
    elim (cases_eq breaking.shell (suc i)) [
      | inl same ↦ rw (eq-eqb breaking.shell (suc i) same, same, place_before i) (sym (broken-lost breaking.breaks shells i now))
      | inr differ ↦ rw (ne_eqb breaking.shell (suc i) differ, place_before i) (broken-after breaking.breaks breaking.shell shells i now differ)
    ]

-- the shell at a place is broken, and no other
pub place-broken : (breaks : Breaks) (shells : List (Option ShellState)) (i : ℕ)
    → slice_set shells i (broken_place breaks (option_flatten (slice_get shells i))) ≡ broken_at breaks i shells
place-broken breaks [] i = refl
place-broken breaks (shell ∷ shells) zero = refl
place-broken breaks (shell ∷ shells) (suc i) = ap (λ l. shell ∷ l) (place-broken breaks shells i)

past-broken : (breaks : Breaks) (shells : List (Option ShellState)) (i : ℕ) → length shells ≤ i → broken_at breaks i shells ≡ shells
past-broken breaks [] i past = refl
past-broken breaks (shell ∷ shells) zero past = (let none : ⊥ = omega (arith, past) in absurd none)
past-broken breaks (shell ∷ shells) (suc i) past = ap (λ l. shell ∷ l) (past-broken breaks shells i (omega (arith, past)))

-- the same of a number
pub number-broken : (breaks : Breaks) (shells : List (Option ShellState)) (n : ℕ) → 1 ≤ n
    → slice_set shells (n - 1) (broken_place breaks (option_flatten (slice_get shells (n - 1)))) ≡ broken_number breaks n shells
number-broken breaks shells zero one = (let none : ⊥ = omega (arith, one) in absurd none)
number-broken breaks shells (suc i) one = rw (place_before i) (place-broken breaks shells i)

pub number-past : (breaks : Breaks) (shells : List (Option ShellState)) (n : ℕ) → length shells ≡ 20 → (1 ≤ n → 20 < n)
    → shells ≡ broken_number breaks n shells
number-past breaks shells zero twenty past = refl
number-past breaks shells (suc i) twenty past =
    (let above : 20 < suc i = past (omega arith) in sym (past-broken breaks shells i (omega (arith, twenty, above))))
