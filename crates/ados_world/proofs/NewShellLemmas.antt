-- The shells after a turn: its own, the one that begins, and the end of a background shell.
use Rattle.std.proofs.Common.{◌≡◌, ◌≢◌, ◌≤◌, ◌+◌, ◌-◌, ℕ, zero, suc, List, [], ◌∷◌, Bool, true, false, Option, Some, None, length, arith, ap, refl, sym}
use Rattle.std.specs.Prelude.{IfSome, if◌then◌else◌, slice_get, slice_set}
use Rattle.ados_find.specs.declared.codes.Codes.{Codes}
use Rattle.ados_find.specs.declared.outcomes.Renamed.{Renamed}
use Rattle.ados_machine.specs.Carrying.{carried_or_same}
use Rattle.ados_machine.specs.Numbers.{first_free_number, free_number}
use Rattle.ados_machine.specs.Apply.{TurnResult}
use Rattle.ados_machine.specs.Shells.{ShellStart, begun_shell, ShellState}
use Rattle.ados_machine.specs.Step.{codes_of_ended, is_done, shell_of_turn, with_begun}
use Rattle.ados_machine.proofs.Shells.{IsFree, found}
use Rattle.ados_world.specs.Endings.{final_codes, recorded_codes, remaining_shells}
use Rattle.ados_world.specs.NewShells.{joined_shells, new_shell}
use Rattle.ados_world.specs.Shells.{IsShellNumber}

-- two places can be set in any order
set-swap : {X : Type 0} (xs : List X) (i j : ℕ) (x y : X) → i ≢ j → slice_set (slice_set xs i x) j y ≡ slice_set (slice_set xs j y) i x
set-swap [] i j x y ne = refl
set-swap (first ∷ xs) zero zero x y ne = absurd (ne refl)
set-swap (first ∷ xs) zero (suc j) x y ne = refl
set-swap (first ∷ xs) (suc i) zero x y ne = refl
set-swap (first ∷ xs) (suc i) (suc j) x y ne = ap (λ l. first ∷ l) (set-swap xs i j x y (λ e. ne (ap suc e)))

-- a place that is set again
set-over : {X : Type 0} (xs : List X) (i : ℕ) (x y : X) → slice_set (slice_set xs i x) i y ≡ slice_set xs i y
set-over [] i x y = refl
set-over (first ∷ xs) zero x y = refl
set-over (first ∷ xs) (suc i) x y = ap (λ l. first ∷ l) (set-over xs i x y)

-- the number that is given is that of a shell
free-within : (n : ℕ) (places : List (Option ShellState)) (m : ℕ) → first_free_number n places ≡ Some m → (n ≤ m) × (m + 1 ≤ n + length places)
free-within n [] m e = cc
free-within n (None ∷ places) m e = (let same : n ≡ m = cc in (omega (arith, same), omega (arith, same)))
free-within n (Some shell ∷ places) m e = (let later = free-within (suc n) places m e in (omega (arith, later.0), omega (arith, later.1)))

number_within : (shells : List (Option ShellState)) (m : ℕ) → length shells ≡ 20 → free_number shells ≡ Some m → IsShellNumber m
number_within [] m twenty e = cc
number_within (first ∷ shells) m twenty e =
    (let within = free-within 2 shells m e in record { first = omega (arith, within.0); last = omega (arith, twenty, within.1) })

pub numbers_within : (shells : List (Option ShellState)) (number : Option ℕ) → length shells ≡ 20 → free_number shells ≡ number →
    IfSome number (λ m. IsShellNumber m)
numbers_within shells None twenty e = tt
numbers_within shells (Some m) twenty e = number_within shells m twenty e

-- the shell that begins is placed among the others as the machine defines it
pub joined-is : (begun : Option ShellStart) (number : Option ℕ) (shells : List (Option ShellState)) → joined_shells (new_shell begun number) shells ≡ with_begun begun number shells
joined-is None number shells = refl
joined-is (Some begun) None shells = refl
joined-is (Some begun) (Some number) shells = refl

-- if a shell runs at a place none begins there
other-place : (shells : List (Option ShellState)) (n k : ℕ) (shell : ShellState) → IsFree shells (Some n) → found shells k ≡ Some shell → n - 1 ≢ k - 1
other-place shells n zero shell free e = cc
other-place shells n (suc i) shell free e = λ same.
    (let at : free.0 ≡ i = omega (arith, free.1, same) in
    let none : slice_get shells i ≡ Some None = rw at at free.2 in
    let gone : found shells (suc i) ≡ None = rw none refl in
    cc)

-- so the one that runs may be set before or after it
pub begun-after : (begun : Option ShellStart) (number : Option ℕ) (shells : List (Option ShellState)) (k : ℕ) (shell : ShellState) (now : Option ShellState)
    → IsFree shells number → found shells k ≡ Some shell → with_begun begun number (slice_set shells (k - 1) now) ≡ slice_set (with_begun begun number shells) (k - 1) now
begun-after None number shells k shell now free e = refl
begun-after (Some begun) None shells k shell now free e = refl
begun-after (Some begun) (Some number) shells k shell now free e =
    set-swap shells (k - 1) (number - 1) now (Some (begun_shell number begun)) (λ same. other-place shells number k shell free e (sym same))

-- the codes that a turn leaves at the end of its shell
abbrev pub codes_of_end : Bool → Codes → Option Codes
codes_of_end done codes = if done then Some codes else None

pub codes-left : (k : ℕ) (moved : List Renamed) (t : TurnResult) →
    final_codes k (Some (carried_or_same moved (shell_of_turn t))) ≡ codes_of_end (is_done k t.frames) t.course.parts.codes
codes-left k [] t = refl
codes-left k (moved ∷ more) t = refl

pub shells-left : (done : Bool) (codes : Codes) (k : ℕ) (shells : List (Option ShellState)) (shell : ShellState) →
    remaining_shells (codes_of_end done codes) k (slice_set shells (k - 1) (Some shell)) ≡ slice_set shells (k - 1) (if done then None else Some shell)
shells-left true codes k shells shell = set-over shells (k - 1) (Some shell) None
shells-left false codes k shells shell = refl

pub ended-left : (done : Bool) (codes : Codes) (k : ℕ) (ended : List Codes) → recorded_codes (codes_of_end done codes) k ended ≡ codes_of_ended done k codes ended
ended-left true codes k ended = refl
ended-left false codes k ended = refl
