-- What an event of a quiet shell leaves of the list of shells: who runs, who begins, and whom a break reaches.
use Rattle.std.proofs.Common.{◌≡◌, ◌≢◌, ◌∙◌, sym, ℕ, ◌<◌, zero, suc, ◌-◌, List, [], ◌∷◌, Bool, true, false, Option, Some, None, refl, ap, arith, map, option_map, is_some, is_none, ◌&&◌}
use Rattle.std.specs.List.{slice_get, slice_set}
use Rattle.std.specs.FinMap as finite
use Rattle.ados_ram.specs.Place.{key_of}
use Rattle.ados_find.specs.declared.codes.Codes.{Codes}
use Rattle.ados_find.specs.Shared.{SharedState}
use Rattle.ados_find.specs.declared.outcomes.Breaking.{Breaking}
use Rattle.ados_find.specs.declared.outcomes.Breaks.{Breaks}
use Rattle.ados_find.specs.declared.outcomes.Renamed.{Renamed}
use Rattle.ados_machine.specs.Phases.{Phase, Ready, GoingOn, Waiting}
use Rattle.ados_machine.specs.declared.phases.Wait.TheVariants.{ForAnswer, ForLines, ForStart, ForPiece, ForEnd}
use Rattle.ados_machine.specs.Breaks.{mark_in, marked_if, broken_shell, broken_place, broken_at, broken_number, shells_after_break}
use Rattle.ados_machine.specs.Shells.{ShellStart, begun_shell, ShellState, seen_of}
use Rattle.ados_machine.specs.World.{option_flatten}
use Rattle.ados_machine.specs.Carrying.{moved_objects}
use Rattle.ados_machine.specs.Step.{with_begun, codes_of_ended}
use Rattle.ados_machine.specs.Quiet.{marks_of}
use Rattle.ados_machine.proofs.Shells.{found, found-set_other, runs_pos, place_before, IsFree}
use Rattle.ados_machine.proofs.Moves.{placed-at}
use Rattle.ados_machine.proofs.Places.{map-set}
use Rattle.ados_machine.proofs.Alike.{Alike, alike-own, LooksLike}
use Rattle.ados_machine.proofs.Twins.{Any}

-- the shell's own event
running-at : (xs ys : List (Option ShellState)) (i : ℕ) → map is_some xs ≡ map is_some ys → is_some (option_flatten (slice_get xs i)) ≡ is_some (option_flatten (slice_get ys i))
running-at [] [] i e = refl
running-at [] (y ∷ ys) i e = cc
running-at (x ∷ xs) [] i e = cc
running-at (None ∷ xs) (None ∷ ys) zero e = refl
running-at (None ∷ xs) (Some y ∷ ys) zero e = cc
running-at (Some x ∷ xs) (None ∷ ys) zero e = cc
running-at (Some x ∷ xs) (Some y ∷ ys) zero e = refl
running-at (x ∷ xs) (y ∷ ys) (suc i) e = running-at xs ys i (cc e)

there-is : (o : Option (Option ShellState)) (shell : ShellState) (x : Option ShellState) → option_flatten o ≡ Some shell → o ≡ Some x → x ≡ Some shell
there-is None shell x e f = cc
there-is (Some o) shell x e f = cc (e, f)

pub own-shells : (j : ℕ) (xs ys : List (Option ShellState)) (shell : ShellState) (now : Option ShellState) → Alike LooksLike j 1 xs ys →
    found xs j ≡ Some shell → option_map seen_of now ≡ option_map seen_of (Some shell) → Alike LooksLike j 1 (slice_set xs (j - 1) now) ys
own-shells zero xs ys shell now alike is looks = cc
own-shells (suc i) xs ys shell now alike is looks =
    rw (place_before i) (alike-own LooksLike (suc i) 1 xs ys i now alike (omega arith)
    (λ x y there like. like ∙ (ap (λ s. option_map seen_of s) (there-is (slice_get xs i) shell x is there) ∙ sym looks)))

pub own-ended : (j : ℕ) (xs ys : List Codes) (codes : Codes) → 0 < j → Alike Any j 1 xs ys → Alike Any j 1 (slice_set xs (j - 1) codes) ys
own-ended j xs ys codes pos alike = alike-own Any j 1 xs ys (j - 1) codes alike (omega (arith, pos)) (λ x y there like. tt)

pub own-ended_with : (j : ℕ) (xs ys : List Codes) (done : Bool) (codes : Codes) → 0 < j → Alike Any j 1 xs ys → Alike Any j 1 (codes_of_ended done j codes xs) ys
own-ended_with j xs ys true codes pos alike = own-ended j xs ys codes pos alike
own-ended_with j xs ys false codes pos alike = alike

-- nothing has moved if the shared state is the same
there-or-not : {X : Type 0} (o : Option X) → (is_some o && is_none o) ≡ false
there-or-not None = refl
there-or-not (Some x) = refl

pub still : (old new : SharedState) (renamed : List Renamed) → new ≡ old → moved_objects old new renamed ≡ []
still old new [] e = refl
still old new (renamed ∷ more) e = rw (e, there-or-not (finite.get old.files (key_of renamed.from))) (still old new more e)

apart : (xs : List (Option ShellState)) (n j : ℕ) (shell : ShellState) → found xs n ≡ None → found xs j ≡ Some shell → n ≢ j
apart xs n j shell none is = λ e. cc

running-found : (xs ys : List (Option ShellState)) (k : ℕ) → map is_some xs ≡ map is_some ys → is_some (found xs k) ≡ is_some (found ys k)
running-found xs ys zero e = refl
running-found xs ys (suc i) e = running-at xs ys i e

-- no shell begins if the same numbers run after it
never-begins : (xs : List (Option ShellState)) (begun : ShellStart) (n j : ℕ) (shell : ShellState) (now : Option ShellState) → IsFree xs (Some n) →
    found xs j ≡ Some shell → map is_some (slice_set (with_begun (Some begun) (Some n) xs) (j - 1) now) ≡ map is_some xs → ⊥
never-begins xs begun n j shell now free is same =
    let there = placed-at xs n free.0 (Some (begun_shell n begun)) free.1 free.2 in
    let stands = found-set_other (with_begun (Some begun) (Some n) xs) j now n (apart xs n j shell there.1 is) (runs_pos xs j shell is) ∙ there.0 in
    let runs = running-found (slice_set (with_begun (Some begun) (Some n) xs) (j - 1) now) xs n same in
    let none = there.1 in
    cc (stands, none, runs)

pub quiet-begun : (xs : List (Option ShellState)) (begun : Option ShellStart) (n : Option ℕ) (j : ℕ) (shell : ShellState) (now : Option ShellState) →
    IsFree xs n → found xs j ≡ Some shell → map is_some (slice_set (with_begun begun n xs) (j - 1) now) ≡ map is_some xs → with_begun begun n xs ≡ xs
quiet-begun xs None n j shell now free is same = refl
quiet-begun xs (Some begun) None j shell now free is same = refl
quiet-begun xs (Some begun) (Some n) j shell now free is same = absurd (never-begins xs begun n j shell now free is same)

-- breaks keep which numbers run
running-place : (breaks : Breaks) (shell : Option ShellState) → is_some (broken_place breaks shell) ≡ is_some shell
running-place breaks None = refl
running-place breaks (Some shell) = refl

running-broken_at : (breaks : Breaks) (m : ℕ) (shells : List (Option ShellState)) → map is_some (broken_at breaks m shells) ≡ map is_some shells
running-broken_at breaks m [] = refl
running-broken_at breaks zero (shell ∷ shells) = ap (λ r. r ∷ map is_some shells) (running-place breaks shell)
running-broken_at breaks (suc m) (shell ∷ shells) = ap (λ r. is_some shell ∷ r) (running-broken_at breaks m shells)

running-broken_number : (breaks : Breaks) (n : ℕ) (shells : List (Option ShellState)) → map is_some (broken_number breaks n shells) ≡ map is_some shells
running-broken_number breaks zero shells = refl
running-broken_number breaks (suc m) shells = running-broken_at breaks m shells

running-broken_by : (breaking : Option Breaking) (shells : List (Option ShellState)) → map is_some (shells_after_break breaking shells) ≡ map is_some shells
running-broken_by None shells = refl
running-broken_by (Some breaking) shells = running-broken_number breaking.breaks breaking.shell shells

pub running-broken : (breaking : Option Breaking) (shells : List (Option ShellState)) (i : ℕ) (now : Option ShellState) →
    map is_some (slice_set (shells_after_break breaking shells) i now) ≡ map is_some (slice_set shells i now)
running-broken breaking shells i now =
    map-set is_some (shells_after_break breaking shells) i now
    ∙ (ap (λ r. slice_set r i (is_some now)) (running-broken_by breaking shells) ∙ sym (map-set is_some shells i now))

-- a break that leaves the marks and flags of others as they were changes nothing of them
unmarked-phase : (marks : Bool) (now : Phase) → mark_in (marked_if marks now) ≡ mark_in now → marked_if marks now ≡ now
unmarked-phase false now e = refl
unmarked-phase true Ready e = refl
unmarked-phase true (GoingOn parted) e = refl
unmarked-phase true (Waiting (ForAnswer asking)) e = refl
unmarked-phase true (Waiting (ForLines gathering)) e = refl
unmarked-phase true (Waiting (ForStart starting)) e = ap (λ m. Waiting (ForStart (record starting { marked = m }))) e
unmarked-phase true (Waiting (ForPiece child)) e = ap (λ m. Waiting (ForPiece (record child { marked = m }))) e
unmarked-phase true (Waiting (ForEnd child)) e = refl

unmarked : (breaks : Breaks) (x : Option ShellState) → option_map marks_of (broken_place breaks x) ≡ option_map marks_of x → broken_place breaks x ≡ x
unmarked breaks None e = refl
unmarked breaks (Some shell) e =
    let marks : marks_of (broken_shell breaks shell) ≡ marks_of shell = cc in
    rw (unmarked-phase breaks.marks shell.phase (ap (λ m. m.mark) marks), ap (λ m. m.flag) marks) refl

unmarked-at : (breaks : Breaks) (m : ℕ) (xs : List (Option ShellState)) → map (option_map marks_of) (broken_at breaks m xs) ≡ map (option_map marks_of) xs →
    broken_at breaks m xs ≡ xs
unmarked-at breaks m [] e = refl
unmarked-at breaks zero (x ∷ xs) e = ap (λ y. y ∷ xs) (unmarked breaks x (cc e))
unmarked-at breaks (suc m) (x ∷ xs) e = ap (λ ys. x ∷ ys) (unmarked-at breaks m xs (cc e))

unbroken-at : (breaks : Breaks) (m : ℕ) (xs : List (Option ShellState)) (i : ℕ) (now : Option ShellState) →
    slice_set (map (option_map marks_of) (slice_set (broken_at breaks m xs) i now)) i None ≡ slice_set (map (option_map marks_of) xs) i None →
    slice_set (broken_at breaks m xs) i now ≡ slice_set xs i now
unbroken-at breaks m [] i now e = refl
unbroken-at breaks zero (x ∷ xs) zero now e = refl
unbroken-at breaks (suc m) (x ∷ xs) zero now e = ap (λ ys. now ∷ ys) (unmarked-at breaks m xs (cc e))
unbroken-at breaks zero (x ∷ xs) (suc i) now e = ap (λ y. y ∷ slice_set xs i now) (unmarked breaks x (cc e))
unbroken-at breaks (suc m) (x ∷ xs) (suc i) now e = ap (λ ys. x ∷ ys) (unbroken-at breaks m xs i now (cc e))

unbroken-number : (breaks : Breaks) (n : ℕ) (xs : List (Option ShellState)) (i : ℕ) (now : Option ShellState) →
    slice_set (map (option_map marks_of) (slice_set (broken_number breaks n xs) i now)) i None ≡ slice_set (map (option_map marks_of) xs) i None →
    slice_set (broken_number breaks n xs) i now ≡ slice_set xs i now
unbroken-number breaks zero xs i now e = refl
unbroken-number breaks (suc m) xs i now e = unbroken-at breaks m xs i now e

pub unbroken : (breaking : Option Breaking) (xs : List (Option ShellState)) (i : ℕ) (now : Option ShellState) →
    slice_set (map (option_map marks_of) (slice_set (shells_after_break breaking xs) i now)) i None ≡ slice_set (map (option_map marks_of) xs) i None →
    slice_set (shells_after_break breaking xs) i now ≡ slice_set xs i now
unbroken None xs i now e = refl
unbroken (Some breaking) xs i now e = unbroken-number breaking.breaks breaking.shell xs i now e
