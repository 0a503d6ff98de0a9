-- One wait for each open child.
use Rattle.std.proofs.Common.{◌≡◌, ◌≢◌, ℕ, zero, suc, ◌<◌, ◌+◌, List, [], ◌∷◌, ◌++◌, Bool, true, false, Some, refl, sym, ap, ◌∙◌, inl, inr, arith, subst, get_or, length, map, filter, nat_lt, slice_set, append_assoc, append-nil, add-one}
use Rattle.std.specs.Prelude.{if◌then◌else◌, MatchBool}
use Rattle.std.specs.List.{range_with_len}
use Rattle.std.proofs.lemmas.Bool.{cases_eq}
use Rattle.std.proofs.lemmas.Grind.{common_steps}
use Rattle.std.proofs.lemmas.List.{map-append, get_or-set_same, get_or-set_other}
use Rattle.ados_machine.specs.declared.answers.Answer.{Answer}
use Rattle.ados_machine.specs.Children.{answers_wait}
use Rattle.ados_launcher.specs.declared.calls.Call.{Call}
use Rattle.ados_launcher.specs.declared.calls.Call.TheVariants.{Start as Starts, Read as Reads, Wait as Waits}
use Rattle.ados_launcher.specs.Lifecycles.{LifecycleState, Between, InReads, AfterReads, Broken, lifecycle_of, lifecycle_after_wait, is_open}
use Rattle.ados_launch.specs.Agreement.{AddsWait, AreWaits, AreOpenChildWaits, AreOver, IsOpenTable, WaitsForOpen, waited_child}
use Rattle.ados_launch.proofs.NextCall.{lifecycle-more}

-- a sequence once its open child was waited for
abbrev pub waited : LifecycleState → LifecycleState
waited InReads = Between
waited AfterReads = Between
waited lifecycle = lifecycle

-- the sequences below n were waited for
abbrev pub IsWaited : ℕ → List Call → List Call → Type 0
IsWaited n before after = (j : ℕ) → lifecycle_of j after ≡ (if nat_lt j n then waited (lifecycle_of j before) else lifecycle_of j before)

pub none-waited : (before : List Call) → IsWaited 0 before before
none-waited before j = grind (arith, common_steps)

waited-is : (lifecycle : LifecycleState) (a : Answer) → is_open lifecycle ≡ true → answers_wait a ≡ true → lifecycle_after_wait lifecycle a ≡ waited lifecycle
waited-is InReads a o f = rw f refl
waited-is AfterReads a o f = rw f refl
waited-is Between a o f = cc
waited-is Broken a o f = cc

closed-stays : (lifecycle : LifecycleState) → is_open lifecycle ≡ false → waited lifecycle ≡ lifecycle
closed-stays InReads o = cc
closed-stays AfterReads o = cc
closed-stays Between o = refl
closed-stays Broken o = refl

at : (n : ℕ) (x y : LifecycleState) → (if nat_lt n n then x else y) ≡ y
at n x y = grind (arith, common_steps)

later : (n : ℕ) (x y : LifecycleState) → (if nat_lt n (n + 1) then x else y) ≡ x
later n x y = grind (arith, common_steps)

past : (j n : ℕ) (x y : LifecycleState) → j ≢ n → (if nat_lt j (n + 1) then x else y) ≡ (if nat_lt j n then x else y)
past j n x y h = grind (arith, common_steps)

sequence-waited : (n : ℕ) (a : Answer) (mid : List Call) → lifecycle_of n (mid ++ Waits n a ∷ []) ≡ lifecycle_after_wait (lifecycle_of n mid) a
sequence-waited n a mid = lifecycle-more n mid (Waits n a) ∙ grind (arith, common_steps)

sequence-stays : (j n : ℕ) (a : Answer) (mid : List Call) → j ≢ n → lifecycle_of j (mid ++ Waits n a ∷ []) ≡ lifecycle_of j mid
sequence-stays j n a mid h = lifecycle-more j mid (Waits n a) ∙ grind (arith, common_steps)

-- an open child is waited for
waits-one : (n : ℕ) (a : Answer) (before mid after : List Call) → IsWaited n before mid → is_open (lifecycle_of n before) ≡ true → answers_wait a ≡ true → after ≡ mid ++ Waits n a ∷ []
    → IsWaited (n + 1) before after
waits-one n a before mid after w o f l j =
    elim (cases_eq j n) [
      | inl same ↦ subst (λ m. lifecycle_of m after ≡ (if nat_lt m (n + 1) then waited (lifecycle_of m before) else lifecycle_of m before)) (sym same)
          (rw l (sequence-waited n a mid) ∙ (ap (λ x. lifecycle_after_wait x a) (w n ∙ at n (waited (lifecycle_of n before)) (lifecycle_of n before))
          ∙ (waited-is (lifecycle_of n before) a o f ∙ sym (later n (waited (lifecycle_of n before)) (lifecycle_of n before)))))
      | inr apart ↦ rw l (sequence-stays j n a mid apart) ∙ (w j ∙ sym (past j n (waited (lifecycle_of j before)) (lifecycle_of j before) apart))
    ]

-- another is passed over
passes-one : (n : ℕ) (before mid : List Call) → IsWaited n before mid → is_open (lifecycle_of n before) ≡ false → IsWaited (n + 1) before mid
passes-one n before mid w o j =
    elim (cases_eq j n) [
      | inl same ↦ subst (λ m. lifecycle_of m mid ≡ (if nat_lt m (n + 1) then waited (lifecycle_of m before) else lifecycle_of m before)) (sym same)
          (w n ∙ (at n (waited (lifecycle_of n before)) (lifecycle_of n before) ∙ (sym (closed-stays (lifecycle_of n before) o) ∙ sym (later n (waited (lifecycle_of n before)) (lifecycle_of n before)))))
      | inr apart ↦ w j ∙ sym (past j n (waited (lifecycle_of j before)) (lifecycle_of j before) apart)
    ]

pub sequences-more : (n : ℕ) (b : Bool) (before mid after : List Call) → IsWaited n before mid → b ≡ is_open (lifecycle_of n before) → MatchBool b (AddsWait n mid after) (after ≡ mid) → IsWaited (n + 1) before after
sequences-more n true before mid after w o m = waits-one n m.answer before mid after w (sym o) m.fit m.calls_are
sequences-more n false before mid after w o m = subst (IsWaited (n + 1) before) (sym m) (passes-one n before mid w (sym o))

-- a child that is open and not yet passed is open still
pub still-open : (n : ℕ) (before mid : List Call) → IsWaited n before mid → is_open (lifecycle_of n before) ≡ true → is_open (lifecycle_of n mid) ≡ true
still-open n before mid w o = ap is_open (w n ∙ at n (waited (lifecycle_of n before)) (lifecycle_of n before)) ∙ o

whole-over : (lifecycle : LifecycleState) → lifecycle ≢ Broken → waited lifecycle ≡ Between
whole-over Between h = refl
whole-over InReads h = refl
whole-over AfterReads h = refl
whole-over Broken h = absurd (h refl)

closed-over : (lifecycle : LifecycleState) → lifecycle ≢ Broken → is_open lifecycle ≡ false → lifecycle ≡ Between
closed-over Between h o = refl
closed-over InReads h o = cc
closed-over AfterReads h o = cc
closed-over Broken h o = absurd (h refl)

over-by : (b : Bool) (lifecycle : LifecycleState) → lifecycle ≢ Broken → (b ≡ false → is_open lifecycle ≡ false) → (if b then waited lifecycle else lifecycle) ≡ Between
over-by true lifecycle h o = whole-over lifecycle h
over-by false lifecycle h o = closed-over lifecycle h (o refl)

-- at the end none is open
pub all-over : (table : List Bool) (n : ℕ) (before after : List Call) → IsWaited n before after → IsOpenTable table before → ((j : ℕ) → nat_lt j n ≡ false → get_or table j false ≡ false) → AreOver after
all-over table n before after w t past j =
    w j ∙ over-by (nat_lt j n) (lifecycle_of j before) (t.0 j) (λ e. sym (t.1 j) ∙ past j e)

-- the open children below n, in ascending order
abbrev pub open_below : List Call → ℕ → List ℕ
open_below calls n = filter (λ k. is_open (lifecycle_of k calls)) (range_with_len 0 n)

filter-append : (test : ℕ → Bool) (xs ys : List ℕ) → filter test (xs ++ ys) ≡ filter test xs ++ filter test ys
filter-append test [] ys = refl
filter-append test (x ∷ xs) ys = by (test x) (filter-append test xs ys)
  where
    by : (b : Bool) → filter test (xs ++ ys) ≡ filter test xs ++ filter test ys →
        (if b then x ∷ filter test (xs ++ ys) else filter test (xs ++ ys)) ≡ (if b then x ∷ filter test xs else filter test xs) ++ filter test ys
    by true e = ap (λ zs. x ∷ zs) e
    by false e = e

range-from : (n a : ℕ) → range_with_len a (suc n) ≡ range_with_len a n ++ (a + n) ∷ []
range-from zero a = ap (λ m. m ∷ []) (omega arith)
range-from (suc n) a = ap (λ xs. a ∷ xs) (range-from n (a + 1)) ∙ ap (λ m. a ∷ (range_with_len (a + 1) n ++ m ∷ [])) (omega arith)

range-more : (n : ℕ) → range_with_len 0 (n + 1) ≡ range_with_len 0 n ++ n ∷ []
range-more n = ap (range_with_len 0) (add-one n) ∙ (range-from n 0 ∙ ap (λ m. range_with_len 0 n ++ m ∷ []) (omega arith))

below-more : (calls : List Call) (n : ℕ) → open_below calls (n + 1) ≡ open_below calls n ++ (if is_open (lifecycle_of n calls) then n ∷ [] else [])
below-more calls n = ap (filter (λ k. is_open (lifecycle_of k calls))) (range-more n) ∙ filter-append (λ k. is_open (lifecycle_of k calls)) (range_with_len 0 n) (n ∷ [])

-- one wait was asked for each open child below n, in ascending order of number, and nothing else
pub record WaitsBelow (n : ℕ) (before after : List Call) : Type 0 where
  pub waits : List Call
  pub calls_are : after ≡ before ++ waits
  pub children_are : map waited_child waits ≡ map Some (open_below before n)
  pub fit : AreWaits waits

waits-append : (calls : List Call) (n : ℕ) (a : Answer) → AreWaits calls → answers_wait a ≡ true → AreWaits (calls ++ Waits n a ∷ [])
waits-append [] n a h f = (f, tt)
waits-append (Waits m b ∷ calls) n a h f = (h.0, waits-append calls n a h.1 f)
waits-append (Starts job b ∷ calls) n a h f = h
waits-append (Reads m b ∷ calls) n a h f = h

pub no-waits : (before : List Call) → WaitsBelow 0 before before
no-waits before = record { waits = []; calls_are = sym (append-nil before); children_are = refl; fit = tt }

one-wait : (n : ℕ) (a : Answer) (before mid after : List Call) → WaitsBelow n before mid → is_open (lifecycle_of n before) ≡ true → answers_wait a ≡ true → after ≡ mid ++ Waits n a ∷ [] →
    WaitsBelow (n + 1) before after
one-wait n a before mid after w o f l = record {
  waits = w.waits ++ Waits n a ∷ [];
  calls_are = l ∙ (ap (λ xs. xs ++ Waits n a ∷ []) w.calls_are ∙ append_assoc before w.waits (Waits n a ∷ []));
  children_are = map-append waited_child w.waits (Waits n a ∷ []) ∙ (ap (λ xs. xs ++ Some n ∷ []) w.children_are
      ∙ (sym (map-append Some (open_below before n) (n ∷ [])) ∙ ap (map Some) (sym (below-more before n ∙ ap (λ b. open_below before n ++ (if b then n ∷ [] else [])) o))));
  fit = waits-append w.waits n a w.fit f;
}

no-more : (n : ℕ) (before mid : List Call) → WaitsBelow n before mid → is_open (lifecycle_of n before) ≡ false → WaitsBelow (n + 1) before mid
no-more n before mid w o = record {
  waits = w.waits;
  calls_are = w.calls_are;
  children_are = w.children_are ∙ ap (map Some) (sym (below-more before n ∙ (ap (λ b. open_below before n ++ (if b then n ∷ [] else [])) o ∙ append-nil (open_below before n))));
  fit = w.fit;
}

pub waits-more : (n : ℕ) (b : Bool) (before mid after : List Call) → WaitsBelow n before mid → b ≡ is_open (lifecycle_of n before) → MatchBool b (AddsWait n mid after) (after ≡ mid) → WaitsBelow (n + 1) before after
waits-more n true before mid after w o m = one-wait n m.answer before mid after w (sym o) m.fit m.calls_are
waits-more n false before mid after w o m = subst (WaitsBelow (n + 1) before) (sym m) (no-more n before mid w (sym o))

pub all-waits : (before after : List Call) → WaitsBelow 21 before after → WaitsForOpen before after
all-waits before after w = record { waits = w.waits; calls_are = w.calls_are; are_for_open = (w.children_are, w.fit) }

filter-none : (test : ℕ → Bool) (xs : List ℕ) → ((k : ℕ) → test k ≡ false) → filter test xs ≡ []
filter-none test [] none = refl
filter-none test (x ∷ xs) none = rw (none x) (filter-none test xs none)

-- if no child is open none is waited for
pub none-open : (calls : List Call) → ((k : ℕ) → lifecycle_of k calls ≡ Between) → AreOpenChildWaits calls []
none-open calls between = (ap (map Some) (sym (filter-none (λ k. is_open (lifecycle_of k calls)) (range_with_len 0 21) (λ k. ap is_open (between k)))), tt)

-- a table that is filled up to n
filled-at : (n : ℕ) (b : Bool) (f : ℕ → Bool) → b ≡ f n → b ≡ (if nat_lt n (n + 1) then f n else false)
filled-at n b f e = grind (arith, common_steps)

filled-past : (n j : ℕ) (x : Bool) → j ≢ n → (if nat_lt j n then x else false) ≡ (if nat_lt j (n + 1) then x else false)
filled-past n j x h = grind (arith, common_steps)

pub filled-more : (t : List Bool) (n : ℕ) (b : Bool) (f : ℕ → Bool) → n < length t → b ≡ f n → ((j : ℕ) → get_or t j false ≡ (if nat_lt j n then f j else false))
    → (j : ℕ) → get_or (slice_set t n b) j false ≡ (if nat_lt j (n + 1) then f j else false)
filled-more t n b f few e h j =
    elim (cases_eq j n) [
      | inl same ↦ subst (λ m. get_or (slice_set t n b) m false ≡ (if nat_lt m (n + 1) then f m else false)) (sym same) (get_or-set_same t n b false few ∙ filled-at n b f e)
      | inr apart ↦ get_or-set_other t n j b false apart ∙ (h j ∙ filled-past n j (f j) apart)
    ]
