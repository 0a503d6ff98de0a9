-- where a Skip leads: to the first of two lines, each the first in an ascending list
use Rattle.std.proofs.Common.{ℕ, zero, suc, ◌+◌, ◌-◌, ◌<◌, ◌≤◌, ◌≡◌, ◌∙◌, ◌^◌, List, Bool, true, false, cond, ◌&&◌, ◌||◌, Option, Some, None, length, map, nat_lt, refl, ap, sym, arith}
use Rattle.std.specs.List.{filter, find, range_with_len}
use Rattle.std.specs.List.Sorted.{IsNonDecreasing, IsNonDecreasingBy}
use Rattle.std.specs.Option.{IfSome, option_map}
use Rattle.std.proofs.lemmas.Bool.{both_ways, cond_both}
use Rattle.std.proofs.lemmas.Bool.Decides.{nat_tests}
use Rattle.std.proofs.lemmas.List.{get_or-map, length-map}
use Rattle.std.proofs.lemmas.List.FromFn.{get_or-range_with_len, length-range_with_len}
use Rattle.std.proofs.lemmas.List.Kept.{IsNonDecreasingBy-filter}
use Rattle.std.proofs.lemmas.Option.{IfSome_then}
use Rattle.ados_text.specs.Text.{Text}
use Rattle.ados_resident.specs.declared.dialects.Dialect.{Dialect}
use Rattle.ados_resident.specs.declared.dialects.Dialect.TheVariants.{Full}
use Rattle.ados_script.specs.declared.heads.Head.{Head}
use Rattle.ados_script.specs.declared.heads.Head.TheVariants.{If, Else, EndIf, EndSkip, Lab, Other}
use Rattle.ados_script.specs.declared.labels.Label.{Label}
use Rattle.ados_script.specs.Blocks.{ends_block}
use Rattle.ados_script.specs.Heads.{head_of, label_of}
use Rattle.ados_script.specs.Jumps.{jump_to_next, LeadsWithin}
use Rattle.ados_script.specs.Lines.{numbers_below, is_some_and, line_of}
use Rattle.ados_script.specs.Phrases.{phrase_of}
use Rattle.ados_script.specs.Skips.{jump_past_stop, is_end_skip, is_end_skip_at, is_sought, skip_below, stops, stops_at}
use Rattle.ados_script.specs.Tables.{jump_past_first, first_below, has_text, is_lab, is_lab_at, label_at, labels_below, nearer_of, sought_at, text_or, AreByText}
use Rattle.ados_script.proofs.LineLemmas.{find-within, found_within}
use Rattle.ados_script.proofs.ListLemmas.{find-alike, find-filter, find-map}

and-true : (b : Bool) → (b && true) ≡ b
and-true true = refl
and-true false = refl

and-false : (b : Bool) → (b && false) ≡ false
and-false true = refl
and-false false = refl

or-false : (b : Bool) → b ≡ (b || false)
or-false true = refl
or-false false = refl

and-both : (a b c : Bool) → (a && (b && c)) ≡ ((a && b) && c)
and-both true b c = refl
and-both false b c = refl

-- numbers above a limit
above-all : (test : ℕ → Bool) (i a n : ℕ) → i < a → find (λ j. test j && nat_lt i j) (range_with_len a n) ≡ find test (range_with_len a n)
above-all test i a zero h = refl
above-all test i a (suc n) h =
    let high : nat_lt i a ≡ true = grind (arith, nat_tests) in
    rw (high, and-true (test a), above-all test i (a + 1) n (omega arith)) refl

-- the numbers up to the limit are skipped
low-passed : (test : ℕ → Bool) (i k a n : ℕ) → a + k ≤ i + 1
    → find (λ j. test j && nat_lt i j) (range_with_len a n) ≡ find (λ j. test j && nat_lt i j) (range_with_len (a + k) (n - k))
low-passed test i zero a n h =
    let here : a + 0 ≡ a = omega arith in
    let all : n - 0 ≡ n = omega arith in
    rw (here, all) refl
low-passed test i (suc k) a zero h = let none : 0 - suc k ≡ 0 = omega arith in rw none refl
low-passed test i (suc k) a (suc n) h =
    let low : nat_lt i a ≡ false = grind (arith, nat_tests) in
    let from : a + suc k ≡ a + 1 + k = omega arith in
    let left : suc n - suc k ≡ n - k = omega arith in
    rw (low, and-false (test a), from, left) (low-passed test i k (a + 1) n (omega arith))

above-is : (test : ℕ → Bool) (lines : List Text) (i : ℕ) → find (λ j. test j && nat_lt i j) (numbers_below lines 0) ≡ find test (numbers_below lines i)
above-is test lines i =
    let from : 1 + i ≡ i + 1 = omega arith in
    let left : length lines - 0 - i ≡ length lines - i = omega arith in
    low-passed test i i 1 (length lines - 0) (omega arith) ∙ rw (from, left) (above-all test i (i + 1) (length lines - i) (omega arith))

-- the first of a list's numbers below a line is the first line there that passes the list's test
pub first-is : (test : ℕ → Bool) (lines : List Text) (i : ℕ) → first_below (filter test (numbers_below lines 0)) i ≡ find test (numbers_below lines i)
first-is test lines i = find-filter (λ j. nat_lt i j) test (numbers_below lines 0) ∙ above-is test lines i

numbered : (text_of : Text → Text) (lines : List Text) (o : Option ℕ) → option_map (λ (label : Label). label.line) (option_map (label_at text_of lines) o) ≡ o
numbered text_of lines None = refl
numbered text_of lines (Some j) = refl

-- line j is a Lab with this label
abbrev pub labelled_at : (Text → Text) → Text → List Text → ℕ → Bool
labelled_at text_of text lines j = is_lab_at lines j && has_text text (label_at text_of lines j)

-- what is found in a table of labels
pub label-is : (text_of : Text → Text) (text : Text) (lines : List Text) (labels : List Label) (i : ℕ) → AreByText text_of lines labels
    → option_map (λ (label : Label). label.line) (find (λ (label : Label). nat_lt i label.line) (filter (has_text text) labels)) ≡ find (labelled_at text_of text lines) (numbers_below lines i)
label-is text_of text lines labels i are =
    ap (λ (ls : List Label). option_map (λ (label : Label). label.line) (find (λ (label : Label). nat_lt i label.line) ls)) (are.all text)
    ∙ ap (option_map (λ (label : Label). label.line))
    (find-filter (λ (label : Label). nat_lt i label.line) (has_text text) (labels_below text_of lines 0)
    ∙ find-map (λ (label : Label). has_text text label && nat_lt i label.line) (label_at text_of lines) (filter (is_lab_at lines) (numbers_below lines 0))
    ∙ ap (option_map (label_at text_of lines)) (find-filter (λ j. has_text text (label_at text_of lines j) && nat_lt i j) (is_lab_at lines) (numbers_below lines 0)))
    ∙ numbered text_of lines (find (λ j. is_lab_at lines j && (has_text text (label_at text_of lines j) && nat_lt i j)) (numbers_below lines 0))
    ∙ find-alike _ (λ j. labelled_at text_of text lines j && nat_lt i j) (λ j. and-both (is_lab_at lines j) (has_text text (label_at text_of lines j)) (nat_lt i j)) (numbers_below lines 0)
    ∙ above-is (labelled_at text_of text lines) lines i

-- the first line that passes one of two tests is the nearer one of the first two
nearer-here : (a : ℕ) (p q : Bool) (first second : Option ℕ) → IfSome first (λ j. a < j) → IfSome second (λ j. a < j)
    → cond (p || q) (Some a) (nearer_of first second) ≡ nearer_of (cond p (Some a) first) (cond q (Some a) second)
nearer-here a false false first second h k = refl
nearer-here a true true first second h k = cond_both (nat_lt a a) (Some a) (Some a) (λ (o : Option ℕ). Some a ≡ o) (λ _. refl) (λ _. refl)
nearer-here a true false first None h k = refl
nearer-here a true false first (Some j) h k = let near : nat_lt a j ≡ true = grind (arith, nat_tests) in rw near refl
nearer-here a false true None second h k = refl
nearer-here a false true (Some j) second h k = let far : nat_lt j a ≡ false = grind (arith, nat_tests) in rw far refl

either-from : (p q : ℕ → Bool) (a n : ℕ) → find (λ j. p j || q j) (range_with_len a n) ≡ nearer_of (find p (range_with_len a n)) (find q (range_with_len a n))
either-from p q a zero = refl
either-from p q a (suc n) =
    rw (either-from p q (a + 1) n)
    (nearer-here a (p a) (q a) (find p (range_with_len (a + 1) n)) (find q (range_with_len (a + 1) n))
    (IfSome_then (find p (range_with_len (a + 1) n)) (find-within p (a + 1) n) (λ j h. omega arith))
    (IfSome_then (find q (range_with_len (a + 1) n)) (find-within q (a + 1) n) (λ j h. omega arith)))

and-or : (a b c : Bool) → ((a && b) || (a && c)) ≡ (a && (b || c))
and-or true b c = refl
and-or false b c = refl

-- in Full a Lab is found by its label or by its phrase
pub phrase-is : (text : Text) (lines : List Text) (i : ℕ)
    → nearer_of (find (labelled_at label_of text lines) (numbers_below lines i)) (find (labelled_at phrase_of text lines) (numbers_below lines i))
    ≡ find (sought_at Full (Some text) lines) (numbers_below lines i)
phrase-is text lines i =
    sym (either-from (labelled_at label_of text lines) (labelled_at phrase_of text lines) (i + 1) (length lines - i))
    ∙ find-alike _ (sought_at Full (Some text) lines) (λ j. and-or (is_lab_at lines j) (has_text text (label_at label_of lines j)) (has_text text (label_at phrase_of lines j))) (numbers_below lines i)

pub any-is : (dialect : Dialect) (lines : List Text) (i : ℕ) → find (is_lab_at lines) (numbers_below lines i) ≡ find (sought_at dialect None lines) (numbers_below lines i)
any-is dialect lines i = find-alike (is_lab_at lines) (sought_at dialect None lines) (λ j. sym (and-true (is_lab_at lines j))) (numbers_below lines i)

-- lists of numbers that passed a test are ascending
below-rises : (lines : List Text) → IsNonDecreasing (numbers_below lines 0)
below-rises lines i j d a b =
    let long = length-range_with_len 1 (length lines - 0) in
    let first = get_or-range_with_len 1 (length lines - 0) i d (omega arith) in
    let second = get_or-range_with_len 1 (length lines - 0) j d (omega arith) in
    omega arith

pub numbers_rise : (test : ℕ → Bool) (lines : List Text) → IsNonDecreasing (filter test (numbers_below lines 0))
numbers_rise test lines = IsNonDecreasingBy-filter (λ j. j) test (numbers_below lines 0) (below-rises lines)

labels-rise : (text_of : Text → Text) (lines : List Text) (js : List ℕ) → IsNonDecreasing js → IsNonDecreasingBy (λ (label : Label). label.line) (map (label_at text_of lines) js)
labels-rise text_of lines js up i j d a b =
    let long = length-map js (label_at text_of lines) in
    let first = ap (λ (label : Label). label.line) (get_or-map (label_at text_of lines) js i 0 d (omega arith)) in
    let second = ap (λ (label : Label). label.line) (get_or-map (label_at text_of lines) js j 0 d (omega arith)) in
    rw (first, second) (up i j 0 a (omega arith))

pub text_rises : (text_of : Text → Text) (text : Text) (lines : List Text) (labels : List Label) → AreByText text_of lines labels → IsNonDecreasingBy (λ (label : Label). label.line) (filter (has_text text) labels)
text_rises text_of text lines labels are =
    rw (are.all text) (IsNonDecreasingBy-filter (λ (label : Label). label.line) (has_text text) (labels_below text_of lines 0) (labels-rise text_of lines (filter (is_lab_at lines) (numbers_below lines 0)) (numbers_rise (is_lab_at lines) lines)))

-- a line stops a Skip if it is a Lab that is looked for, or an EndSkip; no line is both
record Stops (stops lab end : Bool) : Type 0 where
  pub either : stops ≡ (lab || end)
  pub apart : (lab && end) ≡ false

head_stops : (dialect : Dialect) (label : Option Text) (line : Text) (head : Head) → Stops (stops dialect label line head) (is_lab head && is_sought dialect label line) (is_end_skip head)
head_stops dialect label line If = record { either = refl; apart = refl }
head_stops dialect label line Else = record { either = refl; apart = refl }
head_stops dialect label line EndIf = record { either = refl; apart = refl }
head_stops dialect label line EndSkip = record { either = refl; apart = refl }
head_stops dialect label line Lab = record { either = or-false (is_sought dialect label line); apart = and-false (is_sought dialect label line) }
head_stops dialect label line Other = record { either = refl; apart = refl }

line_stops : (dialect : Dialect) (label : Option Text) (line : Option Text)
    → Stops (is_some_and (λ line. stops dialect label line (head_of line)) line) (is_some_and (λ line. is_lab (head_of line)) line && is_sought dialect label (text_or line)) (is_some_and (λ line. is_end_skip (head_of line)) line)
line_stops dialect label None = record { either = refl; apart = refl }
line_stops dialect label (Some line) = head_stops dialect label line (head_of line)

-- the first of the lines that stop it, by what is found after them
nearer : (lines : List Text) (a : ℕ) (stop lab end : Bool) (stops labs ends : Option ℕ) → is_end_skip_at lines a ≡ end → stop ≡ (lab || end) → (lab && end) ≡ false
    → IfSome labs (λ j. a < j) → IfSome ends (λ j. a < j) → jump_past_stop lines stops ≡ jump_past_first labs ends
    → jump_past_stop lines (cond stop (Some a) stops) ≡ jump_past_first (cond lab (Some a) labs) (cond end (Some a) ends)
nearer lines a stop false false stops labs ends at either apart lab_far end_far more = rw either more
nearer lines a stop true false stops labs None at either apart lab_far end_far more = rw (either, at) refl
nearer lines a stop true false stops labs (Some j) at either apart lab_far end_far more =
    let far : nat_lt j a ≡ false = grind (arith, nat_tests) in
    rw (either, at, far) refl
nearer lines a stop false true stops None ends at either apart lab_far end_far more = rw (either, at) refl
nearer lines a stop false true stops (Some j) ends at either apart lab_far end_far more =
    let near : nat_lt a j ≡ true = grind (arith, nat_tests) in
    rw (either, at, near) refl
nearer lines a stop true true stops labs ends at either apart lab_far end_far more = absurd (both_ways true apart refl)

first_stop : (dialect : Dialect) (label : Option Text) (lines : List Text) (a n : ℕ)
    → jump_past_stop lines (find (stops_at dialect label lines) (range_with_len a n)) ≡ jump_past_first (find (sought_at dialect label lines) (range_with_len a n)) (find (is_end_skip_at lines) (range_with_len a n))
first_stop dialect label lines a zero = refl
first_stop dialect label lines a (suc n) =
    let kind = line_stops dialect label (line_of lines a) in
    nearer lines a (stops_at dialect label lines a) (sought_at dialect label lines a) (is_end_skip_at lines a) _ _ _ refl kind.either kind.apart
    (IfSome_then (find (sought_at dialect label lines) (range_with_len (a + 1) n)) (find-within (sought_at dialect label lines) (a + 1) n) (λ j h. omega arith))
    (IfSome_then (find (is_end_skip_at lines) (range_with_len (a + 1) n)) (find-within (is_end_skip_at lines) (a + 1) n) (λ j h. omega arith))
    (first_stop dialect label lines (a + 1) n)

-- what the tables find for a Skip
pub record AreFound (dialect : Dialect) (label : Option Text) (lines : List Text) (i : ℕ) (lab end : Option ℕ) : Type 0 where
  pub lab_is : lab ≡ find (sought_at dialect label lines) (numbers_below lines i)
  pub end_is : end ≡ find (is_end_skip_at lines) (numbers_below lines i)

pub skip-is : {dialect : Dialect} {label : Option Text} {lines : List Text} {i : ℕ} {lab end : Option ℕ} → AreFound dialect label lines i lab end → jump_past_first lab end ≡ skip_below dialect label lines i
skip-is {dialect} {label} {lines} {i} are = rw (are.lab_is, are.end_is) (sym (first_stop dialect label lines (i + 1) (length lines - i)))

-- a line that was found is one of the lines
abbrev pub IsWithin : List Text → Option ℕ → Type 0
IsWithin lines o = IfSome o (λ j. (0 < j) × (j ≤ length lines))

pub found-within : (test : ℕ → Bool) (lines : List Text) (i : ℕ) (o : Option ℕ) → o ≡ find test (numbers_below lines i) → IsWithin lines o
found-within test lines i o e = rw e (IfSome_then (find test (numbers_below lines i)) (found_within test lines i) (λ j h. (omega arith, h.1)))

pub leads : (lines : List Text) (o : Option ℕ) → IsWithin lines o → LeadsWithin lines (jump_to_next o)
leads lines None h = tt
leads lines (Some j) h = (omega arith, omega arith)

pub leads_first : (lines : List Text) (lab end : Option ℕ) → IsWithin lines lab → IsWithin lines end → LeadsWithin lines (jump_past_first lab end)
leads_first lines None None h k = tt
leads_first lines (Some lab) None h k = (omega arith, omega arith)
leads_first lines None (Some end) h k = (omega arith, omega arith)
leads_first lines (Some lab) (Some end) h k = cond_both (nat_lt end lab) _ _ (LeadsWithin lines) (λ _. (omega arith, omega arith)) (λ _. (omega arith, omega arith))

pub small : (lines : List Text) (o : Option ℕ) → length lines < 2 ^ 63 → IsWithin lines o → IfSome o (λ j. j + 1 < 2 ^ 64)
small lines o few h = IfSome_then o h (λ j k. omega (arith, few))

-- so is one at which a block ends
pub block-within : (at_else : Bool) (lines : List Text) (i : ℕ) (o : Option ℕ) →
    o ≡ find (ends_block at_else (map head_of lines) i) (numbers_below (map head_of lines) i) → IsWithin lines o
block-within at_else lines i o e =
    let long : length (map head_of lines) ≡ length lines = length-map lines head_of in
    let test : ℕ → Bool = ends_block at_else (map head_of lines) i in
    rw e (IfSome_then (find test (numbers_below (map head_of lines) i)) (found_within test (map head_of lines) i) (λ j h. (omega arith, omega (arith, h.1, long))))
