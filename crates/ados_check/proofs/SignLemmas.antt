-- Signs in lines, and the problems that speak of them.
use Rattle.std.proofs.Common.{ℕ, zero, suc, ◌+◌, ◌<◌, ◌≤◌, ◌≡◌, ◌∙◌, ◌==◌, ◌&&◌, ◌||◌, ◌-◌, List, [], ◌∷◌, ◌++◌, Bool, true, false, not, cond, Option, Some, None, nat_cmp, refl, ap, sym, inl, inr, arith, length, take, get_or, slice_index}
use Rattle.std.specs.Ordering.{is_lt}
use Rattle.std.specs.List.{filter, find, flat_map, list_any, onto_first, slice_split}
use Rattle.std.specs.List.Sorted.{IsStableBy, ties}
use Rattle.std.specs.Str.{IsAscii}
use Rattle.std.proofs.lemmas.Bool.{cases_lt, both_ways}
use Rattle.std.proofs.lemmas.Bool.Decides.{nat_tests}
use Rattle.std.proofs.lemmas.List.Concat.{flat_map-append}
use Rattle.std.proofs.lemmas.List.Elements.{filter-append}
use Rattle.ados_text.specs.Text.{Bytes, is_past_ascii}
use Rattle.ados_text.specs.Lines.{is_newline}
use Rattle.ados_line.specs.Comment.{comment_start, without_comment}
use Rattle.ados_check.specs.declared.findings.Finding.{Finding}
use Rattle.ados_check.specs.declared.findings.Problem.{Problem}
use Rattle.ados_check.specs.declared.findings.Problem.TheVariants.{BadDirective}
use Rattle.ados_check.specs.Signs.{file_line, first_sign, is_at, is_dotted, is_remark, is_return, listed, sign_of, signs_at, signs_told, told_sign}

-- one more problem speaks of its byte in its line
pub told_more : (number : ℕ) (found : List Finding) (one : Finding)
    → signs_told number (found ++ one ∷ []) ≡ signs_told number found ++ signs_told number (one ∷ [])
told_more number found one =
    ap (flat_map (λ one. listed (told_sign one.problem))) (filter-append (is_at number) found (one ∷ []))
    ∙ flat_map-append (λ one. listed (told_sign one.problem)) (filter (is_at number) found) (filter (is_at number) (one ∷ []))

none-told : (b : Bool) (one : Finding) → told_sign one.problem ≡ None → flat_map (λ (one : Finding). listed (told_sign one.problem)) (cond b (one ∷ []) []) ≡ []
none-told true one none = rw none refl
none-told false one none = refl

append-none : {X : Type 0} (xs ys : List X) → ys ≡ [] → xs ++ ys ≡ xs
append-none xs ys none = rw none (append-nil xs)
  where
    append-nil : {X : Type 0} (xs : List X) → xs ++ [] ≡ xs
    append-nil [] = refl
    append-nil (x ∷ xs) = ap (λ l. x ∷ l) (append-nil xs)

-- a problem that speaks of no byte changes nothing
pub told_other : (number : ℕ) (found : List Finding) (one : Finding) → told_sign one.problem ≡ None
    → signs_told number (found ++ one ∷ []) ≡ signs_told number found
told_other number found one none =
    told_more number found one ∙ append-none (signs_told number found) (signs_told number (one ∷ [])) (none-told (is_at number one) one none)

-- What is told of the lines up to one: each of their bytes, and nothing of further lines.
abbrev pub ToldUpTo : ℕ → Bytes → List Finding → Type 0
ToldUpTo place bytes found = ((number : ℕ) → number ≤ place → signs_told number found ≡ signs_at bytes number) × ((number : ℕ) → place < number → signs_told number found ≡ [])

pub none_yet : (bytes : Bytes) → ToldUpTo 0 bytes []
none_yet bytes = (at-zero, λ number after. refl)
  where
    at-zero : (number : ℕ) → number ≤ 0 → [] ≡ signs_at bytes number
    at-zero zero within = refl
    at-zero (suc number) within = absurd (omega (arith, within))

-- the byte of the next line
next-sign : (bytes : Bytes) (place number : ℕ) (sign : Option ℕ) → place < number → number ≤ place + 1
    → sign_of (is_dotted bytes) (file_line bytes place) ≡ sign → listed sign ≡ signs_at bytes number
next-sign bytes place number sign after within is = elim-number number after within
  where
    elim-number : (number : ℕ) → place < number → number ≤ place + 1 → listed sign ≡ signs_at bytes number
    elim-number zero after within = absurd (omega (arith, after))
    elim-number (suc k) after within = let same : k ≡ place = omega (arith, after, within) in rw (same, is) refl

-- the next line has no sign
pub none_more : (place : ℕ) (bytes : Bytes) (found : List Finding) → ToldUpTo place bytes found
    → sign_of (is_dotted bytes) (file_line bytes place) ≡ None → ToldUpTo (place + 1) bytes found
none_more place bytes found told none = (
  λ number within. elim (cases_lt place number) [
    | inl after ↦ told.1 number after ∙ next-sign bytes place number None after within none
    | inr before ↦ told.0 number before
  ],
  λ number after. told.1 number (omega (arith, after)),
)

here : (number : ℕ) (one : Finding) (byte : ℕ) → is_at number one ≡ true → told_sign one.problem ≡ Some byte → signs_told number (one ∷ []) ≡ byte ∷ []
here number one byte at told = rw (at, told) refl

elsewhere : (number : ℕ) (one : Finding) → is_at number one ≡ false → signs_told number (one ∷ []) ≡ []
elsewhere number one at = rw at refl

-- the next line has one, and a problem of it speaks of it
pub one_more : (place byte : ℕ) (bytes : Bytes) (found : List Finding) (problem : Problem) → ToldUpTo place bytes found
    → sign_of (is_dotted bytes) (file_line bytes place) ≡ Some byte → told_sign problem ≡ Some byte
    → ToldUpTo (place + 1) bytes (found ++ record { line = place + 1; problem = problem } ∷ [])
one_more place byte bytes found problem told sign speaks = (
  λ number within. told_more number found one ∙ elim (cases_lt place number) [
    | inl after ↦
        let at : is_at number one ≡ true = (let same : number ≡ place + 1 = omega (arith, after, within) in grind (arith, nat_tests)) in
        ap (λ l. l ++ signs_told number (one ∷ [])) (told.1 number after) ∙ here number one byte at speaks ∙ next-sign bytes place number (Some byte) after within sign
    | inr before ↦
        append-none (signs_told number found) (signs_told number (one ∷ [])) (elsewhere number one (grind (arith, nat_tests))) ∙ told.0 number before
  ],
  λ number after.
      told_more number found one
      ∙ append-none (signs_told number found) (signs_told number (one ∷ [])) (elsewhere number one (grind (arith, nat_tests)))
      ∙ told.1 number (omega (arith, after)),
)
  where
    one : Finding
    one = record { line = place + 1; problem = problem }

-- a list of which no byte passes, and so none of its parts
abbrev pub HasNone : (ℕ → Bool) → Bytes → Type 0
HasNone p bytes = find p bytes ≡ None

abbrev is-none : Option ℕ → Bool
is-none None = true
is-none (Some c) = false

rest-test : (p : ℕ → Bool) (b : Bool) (c : ℕ) (cs : Bytes) → cond b (Some c) (find p cs) ≡ None → HasNone p cs
rest-test p true c cs h = absurd (both_ways false refl (ap is-none h))
rest-test p false c cs h = h

rest-none : (p : ℕ → Bool) (c : ℕ) (cs : Bytes) → HasNone p (c ∷ cs) → HasNone p cs
rest-none p c cs none = rest-test p (p c) c cs none

first-test : (p : ℕ → Bool) (b : Bool) (c : ℕ) (cs : Bytes) → cond b (Some c) (find p cs) ≡ None → b ≡ false
first-test p true c cs h = absurd (both_ways false refl (ap is-none h))
first-test p false c cs h = refl

first-none : (p : ℕ → Bool) (c : ℕ) (cs : Bytes) → HasNone p (c ∷ cs) → p c ≡ false
first-none p c cs none = first-test p (p c) c cs none

none-in-front : (p : ℕ → Bool) (n : ℕ) (cs : Bytes) → HasNone p cs → HasNone p (take n cs)
none-in-front p zero cs none = refl
none-in-front p (suc n) [] none = refl
none-in-front p (suc n) (c ∷ cs) none = rw (first-none p c cs none) (none-in-front p n cs (rest-none p c cs none))

none-onto : (p : ℕ → Bool) (c : ℕ) (parts : List Bytes) → p c ≡ false → ((k : ℕ) → HasNone p (get_or parts k [])) → (k : ℕ) → HasNone p (get_or (onto_first c parts) k [])
none-onto p c [] low none zero = rw low refl
none-onto p c [] low none (suc k) = refl
none-onto p c (part ∷ parts) low none zero = rw low (none 0)
none-onto p c (part ∷ parts) low none (suc k) = none (suc k)

none-in-test : (p : ℕ → Bool) (b : Bool) (c : ℕ) (parts : List Bytes) → p c ≡ false → ((k : ℕ) → HasNone p (get_or parts k []))
    → (k : ℕ) → HasNone p (get_or (cond b ([] ∷ parts) (onto_first c parts)) k [])
none-in-test p true c parts low none zero = refl
none-in-test p true c parts low none (suc k) = none k
none-in-test p false c parts low none k = none-onto p c parts low none k

none-in-part : (p : ℕ → Bool) (cs : Bytes) → HasNone p cs → (k : ℕ) → HasNone p (get_or (slice_split is_newline cs) k [])
none-in-part p [] none zero = refl
none-in-part p [] none (suc k) = refl
none-in-part p (c ∷ cs) none k =
    none-in-test p (is_newline c) c (slice_split is_newline cs) (first-none p c cs none) (none-in-part p cs (rest-none p c cs none)) k

ascii-none : (cs : Bytes) → IsAscii cs → HasNone is_past_ascii cs
ascii-none [] ascii = refl
ascii-none (c ∷ cs) ascii =
    let low : is_past_ascii c ≡ false = (let first : c < 128 = ascii 0 in grind (arith, nat_tests)) in
    rw low (ascii-none cs (λ i. ascii (suc i)))

any-none : (p : ℕ → Bool) (cs : Bytes) → list_any p cs ≡ false → HasNone p cs
any-none p [] none = refl
any-none p (c ∷ cs) none = by (p c) (λ rest. any-none p cs rest) none
  where
    by : (b : Bool) → (list_any p cs ≡ false → HasNone p cs) → (b || list_any p cs) ≡ false → cond b (Some c) (find p cs) ≡ None
    by true rest none = absurd (both_ways false refl (sym none))
    by false rest none = rest none

none-at : (line : Bytes) (k : ℕ) → HasNone is_return line → is_return (slice_index line k) ≡ false
none-at [] zero none = refl
none-at [] (suc k) none = refl
none-at (c ∷ cs) zero none = first-none is_return c cs none
none-at (c ∷ cs) (suc k) none = none-at cs k (rest-none is_return c cs none)

no-first-sign : (line text : Bytes) → HasNone is_past_ascii text → HasNone is_return line → first_sign line text ≡ None
no-first-sign line text low none = rw (low, none-at line (length line - 1) none) refl

no-sign : (dotted : Bool) (line : Bytes) → HasNone is_past_ascii line → HasNone is_return line → sign_of dotted line ≡ None
no-sign dotted line low none = by-test (dotted && is_remark line)
  where
    by-test : (b : Bool) → cond b None (first_sign line (without_comment line)) ≡ None
    by-test true = refl
    by-test false = no-first-sign line (without_comment line) (none-in-front is_past_ascii (comment_start line) line low) none

-- a file of ASCII without a carriage return has none
pub plain_none : (bytes : Bytes) → IsAscii bytes → list_any is_return bytes ≡ false → (number : ℕ) → signs_told number [] ≡ signs_at bytes number
plain_none bytes ascii none zero = refl
plain_none bytes ascii none (suc k) =
    let line = file_line bytes k in
    let low : HasNone is_past_ascii line = none-in-part is_past_ascii bytes (ascii-none bytes ascii) k in
    let kept : HasNone is_return line = none-in-part is_return bytes (any-none is_return bytes none) k in
    sym (ap listed (no-sign (is_dotted bytes) line low kept))

past-last : {X : Type 0} (lines : List (List X)) (k : ℕ) → length lines ≤ k → get_or lines k [] ≡ []
past-last [] k past = refl
past-last (line ∷ lines) zero past = absurd (omega (arith, past))
past-last (line ∷ lines) (suc k) past = past-last lines k (omega (arith, past))

-- what is told up to the last line of a file is told of all lines
pub told_all : (place : ℕ) (bytes : Bytes) (found : List Finding) → ToldUpTo place bytes found → length (slice_split is_newline bytes) ≤ place
    → (number : ℕ) → signs_told number found ≡ signs_at bytes number
told_all place bytes found told last number = elim (cases_lt place number) [
  | inl after ↦ told.1 number after ∙ sym (beyond number after)
  | inr before ↦ told.0 number before
]
  where
    beyond : (number : ℕ) → place < number → signs_at bytes number ≡ []
    beyond zero after = refl
    beyond (suc k) after =
        let none : file_line bytes k ≡ [] = past-last (slice_split is_newline bytes) k (omega (arith, after, last)) in
        ap (λ line. listed (sign_of (is_dotted bytes) line)) none ∙ ap listed (no-sign (is_dotted bytes) [] refl refl)

-- two problems of which neither comes before the other are of the same line
tied : (number : ℕ) (problem : Problem) (one : Finding)
    → ties (λ (a b : Finding). is_lt (nat_cmp a.line b.line)) (record { line = number; problem = problem }) one ≡ is_at number one
tied number problem one = tie number one.line
  where
    tie : (a b : ℕ) → (not (is_lt (nat_cmp a b)) && not (is_lt (nat_cmp b a))) ≡ (b == a)
    tie a b = grind (arith, nat_tests)

alike : (p q : Finding → Bool) → ((one : Finding) → p one ≡ q one) → (found : List Finding) → filter p found ≡ filter q found
alike p q same [] = refl
alike p q same (one ∷ found) = rw (same one, alike p q same found) refl

-- problems in the order of their lines: those of a line stay as they were
pub told_sorted : (number : ℕ) (old new : List Finding) → IsStableBy (λ (a b : Finding). is_lt (nat_cmp a.line b.line)) old new
    → signs_told number new ≡ signs_told number old
told_sorted number old new stable =
    ap (flat_map (λ one. listed (told_sign one.problem)))
    (alike (is_at number) _ (λ one. sym (tied number BadDirective one)) new
    ∙ stable (record { line = number; problem = BadDirective })
    ∙ alike _ (is_at number) (tied number BadDirective) old)
