-- Scripts in which bytes are made blanks.
use Rattle.std.proofs.Common.{ℕ, zero, suc, ◌+◌, ◌-◌, ◌^◌, ◌≡◌, ◌∙◌, ◌<◌, ◌≤◌, ◌==◌, ◌&&◌, ◌||◌, ◌⊎◌, inl, inr, min, Bool, true, false, List, [], ◌∷◌, drop, drop-cons, get_or, length, map, slice_index, refl, sym, ap, arith}
use Rattle.std.specs.List.{list_any}
use Rattle.std.proofs.lemmas.Bool.Decides.{nat_tests}
use Rattle.ados_text.specs.Text.{Bytes, Text}
use Rattle.ados_resident.specs.declared.dialects.Dialect.{Dialect}
use Rattle.ados_check.specs.LeftOut.{IsBlanked, IsStruck, is_between, is_idle_in_line, is_idle_in_lines, is_in_idle, left_out_in, shown, struck}
use Rattle.ados_check.specs.declared.left_out.LeftOut.{LeftOut}
use Rattle.ados_check.specs.declared.phrases.Given.{Given}
use Rattle.ados_check.specs.declared.release_two.Command.{Command}
use Rattle.ados_check.proofs.ChangeLemmas.{ChangesOnce, and_none}

abbrev pub is_in_parts : ℕ → List (ℕ × List Given) → ℕ → Bool
is_in_parts from parts k = list_any (λ part. is_in_idle (from + part.0) part.1 k) parts

pub struck_again : ChangesOnce struck
struck_again true true c = refl
struck_again true false c = refl
struck_again false q c = refl

one-blanked : (p : Bool) (c : ℕ) → ((struck p c == c) || (struck p c == 32)) ≡ true
one-blanked true c = grind (arith, nat_tests)
one-blanked false c = grind (arith, nat_tests)

pub struck_blanked : (test : ℕ → Bool) (old new : Bytes) → IsStruck test old new → IsBlanked old new
struck_blanked test old new is = (
  is.0,
  λ k within. ap (λ c. (c == slice_index old k) || (c == 32)) (is.1 k within) ∙ one-blanked (test k) (slice_index old k),
)

-- two places that are the same as far as a place before both can tell
abbrev pub Alike : ℕ → ℕ → ℕ → Type 0
Alike k r s = (r ≡ s) ⊎ ((k < r) × (k < s))

below-or-not : (a b : ℕ) → (a < b) ⊎ (b ≤ a)
below-or-not a b = grind arith

-- a sum that stops at the largest number
pub alike_sum : (k r s : ℕ) → r ≡ min s (2 ^ 64 - 1) → k < 2 ^ 64 - 1 → Alike k r s
alike_sum k r s e within = elim (below-or-not s (2 ^ 64 - 1)) [
  | inl low ↦ inl (omega (arith, e, low))
  | inr high ↦ inr (omega (arith, e, high, within), omega (arith, high, within))
]

pub alike_more : (k r s p : ℕ) → Alike k r s → Alike k (r + p) (s + p)
alike_more k r s p (inl e) = inl (ap (λ n. n + p) e)
alike_more k r s p (inr far) = inr (omega (arith, far.0), omega (arith, far.1))

not-from : (k r from to : ℕ) → k < r → is_between (r + from) (r + to) k ≡ false
not-from k r from to far = grind (arith, nat_tests)

idle-far : (k r : ℕ) (options : List Given) → k < r → is_in_idle r options k ≡ false
idle-far k r [] far = refl
idle-far k r (given ∷ options) far =
    ap (λ b. (given.option.is_idle && b) || is_in_idle r options k) (not-from k r given.from given.to far)
    ∙ ap (λ b. b || is_in_idle r options k) (and_none given.option.is_idle) ∙ idle-far k r options far

parts-far : (k r : ℕ) (parts : List (ℕ × List Given)) → k < r → is_in_parts r parts k ≡ false
parts-far k r [] far = refl
parts-far k r (part ∷ parts) far =
    ap (λ b. b || is_in_parts r parts k) (idle-far k (r + part.0) part.1 (omega (arith, far))) ∙ parts-far k r parts far

lines-far : (commands : List Command) (dialect : Dialect) (k r : ℕ) (lines : List Text) → k < r → is_idle_in_lines commands dialect r lines k ≡ false
lines-far commands dialect k r [] far = refl
lines-far commands dialect k r (line ∷ lines) far =
    ap (λ b. b || is_idle_in_lines commands dialect (r + length line + 1) lines k) (parts-far k r (left_out_in commands dialect [] line) far)
    ∙ lines-far commands dialect k (r + length line + 1) lines (omega (arith, far))

idle-alike : (k r s : ℕ) (options : List Given) → Alike k r s → is_in_idle r options k ≡ is_in_idle s options k
idle-alike k r s options (inl e) = ap (λ n. is_in_idle n options k) e
idle-alike k r s options (inr far) = idle-far k r options far.0 ∙ sym (idle-far k s options far.1)

lines-alike : (commands : List Command) (dialect : Dialect) (k r s : ℕ) (lines : List Text) → Alike k r s
    → is_idle_in_lines commands dialect r lines k ≡ is_idle_in_lines commands dialect s lines k
lines-alike commands dialect k r s lines (inl e) = ap (λ n. is_idle_in_lines commands dialect n lines k) e
lines-alike commands dialect k r s lines (inr far) = lines-far commands dialect k r lines far.0 ∙ sym (lines-far commands dialect k s lines far.1)

-- the options of one command are struck
pub part_left : (from at k : ℕ) (one : LeftOut) (rest : List LeftOut) → at ≡ min (from + one.from) (2 ^ 64 - 1) → k < 2 ^ 64 - 1
    → is_in_parts from (map shown (one ∷ rest)) k ≡ (is_in_idle at one.options.items k || is_in_parts from (map shown rest) k)
part_left from at k one rest e within =
    ap (λ b. b || is_in_parts from (map shown rest) k) (sym (idle-alike k at (from + one.from) one.options.items (alike_sum k at (from + one.from) e within)))

-- those of one line are
pub line_left : (commands : List Command) (dialect : Dialect) (from end next k : ℕ) (line : Text) (lines : List Text)
    → end ≡ min (from + length line) (2 ^ 64 - 1) → next ≡ min (end + 1) (2 ^ 64 - 1) → k < 2 ^ 64 - 1
    → is_idle_in_lines commands dialect from (line ∷ lines) k ≡ (is_idle_in_line commands dialect [] from line k || is_idle_in_lines commands dialect next lines k)
line_left commands dialect from end next k line lines e f within =
    let ends = alike_more k end (from + length line) 1 (alike_sum k end (from + length line) e within) in
    ap (λ b. is_idle_in_line commands dialect [] from line k || b)
    (sym (lines-alike commands dialect k next (end + 1) lines (alike_sum k next (end + 1) f within) ∙ lines-alike commands dialect k (end + 1) (from + length line + 1) lines ends))

-- the first of those from a place on
pub drop_at : {A : Type 0} (xs : List A) (i : ℕ) (x : A) → i < length xs → x ≡ get_or xs i x → drop i xs ≡ x ∷ drop (i + 1) xs
drop_at xs i x h e =
    let next : suc i ≡ i + 1 = omega arith in
    drop-cons xs i x h ∙ ap (λ y. y ∷ drop (suc i) xs) (sym e) ∙ ap (λ j. x ∷ drop j xs) next

pub drop_past : {A : Type 0} (xs : List A) (i : ℕ) → length xs ≤ i → drop i xs ≡ []
drop_past [] zero h = refl
drop_past [] (suc i) h = refl
drop_past (x ∷ xs) zero h = absurd (omega (arith, h))
drop_past (x ∷ xs) (suc i) h = drop_past xs i (omega (arith, h))

pub blanked_itself : (a : Bytes) → IsBlanked a a
blanked_itself a = (refl, λ k within. grind (arith, nat_tests))

pub blanked_again : (a b c : Bytes) → IsBlanked a b → IsBlanked b c → IsBlanked a c
blanked_again a b c ab bc = (
  bc.0 ∙ ab.0,
  λ k within.
      let first = ab.1 k within in
      let second = bc.1 k (omega (arith, within, ab.0)) in
      grind (arith, nat_tests),
)
