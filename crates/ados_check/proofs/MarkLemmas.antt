-- Scripts in which marks are written in the place of bytes.
use Rattle.std.proofs.Common.{ℕ, zero, suc, ◌+◌, ◌-◌, ◌^◌, ◌≡◌, ◌∙◌, ◌<◌, ◌&&◌, ◌||◌, min, not, Bool, true, false, cond, List, [], ◌∷◌, drop, inl, inr, get_or, length, map, slice_index, slice_set, refl, sym, ap, arith}
use Rattle.std.specs.List.{slice_split}
use Rattle.std.specs.Str.{IsAscii}
use Rattle.std.proofs.lemmas.Bool.Decides.{nat_tests}
use Rattle.ados_text.specs.Lines.{is_newline, lines_of}
use Rattle.ados_text.specs.Text.{Bytes, is_past_ascii}
use Rattle.ados_check.specs.LeftOut.{is_between}
use Rattle.ados_check.specs.Marks.{IsMarked, is_in_printed, is_printed_in, marked, marked_if, prints_sign}
use Rattle.ados_check.specs.Renames.{renames_printers}
use Rattle.ados_check.specs.Signs.{is_dotted, sign_of}
use Rattle.ados_check.proofs.ChangeLemmas.{ChangesOnce, and_none}
use Rattle.ados_check.proofs.StrikeLemmas.{Alike, alike_more, alike_sum, drop_at}

-- the bytes from a place on are still to be marked
abbrev pub marked_from : ℕ → Bytes → Bytes
marked_from zero bytes = map marked bytes
marked_from (suc place) [] = []
marked_from (suc place) (byte ∷ bytes) = byte ∷ marked_from place bytes

pub all_marked : (bytes : Bytes) → marked_from (length bytes) bytes ≡ bytes
all_marked [] = refl
all_marked (byte ∷ bytes) = ap (λ bs. byte ∷ bs) (all_marked bytes)

-- one more is marked
pub one_marked : (bytes : Bytes) (place value d : ℕ) → place < length bytes → value ≡ marked (get_or bytes place d)
    → marked_from (suc place) (slice_set bytes place value) ≡ marked_from place bytes
one_marked [] place value d inside is = absurd (omega (arith, inside))
one_marked (byte ∷ bytes) zero value d inside is = ap (λ b. b ∷ map marked bytes) is
one_marked (byte ∷ bytes) (suc place) value d inside is = ap (λ bs. byte ∷ bs) (one_marked bytes place value d (omega (arith, inside)) is)

marked-twice : (c : ℕ) → marked (marked c) ≡ marked c
marked-twice c = by (is_past_ascii c) refl
  where
    by : (b : Bool) → is_past_ascii c ≡ b → marked (cond b 95 c) ≡ cond b 95 c
    by true e = refl
    by false e = rw e refl

pub marked_again : ChangesOnce marked_if
marked_again true true c = marked-twice c
marked_again true false c = refl
marked_again false q c = refl

ascii-kept : (p : Bool) (c : ℕ) → c < 128 → marked_if p c ≡ c
ascii-kept true c low = (let not-past : is_past_ascii c ≡ false = grind (arith, nat_tests) in rw not-past refl)
ascii-kept false c low = refl

-- nothing is to be marked in a script of ASCII
pub marked_ascii : (test : ℕ → Bool) (script : Bytes) → IsAscii script → IsMarked test script script
marked_ascii test script ascii = (refl, λ k within. sym (ascii-kept (test k) (slice_index script k) (ascii k)))

-- nor in one where Echo or Ask is another command
pub marked_renamed : (script : Bytes) → renames_printers [] (lines_of script) ≡ true → IsMarked (is_printed_in script) script script
marked_renamed script renames = (
  refl,
  λ k within.
      sym (ap (λ b. marked_if (not b && is_in_printed (is_dotted script) 0 0 (slice_split is_newline script) k) (slice_index script k)) renames),
)

-- in all others the lines are marked
pub marked_lines : (script new : Bytes) → renames_printers [] (lines_of script) ≡ false
    → IsMarked (is_in_printed (is_dotted script) 0 0 (slice_split is_newline script)) script new → IsMarked (is_printed_in script) script new
marked_lines script new keeps is = (
  is.0,
  λ k within.
      is.1 k within
      ∙ sym (ap (λ b. marked_if (not b && is_in_printed (is_dotted script) 0 0 (slice_split is_newline script) k) (slice_index script k)) keeps),
)

between-far : (k r length : ℕ) → k < r → is_between r (r + length) k ≡ false
between-far k r length far = grind (arith, nat_tests)

printed-far : (dotted : Bool) (number k r : ℕ) (lines : List Bytes) → k < r → is_in_printed dotted number r lines k ≡ false
printed-far dotted number k r [] far = refl
printed-far dotted number k r (line ∷ lines) far =
    ap (λ b. (prints_sign number line (sign_of dotted line) && b) || is_in_printed dotted (number + 1) (r + length line + 1) lines k) (between-far k r (length line) far)
    ∙ ap (λ b. b || is_in_printed dotted (number + 1) (r + length line + 1) lines k) (and_none (prints_sign number line (sign_of dotted line)))
    ∙ printed-far dotted (number + 1) k (r + length line + 1) lines (omega (arith, far))

printed-alike : (dotted : Bool) (number k r s : ℕ) (lines : List Bytes) → Alike k r s → is_in_printed dotted number r lines k ≡ is_in_printed dotted number s lines k
printed-alike dotted number k r s lines (inl e) = ap (λ n. is_in_printed dotted number n lines k) e
printed-alike dotted number k r s lines (inr far) = printed-far dotted number k r lines far.0 ∙ sym (printed-far dotted number k s lines far.1)

end-alike : (k from r s : ℕ) → Alike k r s → is_between from r k ≡ is_between from s k
end-alike k from r s (inl e) = ap (λ n. is_between from n k) e
end-alike k from r s (inr far) = (let low = far.0 in let below = far.1 in grind (arith, nat_tests))

-- a place is in the first of some lines, or in a further one; sums stop at the largest number
pub line_left : (dotted : Bool) (number from to next k : ℕ) (line : Bytes) (lines : List Bytes)
    → to ≡ min (from + length line) (2 ^ 64 - 1) → next ≡ min (to + 1) (2 ^ 64 - 1) → k < 2 ^ 64 - 1
    → is_in_printed dotted number from (line ∷ lines) k
    ≡ ((prints_sign number line (sign_of dotted line) && is_between from to k) || is_in_printed dotted (number + 1) next lines k)
line_left dotted number from to next k line lines e f within =
    let ends = alike_sum k to (from + length line) e within in
    ap (λ b. (prints_sign number line (sign_of dotted line) && b) || is_in_printed dotted (number + 1) (from + length line + 1) lines k) (sym (end-alike k from to (from + length line) ends))
    ∙ ap (λ b. (prints_sign number line (sign_of dotted line) && is_between from to k) || b)
    (sym (printed-alike dotted (number + 1) k next (to + 1) lines (alike_sum k next (to + 1) f within)
    ∙ printed-alike dotted (number + 1) k (to + 1) (from + length line + 1) lines (alike_more k to (from + length line) 1 ends)))

get-any : {A : Type 0} (xs : List A) (i : ℕ) (d e : A) → i < length xs → get_or xs i d ≡ get_or xs i e
get-any [] i d e h = absurd (omega (arith, h))
get-any (x ∷ xs) zero d e h = refl
get-any (x ∷ xs) (suc i) d e h = get-any xs i d e (omega (arith, h))

-- the same of the lines from that of a number on
pub line_parted : (dotted : Bool) (all : List Bytes) (number from to next k : ℕ) (line : Bytes) → number < length all → line ≡ get_or all number []
    → to ≡ min (from + length line) (2 ^ 64 - 1) → next ≡ min (to + 1) (2 ^ 64 - 1) → k < 2 ^ 64 - 1
    → is_in_printed dotted number from (drop number all) k
    ≡ ((prints_sign number line (sign_of dotted line) && is_between from to k) || is_in_printed dotted (number + 1) next (drop (number + 1) all) k)
line_parted dotted all number from to next k line inside is e f within =
    ap (λ ls. is_in_printed dotted number from ls k) (drop_at all number line inside (is ∙ get-any all number [] line inside))
    ∙ line_left dotted number from to next k line (drop (number + 1) all) e f within

-- one with this test more
pub with_test : (some is less : Bool) (b : Bool) → is ≡ b → ((is && some) || less) ≡ ((b && some) || less)
with_test some is less b e = ap (λ t. (t && some) || less) e
