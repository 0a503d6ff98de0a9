-- a line is its segments, in order
use Rattle.std.proofs.Common.{◌≡◌, ◌∙◌, ℕ, zero, suc, ◌+◌, ◌-◌, ◌<◌, ◌==◌, ◌&&◌, List, [], ◌∷◌, ◌++◌, Bool, true, false, Option, Some, None, length, take, drop, slice_get, flat_map, refl, sym, ap, subst, arith, inl, inr, nat_lt, cond}
use Rattle.std.specs.List.{prefix_len}
use Rattle.std.proofs.lemmas.Bool.{cond_both, eqb-true, and_parts}
use Rattle.std.proofs.lemmas.Bool.Decides.{nat_tests}
use Rattle.ados_text.specs.Text.{to_ascii}
use Rattle.ados_line.specs.declared.letters.Letter.{Letter}
use Rattle.ados_line.specs.declared.letters.Letter.TheVariants.{Plain, Starred}
use Rattle.ados_line.specs.declared.references.Reference.{Reference}
use Rattle.ados_line.specs.Letters.{plain_letters, letter_text, letters_of}
use Rattle.ados_line.specs.Values.{Variables, Segment, Literal, segment_letters, later_letter_count, is_identifier_byte, is_of_name, is_plain, is_this, braced_reference, bare_reference, reference, name_of, by_value, by_reference, first_segment, letter_segments, values, IsReference, IsSegment, AreSegments, IsInSegments}

-- the segments of a list of characters are those characters
take-on : (n : ℕ) (ls : List Letter) → take n ls ++ drop (length (take n ls)) ls ≡ ls
take-on zero ls = refl
take-on (suc n) [] = refl
take-on (suc n) (l ∷ ls) = ap (λ rest. l ∷ rest) (take-on n ls)

-- a segment begins with its character
abbrev Begins : Variables → Letter → List Letter → Segment → Type 0
Begins v l ls segment = segment_letters segment ++ drop (later_letter_count segment) ls ≡ l ∷ ls

value-begins : (v : Variables) (l : Letter) (n : ℕ) (ls : List Letter) (value : Option (List ℕ)) → l ≡ Plain 36 → Begins v l ls (by_value l (take n ls) value)
value-begins v l n ls None e = refl
value-begins v l n ls (Some value) e = ap (λ it. it ∷ (take n ls ++ drop (length (take n ls)) ls)) (sym e) ∙ ap (λ rest. l ∷ rest) (take-on n ls)

reference-begins : (v : Variables) (l : Letter) (ls : List Letter) (r : Option Reference) → l ≡ Plain 36 → Begins v l ls (by_reference v l ls r)
reference-begins v l ls None e = refl
reference-begins v l ls (Some r) e = value-begins v l r.end ls (v (name_of ls r)) e

segment-begins : (v : Variables) (l : Letter) (ls : List Letter) → Begins v l ls (first_segment v l ls)
segment-begins v (Plain c) ls =
    let P : Segment → Type 0 = λ segment. Begins v (Plain c) ls segment in
    cond_both (c == 36) (by_reference v (Plain c) ls (reference ls)) (Literal (Plain c)) P
    (λ e. reference-begins v (Plain c) ls (reference ls) (ap Plain (eqb-true c 36 e)))
    (λ _. refl)
segment-begins v (Starred c) ls = refl

segments-cover : (v : Variables) (taken : ℕ) (ls : List Letter) → flat_map segment_letters (letter_segments v taken ls) ≡ drop taken ls
segments-cover v zero [] = refl
segments-cover v (suc taken) [] = refl
segments-cover v (suc taken) (l ∷ ls) = segments-cover v taken ls
segments-cover v zero (l ∷ ls) =
    let segment = first_segment v l ls in
    ap (λ rest. segment_letters segment ++ rest) (segments-cover v (later_letter_count segment) ls) ∙ segment-begins v l ls

-- each value is that of the name to which its segment refers
name-ascii : (c : ℕ) → is_identifier_byte c ≡ true → to_ascii c ≡ c
name-ascii c e =
    let below : c < 128 = grind (arith, nat_tests, e) in
    grind (arith, nat_tests)

named-more : (c n : ℕ) (ls : List Letter) → to_ascii c ≡ c → take n ls ≡ plain_letters (flat_map letter_text (take n ls))
    → take (1 + n) (Plain c ∷ ls) ≡ plain_letters (flat_map letter_text (take (1 + n) (Plain c ∷ ls)))
named-more c n ls e rest =
    let P : ℕ → Type 0 = λ k. take k (Plain c ∷ ls) ≡ plain_letters (flat_map letter_text (take k (Plain c ∷ ls))) in
    let one : suc n ≡ 1 + n = omega arith in
    subst P one (ap (λ b. Plain b ∷ take n ls) (sym e) ∙ ap (λ l. Plain (to_ascii c) ∷ l) rest)

named : (ls : List Letter) → take (prefix_len is_of_name ls) ls ≡ plain_letters (flat_map letter_text (take (prefix_len is_of_name ls) ls))
named [] = refl
named (Starred c ∷ ls) = refl
named (Plain c ∷ ls) = by (is_identifier_byte c) refl (named ls)
  where
    by : (b : Bool) → is_identifier_byte c ≡ b → take (prefix_len is_of_name ls) ls ≡ plain_letters (flat_map letter_text (take (prefix_len is_of_name ls) ls))
        → take (prefix_len is_of_name (Plain c ∷ ls)) (Plain c ∷ ls) ≡ plain_letters (flat_map letter_text (take (prefix_len is_of_name (Plain c ∷ ls)) (Plain c ∷ ls)))
    by true e rest = simp e (named-more c (prefix_len is_of_name ls) ls (name-ascii c e) rest)
    by false e rest = simp e refl

-- the character at a place, and those up to and including it
taken-on : (ls : List Letter) (n : ℕ) (l : Letter) → slice_get ls n ≡ Some l → take (suc n) ls ≡ take n ls ++ l ∷ []
taken-on [] n l e = cc
taken-on (x ∷ ls) zero l e = cc
taken-on (x ∷ ls) (suc n) l e = ap (λ rest. x ∷ rest) (taken-on ls n l e)

pub plain-is : (byte : ℕ) (l : Letter) → is_plain byte l ≡ true → l ≡ Plain byte
plain-is byte (Plain c) e = ap Plain (eqb-true c byte e)
plain-is byte (Starred c) e = cc

this-is : (byte : ℕ) (o : Option Letter) → is_this byte o ≡ true → o ≡ Some (Plain byte)
this-is byte None e = cc
this-is byte (Some l) e = ap Some (plain-is byte l e)

found : {X : Type 0} (b : Bool) (x y : X) → cond b (Some x) None ≡ Some y → (b ≡ true) × (x ≡ y)
found true x y e = (refl, cc)
found false x y e = cc

braced-refers : (ls : List Letter) (r : Reference) → braced_reference (Plain 123 ∷ ls) (1 + prefix_len is_of_name ls) ≡ Some r
    → IsReference (take r.end (Plain 123 ∷ ls)) (name_of (Plain 123 ∷ ls) r)
braced-refers ls r e =
    let n = prefix_len is_of_name ls in
    let given : Reference = record { from = 1; to = 1 + n; end = 1 + n + 1 } in
    let both = found (nat_lt 1 (1 + n) && is_this 125 (slice_get (Plain 123 ∷ ls) (1 + n))) given r e in
    let one : suc n ≡ 1 + n = omega arith in
    let is_closed = (and_parts (nat_lt 1 (1 + n)) (is_this 125 (slice_get (Plain 123 ∷ ls) (1 + n))) both.0).1 in
    let closed = this-is 125 (slice_get ls n) (ap (λ k. is_this 125 (slice_get (Plain 123 ∷ ls) k)) one ∙ is_closed) in
    let P : Reference → Type 0 = λ it. IsReference (take it.end (Plain 123 ∷ ls)) (name_of (Plain 123 ∷ ls) it) in
    let more : 1 + n + 1 ≡ suc (suc n) = omega arith in
    let back : n ≡ (1 + n) - 1 = omega arith in
    subst P both.1
    (inr
    (ap (λ k. take k (Plain 123 ∷ ls)) more
    ∙ ap (λ l. Plain 123 ∷ l)
    (taken-on ls n (Plain 125) closed
    ∙ ap (λ l. l ++ Plain 125 ∷ []) (named ls ∙ ap (λ k. plain_letters (flat_map letter_text (take k ls))) back))))

bare-refers : (ls : List Letter) (r : Reference) → bare_reference (prefix_len is_of_name ls) ≡ Some r → IsReference (take r.end ls) (name_of ls r)
bare-refers ls r e =
    let n = prefix_len is_of_name ls in
    let given : Reference = record { from = 0; to = n; end = n } in
    let both = found (nat_lt 0 n) given r e in
    let P : Reference → Type 0 = λ it. IsReference (take it.end ls) (name_of ls it) in
    let same : n ≡ n - 0 = omega arith in
    subst P both.1 (inl (named ls ∙ ap (λ k. plain_letters (flat_map letter_text (take k ls))) same))

refers : (ls : List Letter) (r : Reference) → reference ls ≡ Some r → IsReference (take r.end ls) (name_of ls r)
refers [] r = λ e. cc
refers (l ∷ ls) r =
    let P : Option Reference → Type 0 = λ o. o ≡ Some r → IsReference (take r.end (l ∷ ls)) (name_of (l ∷ ls) r) in
    cond_both (is_plain 123 l) (braced_reference (l ∷ ls) (1 + prefix_len is_of_name ls)) (bare_reference (prefix_len is_of_name (l ∷ ls))) P
    (λ h. let Q : Letter → Type 0 = λ it. braced_reference (it ∷ ls) (1 + prefix_len is_of_name ls) ≡ Some r → IsReference (take r.end (it ∷ ls)) (name_of (it ∷ ls) r) in
    subst Q (sym (plain-is 123 l h)) (braced-refers ls r))
    (λ h e. bare-refers (l ∷ ls) r e)

value-known : (v : Variables) (l : Letter) (letters : List Letter) (name : List ℕ) (value : Option (List ℕ)) → v name ≡ value → IsReference letters name
    → IsSegment v (by_value l letters value)
value-known v l letters name None e h = tt
value-known v l letters name (Some value) e h = (name, h, e)

reference-known : (v : Variables) (l : Letter) (ls : List Letter) (r : Option Reference) → reference ls ≡ r → IsSegment v (by_reference v l ls r)
reference-known v l ls None e = tt
reference-known v l ls (Some r) e = value-known v l (take r.end ls) (name_of ls r) (v (name_of ls r)) refl (refers ls r e)

first-known : (v : Variables) (l : Letter) (ls : List Letter) → IsSegment v (first_segment v l ls)
first-known v l ls =
    let P : Segment → Type 0 = λ segment. IsSegment v segment in
    cond_both (is_plain 36 l) (by_reference v l ls (reference ls)) (Literal l) P (λ _. reference-known v l ls (reference ls) refl) (λ _. tt)

segments-known : (v : Variables) (taken : ℕ) (ls : List Letter) → AreSegments v (letter_segments v taken ls)
segments-known v zero [] = tt
segments-known v (suc taken) [] = tt
segments-known v (suc taken) (l ∷ ls) = segments-known v taken ls
segments-known v zero (l ∷ ls) = (first-known v l ls, segments-known v (later_letter_count (first_segment v l ls)) ls)

-- a line with its variables expanded is its segments
pub in_segments : (v : Variables) (line : List ℕ) → IsInSegments v line (values v 0 (letters_of line))
in_segments v line = (
  letter_segments v 0 (letters_of line),
  record { covers = segments-cover v 0 (letters_of line); known = segments-known v 0 (letters_of line); means = refl },
)
