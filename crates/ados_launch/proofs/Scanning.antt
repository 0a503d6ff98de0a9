-- How far a line has been scanned.
use Rattle.std.proofs.Common.{◌≡◌, ◌≢◌, ℕ, ◌+◌, ◌<◌, ◌≤◌, List, [], ◌∷◌, ◌++◌, length, take, drop, Option, Some, None, arith, refl, ap, sym, ◌∙◌, append_assoc, append-nil, length-append, length-take, inl, inr}
use Rattle.std.proofs.Math.Seq.{drop-append_seam}
use Rattle.std.proofs.lemmas.Bool.{cases_lt}
use Rattle.std.proofs.lemmas.Grind.{common_steps}
use Rattle.std.proofs.lemmas.List.{take_all, take-append-le}
use Rattle.std.specs.Io.KnownBytes.{Consumes, IsAtEnd, Keeps}
use Rattle.ados_launch.specs.Lines.{line_of, rest_of, kind_of, kind_of_length, TakesLine}
use Rattle.ados_launch.specs.declared.lines.LineKind.TheVariants.{End, Short, Overlong}

-- `front` was taken of the bytes and has no byte 10; its first 512 bytes are kept, and `later` is still to come
pub record Scanned (bytes : List ℕ) (n : ℕ) (now : Option (List ℕ)) (kept : List ℕ) : Type 0 where
  pub front : List ℕ
  pub later : List ℕ
  pub now_is : now ≡ Some later
  pub split : bytes ≡ front ++ later
  pub counted : length front ≡ n
  pub line : line_of bytes ≡ front ++ line_of later
  pub rest : rest_of bytes ≡ rest_of later
  pub kept_is : kept ≡ take 512 front

-- nothing is scanned at first
pub scanned_none : (bytes : List ℕ) (now : Option (List ℕ)) → now ≡ Some bytes → Scanned bytes 0 now []
scanned_none bytes now e = record {
  front = [];
  later = bytes;
  now_is = e;
  split = refl;
  counted = refl;
  line = refl;
  rest = refl;
  kept_is = grind (arith, common_steps);
}

-- a byte that was consumed is the first of what was known
pub consumed_first : (xs : List ℕ) (now next : Option (List ℕ)) (b : ℕ) → now ≡ Some xs → Consumes now next (b ∷ []) → (ys : List ℕ) × (xs ≡ b ∷ ys) × (next ≡ Some ys)
consumed_first xs None next b e h = cc
consumed_first xs (Some zs) None b e h = absurd h
consumed_first xs (Some zs) (Some ys) b e h = (ys, cc, refl)

-- at the end nothing was left
pub ended_empty : (xs : List ℕ) (now : Option (List ℕ)) → now ≡ Some xs → IsAtEnd now → xs ≡ []
ended_empty xs None e h = cc
ended_empty xs (Some zs) e h = cc

pub line_of-cons : (b : ℕ) (ys : List ℕ) → b ≢ 10 → line_of (b ∷ ys) ≡ b ∷ line_of ys
line_of-cons b ys h = grind (arith, common_steps)

pub rest_of-cons : (b : ℕ) (ys : List ℕ) → b ≢ 10 → rest_of (b ∷ ys) ≡ rest_of ys
rest_of-cons b ys h = grind (arith, common_steps)

-- what is kept with one more byte
pub kept_more : (front kept : List ℕ) (b : ℕ) → kept ≡ take 512 front → length kept < 512 → kept ++ b ∷ [] ≡ take 512 (front ++ b ∷ [])
kept_more front kept b e h =
    let short : length front < 512 = omega (arith, ap length e, length-take 512 front) in
    ap (λ xs. xs ++ b ∷ []) (e ∙ take_all 512 front (omega arith)) ∙ sym (take_all 512 (front ++ b ∷ []) (rw length-append (omega arith)))

pub kept_same : (front kept : List ℕ) (b : ℕ) → kept ≡ take 512 front → 512 ≤ length kept → kept ≡ take 512 (front ++ b ∷ [])
kept_same front kept b e h =
    let long : 512 ≤ length front = omega (arith, ap length e, length-take 512 front) in
    e ∙ sym (take-append-le 512 front (b ∷ []) long)

-- what is kept of one more byte
pub keeps_front : (front kept : List ℕ) (b : ℕ) → kept ≡ take 512 front → take 512 (kept ++ b ∷ []) ≡ take 512 (front ++ b ∷ [])
keeps_front front kept b e =
    elim (cases_lt (length kept) 512) [
      | inr long ↦ take-append-le 512 kept (b ∷ []) long ∙ (take_all 512 kept (omega (arith, ap length e, length-take 512 front)) ∙ kept_same front kept b e long)
      | inl short ↦ take_all 512 (kept ++ b ∷ []) (rw length-append (omega arith)) ∙ kept_more front kept b e short
    ]

-- one more byte
pub scanned_more : (bytes : List ℕ) (n : ℕ) (now next : Option (List ℕ)) (kept more : List ℕ) (b : ℕ) → Scanned bytes n now kept → Consumes now next (b ∷ []) → b ≢ 10
    → more ≡ take 512 (kept ++ b ∷ [])
    → Scanned bytes (n + 1) next more
scanned_more bytes n now next kept more b s h other keep =
    let first = consumed_first s.later now next b s.now_is h in
    record {
      front = s.front ++ b ∷ [];
      later = first.0;
      now_is = first.2;
      split = s.split ∙ (ap (λ xs. s.front ++ xs) first.1 ∙ sym (append_assoc s.front (b ∷ []) first.0));
      counted = length-append s.front (b ∷ []) ∙ ap (λ k. k + 1) s.counted;
      line = s.line ∙ (ap (λ xs. s.front ++ line_of xs) first.1 ∙ (ap (λ xs. s.front ++ xs) (line_of-cons b first.0 other) ∙ sym (append_assoc s.front (b ∷ []) (line_of first.0))));
      rest = s.rest ∙ (ap rest_of first.1 ∙ rest_of-cons b first.0 other);
      kept_is = keep ∙ keeps_front s.front kept b s.kept_is;
    }

pub kind_of-line : (bytes : List ℕ) → 0 < length bytes → kind_of bytes ≡ kind_of_length (length (line_of bytes))
kind_of-line [] h = absurd (omega arith)
kind_of-line (b ∷ bytes) h = refl

-- only a line of at most 512 bytes is short
pub line_short : (n : ℕ) → kind_of_length n ≡ Short → n ≤ 512
line_short n e = grind (arith, common_steps)

pub overlong_kind : (n : ℕ) → 65536 < n → kind_of_length n ≡ Overlong
overlong_kind n h = grind (arith, common_steps)

within_kind : (n : ℕ) → n ≤ 65536 → kind_of_length n ≡ Overlong → ⊥
within_kind n h e = grind (arith, common_steps)

pub kept_next : (xs : List ℕ) (now next : Option (List ℕ)) → now ≡ Some xs → Keeps now next → next ≡ Some xs
kept_next xs None next e h = cc
kept_next xs (Some zs) None e h = absurd h
kept_next xs (Some zs) (Some ys) e h = cc

-- the input ended with no byte taken
pub takes_end : (bytes : List ℕ) (n : ℕ) (now next : Option (List ℕ)) (kept : List ℕ) → n ≡ 0 → Scanned bytes n now kept → IsAtEnd now → Keeps now next → TakesLine bytes End kept next
takes_end bytes n now next kept z s h e =
    let none : s.later ≡ [] = ended_empty s.later now s.now_is h in
    let empty : bytes ≡ [] = grind (arith, common_steps) in
    let left : next ≡ Some s.later = kept_next s.later now next s.now_is e in
    record { kind_is = rw empty refl; kept_is = λ k. cc; now_is = λ _. left ∙ (ap Some none ∙ ap (λ xs. Some (rest_of xs)) (sym empty)); cut_is = λ k. cc }

-- the input ended after n bytes
pub takes_last : (bytes : List ℕ) (n : ℕ) (now next : Option (List ℕ)) (kept : List ℕ) → 0 < n → n ≤ 65536 → Scanned bytes n now kept → IsAtEnd now → Keeps now next → TakesLine bytes (kind_of_length n) kept next
takes_last bytes n now next kept some within s h e =
    let none : s.later ≡ [] = ended_empty s.later now s.now_is h in
    let line : line_of bytes ≡ s.front = s.line ∙ (ap (λ xs. s.front ++ line_of xs) none ∙ append-nil s.front) in
    let long : 0 < length bytes = rw (s.split, length-append) (omega (arith, s.counted)) in
    let left : next ≡ Some s.later = kept_next s.later now next s.now_is e in
    record {
      kind_is = ap kind_of_length (sym s.counted ∙ ap length (sym line)) ∙ sym (kind_of-line bytes long);
      kept_is = λ k. s.kept_is ∙ (take_all 512 s.front (rw s.counted (line_short n k)) ∙ sym line);
      now_is = λ _. left ∙ ap Some (none ∙ (sym (ap rest_of none) ∙ sym s.rest));
      cut_is = λ k. absurd (within_kind n within k);
    }

-- byte 10 came after n bytes
pub takes_broken : (bytes : List ℕ) (n : ℕ) (now next : Option (List ℕ)) (kept : List ℕ) → n ≤ 65536 → Scanned bytes n now kept → Consumes now next (10 ∷ []) → TakesLine bytes (kind_of_length n) kept next
takes_broken bytes n now next kept within s h =
    let first = consumed_first s.later now next 10 s.now_is h in
    let line : line_of bytes ≡ s.front = s.line ∙ (ap (λ xs. s.front ++ line_of xs) first.1 ∙ append-nil s.front) in
    let long : 0 < length bytes = rw (s.split, length-append, first.1) (omega arith) in
    record {
      kind_is = ap kind_of_length (sym s.counted ∙ ap length (sym line)) ∙ sym (kind_of-line bytes long);
      kept_is = λ k. s.kept_is ∙ (take_all 512 s.front (rw s.counted (line_short n k)) ∙ sym line);
      now_is = λ _. first.2 ∙ ap Some (sym (ap rest_of first.1) ∙ sym s.rest);
      cut_is = λ k. absurd (within_kind n within k);
    }

-- more than 65,536 bytes came
pub takes_overlong : (bytes : List ℕ) (n : ℕ) (now : Option (List ℕ)) (kept : List ℕ) → n ≡ 65537 → Scanned bytes n now kept → TakesLine bytes Overlong kept now
takes_overlong bytes n now kept many s =
    let long : 0 < length bytes = rw (s.split, length-append) (omega (arith, s.counted, many)) in
    let longer : 65536 < length (line_of bytes) = rw (s.line, length-append) (omega (arith, s.counted, many)) in
    record {
      kind_is = sym (kind_of-line bytes long ∙ overlong_kind (length (line_of bytes)) longer);
      kept_is = λ k. cc;
      now_is = λ no. absurd (no refl);
      cut_is = λ _. s.now_is ∙ ap Some (sym (drop-append_seam s.front s.later) ∙ (ap (λ xs. drop (length s.front) xs) (sym s.split) ∙ ap (λ m. drop m bytes) (s.counted ∙ many)));
    }
