-- The first line of some bytes, and the lines behind it.
use Rattle.std.proofs.Common.{◌≡◌, ℕ, suc, ◌+◌, ◌<◌, ◌≤◌, List, [], ◌∷◌, length, take, drop, cond, arith, ap, sym, ◌∙◌, refl, inl, inr}
use Rattle.std.specs.Prelude.{if◌then◌else◌}
use Rattle.std.specs.List.{position, position_or_len}
use Rattle.std.specs.Option.{unwrap_or}
use Rattle.std.proofs.lemmas.Bool.{cases_Bool}
use Rattle.std.proofs.lemmas.Grind.{common_steps}
use Rattle.std.proofs.lemmas.List.Recursion.{is_position_or_len}
use Rattle.ados_text.specs.Lines.{is_newline, lines_with_byte}
use Rattle.ados_files.specs.SortOrder.{line_len, plain_lines}

pub line_fits : (bytes : List ℕ) → line_len bytes ≤ length bytes
line_fits [] = omega arith
line_fits (byte ∷ bytes) = elim (cases_Bool (is_newline byte)) [
  | inl here ↦ let none = ap (λ b. if b then 0 else suc (line_len bytes)) here in omega (arith, none)
  | inr past ↦ let more = ap (λ b. if b then 0 else suc (line_len bytes)) past in omega (arith, more, line_fits bytes)
]

one_more : (byte : ℕ) (bytes : List ℕ) → line_len (byte ∷ bytes) ≡ cond (is_newline byte) 0 (1 + line_len bytes)
one_more byte bytes = let one : suc (line_len bytes) ≡ 1 + line_len bytes = omega arith in ap (λ (n : ℕ). cond (is_newline byte) 0 n) one

-- it has all bytes before the first newline, or all bytes
pub up_to_newline : (bytes : List ℕ) → unwrap_or (position is_newline bytes) (length bytes) ≡ line_len bytes
up_to_newline bytes =
    let same : line_len bytes ≡ position_or_len is_newline bytes = is_position_or_len line_len is_newline refl one_more bytes in
    let fits = line_fits bytes in
    grind (arith, common_steps)

abbrev Parts : List ℕ → Type 0
Parts bytes = plain_lines bytes ≡ take (line_len bytes) bytes ∷ plain_lines (drop (line_len bytes + 1) bytes)

-- the same with one byte more in front
one_byte_more : (byte : ℕ) (bytes : List ℕ) →
    lines_with_byte byte (plain_lines bytes) ≡ (byte ∷ take (line_len bytes) bytes) ∷ plain_lines (drop (line_len bytes + 1) bytes) → Parts (byte ∷ bytes)
one_byte_more byte bytes less = elim (cases_Bool (is_newline byte)) [
  | inl here ↦
      ap (λ b. if b then [] ∷ plain_lines bytes else lines_with_byte byte (plain_lines bytes)) here
      ∙ ap (λ b. take (if b then 0 else suc (line_len bytes)) (byte ∷ bytes) ∷ plain_lines (drop ((if b then 0 else suc (line_len bytes)) + 1) (byte ∷ bytes))) (sym here)
  | inr past ↦
      let next : suc (line_len bytes + 1) ≡ suc (line_len bytes) + 1 = omega arith in
      ap (λ b. if b then [] ∷ plain_lines bytes else lines_with_byte byte (plain_lines bytes)) past
      ∙ (less
      ∙ (ap (λ (n : ℕ). (byte ∷ take (line_len bytes) bytes) ∷ plain_lines (drop n (byte ∷ bytes))) next
      ∙ ap (λ b. take (if b then 0 else suc (line_len bytes)) (byte ∷ bytes) ∷ plain_lines (drop ((if b then 0 else suc (line_len bytes)) + 1) (byte ∷ bytes))) (sym past)))
]

parts-of : (byte : ℕ) (bytes : List ℕ) → Parts (byte ∷ bytes)
parts-of byte [] = one_byte_more byte [] refl
parts-of byte (next ∷ bytes) = one_byte_more byte (next ∷ bytes) (ap (lines_with_byte byte) (parts-of next bytes))

-- the first line, and those behind the newline
pub first_and_rest : (bytes : List ℕ) → 0 < length bytes → plain_lines bytes ≡ take (line_len bytes) bytes ∷ plain_lines (drop (line_len bytes + 1) bytes)
first_and_rest [] some = absurd (omega (arith, some))
first_and_rest (byte ∷ bytes) some = parts-of byte bytes
