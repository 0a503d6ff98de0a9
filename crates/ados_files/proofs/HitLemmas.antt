-- Hits in one line after the other.
use Rattle.std.proofs.Common.{◌≡◌, ℕ, ◌+◌, ◌<◌, Bool, true, cond, List, [], ◌∷◌, ◌++◌, length, take, drop, refl, ap, sym, ◌∙◌, inl, inr, append_assoc}
use Rattle.std.specs.List.{flat_map}
use Rattle.std.proofs.lemmas.Bool.{cases_Bool}
use Rattle.std.proofs.lemmas.List.{append-nil}
use Rattle.ados_text.specs.Text.{Bytes}
use Rattle.ados_files.specs.Hits.{Hits, hit_lines, hit_text, is_hit, numbered_lines, with_hits}
use Rattle.ados_files.specs.SortOrder.{line_len, plain_lines}
use Rattle.ados_files.specs.declared.hits.Wanted.{Wanted}
use Rattle.ados_files.proofs.PlainLines.{first_and_rest}

abbrev hits_with : Bytes → Hits
hits_with output = record { output = output; has_hit = true }

-- a hit, and more behind it
more_hits : (numbered : Bool) (hits : Hits) (line : ℕ × Bytes) (lines : List (ℕ × Bytes)) →
    with_hits numbered (with_hits numbered hits (line ∷ [])) lines ≡ with_hits numbered hits (line ∷ lines)
more_hits numbered hits line [] = refl
more_hits numbered hits line (next ∷ lines) =
    let text = hit_text numbered line in
    let more = flat_map (hit_text numbered) (next ∷ lines) in
    let joined : (hits.output ++ (text ++ [])) ++ more ≡ hits.output ++ (text ++ more) =
    ap (λ (t : List ℕ). (hits.output ++ t) ++ more) (append-nil text) ∙ append_assoc hits.output text more in
    ap hits_with joined

-- a line that is a hit or not, and more behind it
pub more_lines : (numbered : Bool) (wanted : Wanted) (hits : Hits) (line : ℕ × Bytes) (lines : List (ℕ × Bytes)) →
    with_hits numbered (with_hits numbered hits (hit_lines wanted (line ∷ []))) (hit_lines wanted lines) ≡ with_hits numbered hits (hit_lines wanted (line ∷ lines))
more_lines numbered wanted hits line lines = elim (cases_Bool (is_hit wanted line.1)) [
  | inl one ↦
      ap (λ b. with_hits numbered (with_hits numbered hits (cond b (line ∷ []) [])) (hit_lines wanted lines)) one
      ∙ (more_hits numbered hits line (hit_lines wanted lines)
      ∙ ap (λ b. with_hits numbered hits (cond b (line ∷ hit_lines wanted lines) (hit_lines wanted lines))) (sym one))
  | inr other ↦
      ap (λ b. with_hits numbered (with_hits numbered hits (cond b (line ∷ []) [])) (hit_lines wanted lines)) other
      ∙ ap (λ b. with_hits numbered hits (cond b (line ∷ hit_lines wanted lines) (hit_lines wanted lines))) (sym other)
]

-- the first line of some bytes, and then the lines behind it
pub first_line_and_more : (numbered : Bool) (wanted : Wanted) (old new : Hits) (number : ℕ) (bytes line : Bytes) → 0 < length bytes → line ≡ take (line_len bytes) bytes →
    new ≡ with_hits numbered old (hit_lines wanted ((number, line) ∷ [])) →
    with_hits numbered new (hit_lines wanted (numbered_lines (number + 1) (plain_lines (drop (line_len bytes + 1) bytes))))
    ≡ with_hits numbered old (hit_lines wanted (numbered_lines number (plain_lines bytes)))
first_line_and_more numbered wanted old new number bytes line some first e =
    let more = plain_lines (drop (line_len bytes + 1) bytes) in
    ap (λ (h : Hits). with_hits numbered h (hit_lines wanted (numbered_lines (number + 1) more))) e
    ∙ (more_lines numbered wanted old (number, line) (numbered_lines (number + 1) more)
    ∙ (ap (λ (t : Bytes). with_hits numbered old (hit_lines wanted (numbered_lines number (t ∷ more)))) first
    ∙ ap (λ (ls : List Bytes). with_hits numbered old (hit_lines wanted (numbered_lines number ls))) (sym (first_and_rest bytes some))))
