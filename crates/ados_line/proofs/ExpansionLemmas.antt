-- what a raw line is read as is made of its pieces and segments
use Rattle.std.proofs.Common.{◌≡◌, ◌∙◌, ◌≤◌, List, [], ◌∷◌, ◌++◌, ℕ, Result, Ok, Err, IfOk, length, take, drop, refl, ap, sym, arith, inl, inr, nat_lt}
use Rattle.std.proofs.lemmas.List.{take-append-drop}
use Rattle.std.proofs.lemmas.Bool.{cond_both}
use Rattle.std.proofs.lemmas.Bool.Decides.{nat_tests}
use Rattle.ados_vars.specs.Vars.{Pairs}
use Rattle.ados_line.specs.declared.faults.LineFault.{LineFault}
use Rattle.ados_line.specs.declared.faults.LineFault.TheVariants.{LineTooLong}
use Rattle.ados_line.specs.declared.letters.Letter.{Letter}
use Rattle.ados_line.specs.declared.letters.Letter.TheVariants.{Plain, Starred}
use Rattle.ados_line.specs.declared.lines.Expanded.{Expanded}
use Rattle.ados_line.specs.Alias.{with_alias}
use Rattle.ados_line.specs.Answers.{Gives}
use Rattle.ados_line.specs.Comment.{without_comment}
use Rattle.ados_line.specs.Cut.{line_limit}
use Rattle.ados_line.specs.Letters.{letters_of}
use Rattle.ados_line.specs.Values.{Variables, values}
use Rattle.ados_line.specs.Expansion.{expand_raw_line, expanded_line, then_cut, then_read, read_rest_of_text, tick_text, resume_line, IsMade, IsRead, IsResumed}
use Rattle.ados_line.specs.Ticks.{text_of, within_bytes, split_after_letters, IsSeam}
use Rattle.ados_line.proofs.LetterLemmas.{letters-written}
use Rattle.ados_line.proofs.TickLemmas.{is_read, seam}
use Rattle.ados_line.proofs.SegmentLemmas.{in_segments}

none-kept : (ls : List Letter) → within_bytes 0 ls ≡ 0
none-kept [] = refl
none-kept (Plain c ∷ ls) = refl
none-kept (Starred c ∷ ls) = refl

made-line : (v : Variables) (line : List ℕ) (found : Expanded) → expanded_line v line ≡ Ok found → IsMade v line found
made-line v line found =
    let text = values v 0 (letters_of line) in
    let ls = letters_of text in
    let P : Result (List ℕ) LineFault → Type 0 = λ r. then_read r ≡ Ok found → IsMade v line found in
    cond_both (nat_lt line_limit (length text)) (Err LineTooLong) (Ok text) P (λ _ e. cc)
    (λ short e. (text, in_segments v line, grind (arith, nat_tests, short), is_read [] ls found (sym (ap (λ n. then_cut (split_after_letters n ls)) (none-kept ls)) ∙ e)))

made-raw : (aliases : Pairs) (v : Variables) (raw : List ℕ) (found : Expanded) → expand_raw_line aliases v raw ≡ Ok found
    → IsMade v (with_alias aliases (without_comment raw)) found
unfolding expand_raw_line
made-raw aliases v raw found =
    let line = with_alias aliases (without_comment raw) in
    let P : Result Expanded LineFault → Type 0 = λ r. r ≡ Ok found → IsMade v line found in
    cond_both (nat_lt line_limit (length raw)) (Err LineTooLong) (expanded_line v line) P (λ _ e. cc) (λ _ e. made-line v line found e)

pub made : (result : Result Expanded LineFault) (aliases : Pairs) (v : Variables) (raw : List ℕ) → Gives result (expand_raw_line aliases v raw)
    → IfOk result (IsMade v (with_alias aliases (without_comment raw)))
made (Ok found) aliases v raw (inl none) = cc
made (Ok found) aliases v raw (inr same) = made-raw aliases v raw found (sym same)
made (Err fault) aliases v raw h = tt

-- what a line is read as after its command substitution
resumed-made : (kept after : List ℕ) (found : Expanded) → length (kept ++ after) ≤ line_limit → read_rest_of_text (length kept) (kept ++ after) ≡ Ok found
    → (read : List Letter) × (rest : List Letter) × IsSeam kept (kept ++ after) read rest
    × (length (kept ++ after) ≤ line_limit) × IsRead (text_of read) rest found
resumed-made kept after found short e =
    let ls = letters_of (kept ++ after) in
    let n = within_bytes (length kept) ls in (
      take n ls,
      drop n ls,
      record { joined = take-append-drop n ls; ends = seam kept after ls (letters-written (kept ++ after)) },
      short,
      is_read (text_of (take n ls)) (drop n ls) found e,
    )

resumed-line : (before output after : List ℕ) (found : Expanded) → resume_line before output after ≡ Ok found → IsResumed before output after found
unfolding resume_line
resumed-line before output after found =
    let kept = before ++ tick_text output in
    let P : Result Expanded LineFault → Type 0 = λ r. r ≡ Ok found → IsResumed before output after found in
    cond_both (nat_lt line_limit (length (kept ++ after))) (Err LineTooLong) (read_rest_of_text (length kept) (kept ++ after)) P (λ _ e. cc)
    (λ short e. resumed-made kept after found (grind (arith, nat_tests, short)) e)

pub resumed : (result : Result Expanded LineFault) (before output after : List ℕ) → Gives result (resume_line before output after)
    → IfOk result (IsResumed before output after)
resumed (Ok found) before output after (inl none) = cc
resumed (Ok found) before output after (inr same) = resumed-line before output after found (sym same)
resumed (Err fault) before output after h = tt
