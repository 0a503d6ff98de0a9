-- What a line without variables and back-ticks is read as.
use Rattle.std.proofs.Common.{ℕ, zero, suc, ◌≡◌, ◌∙◌, ◌≤◌, ◌<◌, List, [], ◌∷◌, Err, true, false, length, take, nat_lt, refl, ap, arith}
use Rattle.std.proofs.lemmas.Bool.{or_parts}
use Rattle.std.proofs.lemmas.Bool.Decides.{nat_tests}
use Rattle.std.proofs.lemmas.List.Elements.{All-take}
use Rattle.ados_text.specs.Text.{Text, IsText}
use Rattle.ados_vars.specs.Vars.{Pairs}
use Rattle.ados_line.specs.declared.faults.LineFault.TheVariants.{LineTooLong}
use Rattle.ados_line.specs.Alias.{with_alias}
use Rattle.ados_line.specs.Comment.{without_comment, comment_start}
use Rattle.ados_line.specs.Cut.{cut_of, expanded_of_cut, line_limit}
use Rattle.ados_line.specs.Expansion.{expand_raw_line, expanded_line, then_read}
use Rattle.ados_line.specs.Answers.{within_line_limit}
use Rattle.ados_line.specs.Values.{Variables}
use Rattle.ados_line.proofs.UnmarkedLemmas.{no_values, no_ticks}
use Rattle.ados_check.specs.Readings.{is_marked}

not-more : (n : ℕ) → n ≤ 512 → nat_lt line_limit n ≡ false
not-more n h = grind (arith, nat_tests)

more : (n : ℕ) → 512 < n → nat_lt line_limit n ≡ true
more n h = grind (arith, nat_tests)

take-short : (n : ℕ) (line : List ℕ) → length (take n line) ≤ length line
take-short zero line = omega arith
take-short (suc n) [] = omega arith
take-short (suc n) (c ∷ cs) = let rest = take-short n cs in omega (arith, rest)

-- a line of more than 512 bytes is too long, whatever it says
pub long_line : (aliases : Pairs) (variables : Variables) (raw : Text) → 512 < length raw → expand_raw_line aliases variables raw ≡ Err LineTooLong
unfolding expand_raw_line
long_line aliases variables raw long =
    let test = more (length raw) long in
    rw test refl

-- a short line without `$` and back-tick, whose values are then the line itself
plain-values : (variables : Variables) (line : Text) → length line ≤ 512 → is_marked line ≡ false → IsText line
    → expanded_line variables line ≡ expanded_of_cut (cut_of line)
plain-values variables line short plain text =
    let test = not-more (length line) short in
    let no-tick = no_ticks 0 line (or_parts _ _ plain).1 text in
    ap (λ t. then_read (within_line_limit t)) (no_values variables line (or_parts _ _ plain).0 text)
    ∙ rw test no-tick

-- and if its first word is no alias either
pub plain_line : (aliases : Pairs) (variables : Variables) (raw : Text) → length raw ≤ 512 → is_marked (without_comment raw) ≡ false → IsText (without_comment raw)
    → with_alias aliases (without_comment raw) ≡ without_comment raw
    → expand_raw_line aliases variables raw ≡ expanded_of_cut (cut_of (without_comment raw))
unfolding expand_raw_line
plain_line aliases variables raw short plain text alias =
    let test = not-more (length raw) short in
    let line = without_comment raw in
    let shorter : length line ≤ 512 = (let cut = take-short (comment_start raw) raw in omega (arith, short, cut)) in
    rw test (ap (expanded_line variables) alias ∙ plain-values variables line shorter plain text)

-- a text stays one without its comment
pub text_kept : (raw : Text) → IsText raw → IsText (without_comment raw)
text_kept raw text = All-take (λ b. b < 128) (comment_start raw) raw text
