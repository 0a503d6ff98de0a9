-- the values of a list of characters, once all are passed
use Rattle.std.proofs.Common.{◌≡◌, ◌∙◌, ℕ, ◌≤◌, List, ◌++◌, length, drop, sym, ap, arith, append-nil, inr, Ok, nat_lt}
use Rattle.std.proofs.lemmas.List.{drop_all}
use Rattle.std.proofs.lemmas.Bool.{cond-false}
use Rattle.std.proofs.lemmas.Bool.Decides.{nat_tests}
use Rattle.ados_line.specs.Answers.{within_line_limit, Gives}
use Rattle.ados_line.specs.declared.letters.Letter.{Letter}
use Rattle.ados_line.specs.Values.{Variables, values}

-- all is expanded, and it is short enough
pub all-put : (v : Variables) (whole text : List ℕ) (taken place : ℕ) (ls : List Letter) → length ls ≤ place → length text ≤ 512
    → whole ≡ text ++ values v taken (drop place ls) → Gives (Ok text) (within_line_limit whole)
all-put v whole text taken place ls past short e =
    let same : whole ≡ text = e ∙ ap (λ l. text ++ values v taken l) (drop_all place ls past) ∙ append-nil text in
    inr (sym (ap within_line_limit same ∙ cond-false (nat_lt 512 (length text)) _ _ (grind (arith, nat_tests))))
