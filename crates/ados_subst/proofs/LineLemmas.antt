-- the references of a line, once all its bytes are passed
use Rattle.std.proofs.Common.{◌≡◌, ◌∙◌, ℕ, ◌≤◌, ◌++◌, length, drop, sym, ap, append-nil}
use Rattle.std.proofs.lemmas.List.{drop_all}
use Rattle.ados_text.specs.Text.{Text}
use Rattle.ados_subst.specs.declared.marks.Marks.{Marks}
use Rattle.ados_subst.specs.References.{References}
use Rattle.ados_subst.specs.Lines.{segments_text}

-- all bytes were added
pub all-put : (m : Marks) (r : References) (whole text : Text) (taken place : ℕ) (line : Text) → length line ≤ place
    → whole ≡ text ++ segments_text m r taken (drop place line) → text ≡ whole
all-put m r whole text taken place line past e =
    sym (e ∙ ap (λ l. text ++ segments_text m r taken l) (drop_all place line past) ∙ append-nil text)
