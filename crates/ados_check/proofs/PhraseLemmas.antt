-- The options among the words of a command: those so far, and those to come.
use Rattle.std.proofs.Common.{ℕ, ◌≡◌, ◌∙◌, List, ◌∷◌, ◌++◌, append_assoc, ap, sym}
use Rattle.ados_check.specs.Phrases.{given_among, one_or_none, phrase_after}
use Rattle.ados_check.specs.declared.arguments.Word.{Word}
use Rattle.ados_check.specs.declared.phrases.Given.{Given}
use Rattle.ados_check.specs.declared.phrases.Phrase.{Phrase}

pub given-more : (phrase : List Word → Phrase) (whole items new : List Given) (further : ℕ) (words rest : List Word) (word : Word) (here : Phrase)
    → whole ≡ items ++ given_among phrase further words → words ≡ word ∷ rest → here ≡ phrase_after phrase further words → new ≡ items ++ one_or_none here.given
    → whole ≡ new ++ given_among phrase here.further rest
given-more phrase whole items new further words rest word here h first is pushed =
    let more = given_among phrase here.further rest in
    let at : phrase_after phrase further (word ∷ rest) ≡ here = ap (phrase_after phrase further) (sym first) ∙ sym is in
    h ∙ ap (λ ws. items ++ given_among phrase further ws) first
    ∙ ap (λ (p : Phrase). items ++ (one_or_none p.given ++ given_among phrase p.further rest)) at
    ∙ sym (append_assoc items (one_or_none here.given) more) ∙ ap (λ gs. gs ++ more) (sym pushed)
