use Rattle.std.proofs.Common.{◌≡◌, ◌∙◌, ◌++◌, ◌-◌, append-nil, ap, sym, arith, drop, length, take}
use Rattle.std.proofs.lemmas.List.{drop_more, length-drop, take_all}
use Rattle.ados_check.specs.Phrases.{one_or_none, phrase_after, phrase_of}
use Rattle.ados_check.specs.declared.arguments.Word.{Word}
use Rattle.ados_check.proofs.PhraseLemmas.{given-more}
use Rattle.ados_check.proofs.phrases.Phrases.given_options.Goals as goal
use Rattle.ados_check.proofs.phrases.Phrases.given_options.Goals.{in-Some+in_ok-push, in_default}

pub loop-place-preserved : goal.loop-place-preserved
loop-place-preserved c =
    let self = c.args.self.now in
    let words = c.args.words.now in
    let place = c.loop-place.place in
    let d : Word = record { from = 0; name_to = 0; to = 0 } in
    let first = drop_more words place d c.loop-place-test.true in
    let whole : take (length words - place) (drop place words) ≡ drop place words = take_all (length words - place) (drop place words) (omega (arith, length-drop place words)) in
    let here = c.in_ok-phrase.ensures ∙ ap (phrase_after (phrase_of self.dialect self.command.now self.line.now) c.loop-place.further) whole in
    elim c.match-phrase.branch [
      | in-Some+in_ok-push w ↦
          given-more _ _ _ _ c.loop-place.further _ _ _ c.in_ok-phrase.phrase c.loop-place.invariant first here
          (ap (λ f. f.items) w.options-is ∙ w.in_ok-push.ensures.items ∙ ap (λ g. c.loop-place.options.items ++ one_or_none g) (sym w.in-Some.is))
      | in_default w ↦
          given-more _ _ _ _ c.loop-place.further _ _ _ c.in_ok-phrase.phrase c.loop-place.invariant first here
          (ap (λ f. f.items) w.options-is ∙ sym (append-nil _) ∙ ap (λ g. c.loop-place.options.items ++ one_or_none g) (sym w.in_default.is))
    ]
