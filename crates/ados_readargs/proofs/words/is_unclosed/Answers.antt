use Rattle.std.proofs.Common.{◌≡◌, suc, ◌-◌, ◌∙◌, ◌||◌, true, false, Some, None, length, arith, ap, sym}
use Rattle.std.specs.List.{list_any}
use Rattle.ados_readargs.specs.Words.{is_open_quote, words_from}
use Rattle.ados_readargs.proofs.WordsLemmas.{words-step}
use Rattle.ados_readargs.proofs.words.is_unclosed.Goals as goal

pub returns-in_default : goal.returns-in_default
returns-in_default c =
    let n = length c.args.line.now - c.loop-step.step in
    let words = words-step n c.args.line.now c.loop-step.place None (sym c.in_default.is ∙ c.word_at.ensures) in
    sym (c.loop-step.invariant (suc n) (omega arith) ∙ ap (list_any is_open_quote) words)

pub returns-then-is_open_quote : goal.returns-then-is_open_quote
returns-then-is_open_quote c =
    let n = length c.args.line.now - c.loop-step.step in
    let words = words-step n c.args.line.now c.loop-step.place (Some (c.in-Some.word, c.in-Some.after)) (sym c.in-Some.is ∙ c.word_at.ensures) in
    let opens : is_open_quote c.in-Some.word ≡ true = sym c.is_open_quote.ensures ∙ c.if-is_open_quote.true in
    sym (c.loop-step.invariant (suc n) (omega arith) ∙ ap (list_any is_open_quote) words
    ∙ ap (λ first. first || list_any is_open_quote (words_from n c.args.line.now c.in-Some.after)) opens)

pub loop-step-preserved : goal.loop-step-preserved
loop-step-preserved c =
    λ n h. let words = words-step n c.args.line.now c.loop-step.place (Some (c.in-Some.word, c.in-Some.after)) (sym c.in-Some.is ∙ c.word_at.ensures) in
    let closed : is_open_quote c.in-Some.word ≡ false = sym c.is_open_quote.ensures ∙ c.if-is_open_quote.false in
    c.loop-step.invariant (suc n) (omega arith) ∙ ap (list_any is_open_quote) words
    ∙ ap (λ first. first || list_any is_open_quote (words_from n c.args.line.now c.in-Some.after)) closed

pub returns : goal.returns
returns c = sym (c.loop-step.invariant 0 (omega arith))
