use Rattle.std.proofs.Common.{◌≡◌, ◌∙◌, ◌++◌, [], Some, drop, ap, sym, arith, append-nil}
use Rattle.std.proofs.lemmas.List.{drop_all}
use Rattle.ados_readargs.specs.Args.{option_texts}
use Rattle.ados_flow.proofs.PhraseLemmas.{after_blanks, phrase-first, phrase-none}
use Rattle.ados_flow.proofs.branches.phrase.Goals as goal

pub returns-then-count-eq0 : goal.returns-then-count-eq0
returns-then-count-eq0 c = phrase-none (option_texts c.args.args.now 0) (omega (arith, c.texts_len-count.ensures, c.if-count-eq0.true))

pub returns : goal.returns
returns c =
    let texts = option_texts c.args.args.now 0 in
    let none : drop c.loop-number.number texts ≡ [] = drop_all c.loop-number.number texts (omega (arith, c.texts_len-count.ensures, c.loop-number-test.false)) in
    ap Some (sym (append-nil c.loop-number.label) ∙ ap (λ words. c.loop-number.label ++ after_blanks words) (sym none) ∙ c.loop-number.invariant)
    ∙ phrase-first texts (omega (arith, c.texts_len-count.ensures, c.if-count-eq0.false))
