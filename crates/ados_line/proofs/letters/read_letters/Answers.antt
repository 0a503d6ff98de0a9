use Rattle.std.proofs.Common.{suc, ◌-◌, ◌∙◌, length, flat_map, ap, arith, sym, append-nil}
use Rattle.ados_line.specs.Letters.{letters_of_items, letter_bytes}
use Rattle.ados_line.proofs.LetterLemmas.{letters-done, letters-onward, letters-written}
use Rattle.ados_line.proofs.letters.read_letters.Goals as goal

pub returns-in-None-clause-letters : goal.returns-in-None-clause-letters
returns-in-None-clause-letters c =
    let n = length c.args.line.now - c.loop-step.step in
    let next = letters_of_items n c.args.line.now in
    letters-done next _ _ _ (c.loop-step.invariant (suc n) (omega arith) ∙ c.in_ok-to.ensures next) c.in-None.is

pub loop-step-preserved : goal.loop-step-preserved
loop-step-preserved c = λ n h.
    let next = letters_of_items n c.args.line.now in
    letters-onward next _ _ _ _ (c.loop-step.invariant (suc n) (omega arith) ∙ c.in_ok-to.ensures next) c.in-Some.is

pub returns-clause-letters : goal.returns-clause-letters
returns-clause-letters c = sym (c.loop-step.invariant 0 (omega (arith, c.loop-step-test.false)) ∙ append-nil c.loop-step.letters.items)

pub returns-in-None-clause-written : goal.returns-in-None-clause-written
returns-in-None-clause-written c = ap (λ l. flat_map letter_bytes l) (returns-in-None-clause-letters c) ∙ letters-written c.args.line.now

pub returns-clause-written : goal.returns-clause-written
returns-clause-written c = ap (λ l. flat_map letter_bytes l) (returns-clause-letters c) ∙ letters-written c.args.line.now
