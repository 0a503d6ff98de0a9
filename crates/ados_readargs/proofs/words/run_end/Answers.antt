use Rattle.std.proofs.Common.{suc, ◌-◌, length, arith, sym}
use Rattle.std.proofs.lemmas.Bool.Decides.{nat_tests}
use Rattle.ados_items.specs.declared.items.Item.TheVariants.{Word, Quoted, Equal, End, Unmatched}
use Rattle.ados_readargs.proofs.WordsLemmas.{run_end-item}
use Rattle.ados_readargs.proofs.words.run_end.Goals as goal
use Rattle.ados_readargs.proofs.words.run_end.Goals.{in-Word+else-from-end, in-Equal+else-place-end}

pub returns-then-from-end : goal.returns-then-from-end
returns-then-from-end c =
    let n = length c.args.line.now - c.loop-step.step in
    let h = run_end-item _ n c.args.line.now c.loop-step.end (Word c.in-Word.from c.in-Word.to) c.in-Word.ensures.value (c.loop-step.invariant (suc n) (omega arith)) in
    grind (arith, nat_tests, h)

pub returns-then-place-end : goal.returns-then-place-end
returns-then-place-end c =
    let n = length c.args.line.now - c.loop-step.step in
    let h = run_end-item _ n c.args.line.now c.loop-step.end (Equal c.in-Equal.place) c.in-Equal.ensures.value (c.loop-step.invariant (suc n) (omega arith)) in
    grind (arith, nat_tests, h)

pub returns-in-Quoted : goal.returns-in-Quoted
returns-in-Quoted c =
    let n = length c.args.line.now - c.loop-step.step in
    sym (run_end-item _ n c.args.line.now c.loop-step.end (Quoted c.in-Quoted.from c.in-Quoted.to) c.in-Quoted.ensures.value (c.loop-step.invariant (suc n) (omega arith)))

pub returns-in-End : goal.returns-in-End
returns-in-End c =
    let n = length c.args.line.now - c.loop-step.step in
    sym (run_end-item _ n c.args.line.now c.loop-step.end (End c.in-End.field-0) c.in-End.ensures.value (c.loop-step.invariant (suc n) (omega arith)))

pub returns-in-Unmatched : goal.returns-in-Unmatched
returns-in-Unmatched c =
    let n = length c.args.line.now - c.loop-step.step in
    sym (run_end-item _ n c.args.line.now c.loop-step.end (Unmatched c.in-Unmatched.field-0) c.in-Unmatched.ensures.value (c.loop-step.invariant (suc n) (omega arith)))

pub loop-step-preserved : goal.loop-step-preserved
loop-step-preserved c =
    λ n h. elim c.match-next_item.branch [
      | in-Word+else-from-end w ↦
          let e = run_end-item _ n c.args.line.now c.loop-step.end (Word w.in-Word.from w.in-Word.to) w.in-Word.ensures.value (c.loop-step.invariant (suc n) (omega arith)) in
          rw w.end-is (grind (arith, nat_tests, e, w.if-from-end.false))
      | in-Equal+else-place-end w ↦
          let e = run_end-item _ n c.args.line.now c.loop-step.end (Equal w.in-Equal.place) w.in-Equal.ensures.value (c.loop-step.invariant (suc n) (omega arith)) in
          rw w.end-is (grind (arith, nat_tests, e, w.if-place-end.false))
    ]

pub returns : goal.returns
returns c = sym (c.loop-step.invariant 0 (omega arith))
