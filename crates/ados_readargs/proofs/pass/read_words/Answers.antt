use Rattle.std.proofs.Common.{suc, ◌-◌, ◌∙◌, length, arith, ap, sym, subst}
use Rattle.std.proofs.lemmas.Result.{on_ok_weaker, IfErr-weaker}
use Rattle.ados_readargs.specs.Faults.{IsFaultOf}
use Rattle.ados_readargs.specs.Meanings.{read_from}
use Rattle.ados_readargs.specs.Readings.{Readings}
use Rattle.ados_readargs.specs.Steps.{next_readings}
use Rattle.ados_readargs.specs.Words.{words_from}
use Rattle.ados_readargs.proofs.pass.read_words.Goals as goal

pub returns-in-Err-clause-fault : goal.returns-in-Err-clause-fault
returns-in-Err-clause-fault c =
    let n = length c.args.line.now - c.loop-step.step in
    subst (λ whole. IsFaultOf whole c.in-Err.fault) (sym (c.loop-step.invariant (suc n) (omega arith))) (c.in-Err.ensures.fault n)

pub returns-in-Ok-None-clause-ok : goal.returns-in-Ok-None-clause-ok
returns-in-Ok-None-clause-ok c =
    let n = length c.args.line.now - c.loop-step.step in
    let readings : Readings = record { given = c.read_next.new.given.items; plain = c.read_next.new.plain.items } in
    c.loop-step.invariant (suc n) (omega arith) ∙ c.in-Ok-None.ensures.on n
    ∙ ap (next_readings (λ after. read_from c.args.options.now c.args.line.now readings c.read_next.new.pending (words_from n c.args.line.now after)) readings) c.in-Ok-None.field-0-is

pub loop-step-preserved : goal.loop-step-preserved
loop-step-preserved c =
    λ n h. let readings : Readings = record { given = c.read_next.new.given.items; plain = c.read_next.new.plain.items } in
    c.loop-step.invariant (suc n) (omega arith) ∙ c.in-Ok-Some.ensures.on n
    ∙ ap (next_readings (λ after. read_from c.args.options.now c.args.line.now readings c.read_next.new.pending (words_from n c.args.line.now after)) readings) c.in-Ok-Some.field-0-is

pub returns-clause-ok : goal.returns-clause-ok
returns-clause-ok c = on_ok_weaker c.read_end.result (λ e. c.loop-step.invariant 0 (omega arith) ∙ e (record { given = c.loop-step.given.items; plain = c.loop-step.plain.items })) c.read_end.ensures.ok

pub returns-clause-fault : goal.returns-clause-fault
returns-clause-fault c = IfErr-weaker c.read_end.result _ _ (λ e f. subst (λ whole. IsFaultOf whole e) (sym (c.loop-step.invariant 0 (omega arith))) (f (record { given = c.loop-step.given.items; plain = c.loop-step.plain.items }))) c.read_end.ensures.fault
