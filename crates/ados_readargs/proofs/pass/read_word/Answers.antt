use Rattle.std.proofs.Common.{◌∙◌, refl, sym, subst}
use Rattle.ados_readargs.specs.Faults.{IsFaultOf}
use Rattle.ados_readargs.specs.Readings.{Readings}
use Rattle.ados_readargs.proofs.ReadLemmas.{read-none}
use Rattle.ados_readargs.proofs.pass.read_word.Goals as goal

pub returns-in-Err-clause-fault : goal.returns-in-Err-clause-fault
returns-in-Err-clause-fault c =
    λ n. let readings : Readings = record { given = c.args.given.now.items; plain = c.args.plain.now.items } in
    let end = read-none _ c.args.options.now c.args.line.now readings c.args.pending.now n c.args.place (sym c.in_default.is ∙ c.word_at.ensures) refl in
    subst (λ whole. IsFaultOf whole c.in-Err.fault) (sym end) (c.in-Err.ensures.fault readings)
