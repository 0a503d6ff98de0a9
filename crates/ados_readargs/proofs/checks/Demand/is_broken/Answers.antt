use Rattle.std.proofs.Common.{◌∙◌, sym}
use Rattle.ados_readargs.specs.Checks.{is_broken_by}
use Rattle.ados_readargs.proofs.CheckLemmas.{any-found, any-goes_on}
use Rattle.ados_readargs.proofs.checks.Demand.is_broken.Goals as goal

pub loop-place-preserved : goal.loop-place-preserved
loop-place-preserved c =
    any-goes_on (is_broken_by c.args.self) c.args.options.now c.args.args.now c.loop-place.place c.index-options-place.result c.loop-place-test.true c.requires c.index-options-place.is
    c.loop-place.invariant (sym c.is_broken_by.ensures ∙ c.if-is_broken_by.false)

pub returns-then-is_broken_by : goal.returns-then-is_broken_by
returns-then-is_broken_by c =
    any-found (is_broken_by c.args.self) c.args.options.now c.args.args.now c.loop-place.place c.index-options-place.result c.loop-place-test.true c.requires c.index-options-place.is
    c.loop-place.invariant (sym c.is_broken_by.ensures ∙ c.if-is_broken_by.true)
