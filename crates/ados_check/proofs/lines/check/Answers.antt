use Rattle.std.proofs.Common.{◌≡◌, ◌∙◌, Some, arith, length, refl}
use Rattle.std.specs.Prelude.{slice_get}
use Rattle.std.proofs.lemmas.Option.{slice_get_read}
use Rattle.ados_check.specs.LeftOut.{gives_left_out}
use Rattle.ados_check.proofs.ErrorLemmas.{stay_so}
use Rattle.ados_check.proofs.LeftOutLemmas.{told_at_last, told_more}
use Rattle.ados_check.proofs.lines.check.Goals as goal

pub loop-place-preserved : goal.loop-place-preserved
loop-place-preserved c =
    let lines = c.args.lines.now in
    let reader = c.new-reader.result in
    let here : slice_get lines c.loop-place.place ≡ Some c.index-lines-place.result =
    slice_get_read lines (length lines) c.loop-place.place c.index-lines-place.result refl c.loop-place-test.true c.index-lines-place.is in (
      λ number. c.in_ok-push_options.ensures.same number ∙ c.loop-place.invariant.0 number,
      stay_so _ _ c.loop-place.invariant.1 c.in_ok-push_options.ensures.so,
      told_more (gives_left_out reader.commands.now reader.dialect reader.aliases.now) c.args.lines.now c.loop-place.place _ _ _
          here c.loop-place.invariant.2 c.in_ok-push_options.ensures.told,
    )

pub returns-clause-left_out : goal.returns-clause-left_out
returns-clause-left_out c =
    let reader = c.new-reader in
    told_at_last reader.result.commands.now reader.result.dialect c.args.dialect reader.result.aliases.now c.args.aliases.now c.args.lines.now _ _ _
    reader.ensures.commands reader.ensures.dialect reader.ensures.aliases (omega (arith, c.loop-place-test.false)) c.loop-place.invariant.2 c.in_ok-sort.ensures.told

pub returns-clause-so : goal.returns-clause-so
returns-clause-so c = stay_so _ _ c.loop-place.invariant.1 c.in_ok-sort.ensures.so
