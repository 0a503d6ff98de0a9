use Rattle.std.proofs.Common.{◌≡◌}
use Rattle.std.specs.List.{find}
use Rattle.ados_script.specs.Lines.{numbers_below}
use Rattle.ados_script.specs.Skips.{is_end_skip_at}
use Rattle.ados_script.proofs.SkipLemmas.{first-is, numbers_rise}
use Rattle.ados_script.proofs.scripts.Script.first_end_skip.Goals as goal

pub first_below-requires : goal.first_below-requires
first_below-requires c =
    let lines = c.self.inside.lines.items in
    rw (c.deref.ensures.value, c.self.invariant.end_skips) (numbers_rise (is_end_skip_at lines) lines)

pub returns-clause-first : goal.returns-clause-first
returns-clause-first c =
    let lines = c.self.inside.lines.items in
    let first : c.first_below.result ≡ find (is_end_skip_at lines) (numbers_below lines c.args.i) =
    rw (c.first_below.ensures, c.deref.ensures.value, c.self.invariant.end_skips) (first-is (is_end_skip_at lines) lines c.args.i) in
    rw (← c.self.view_is) first

pub returns-clause-few : goal.returns-clause-few
returns-clause-few c = rw (← c.self.view_is) c.self.invariant.few
