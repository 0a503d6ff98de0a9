use Rattle.std.proofs.Common.{◌≡◌, ◌∙◌}
use Rattle.std.specs.List.{find}
use Rattle.ados_script.specs.Lines.{numbers_below}
use Rattle.ados_script.specs.Tables.{is_lab_at}
use Rattle.ados_script.proofs.SkipLemmas.{any-is, first-is, numbers_rise}
use Rattle.ados_script.proofs.scripts.Script.first_lab.Goals as goal

pub first_below-requires : goal.first_below-requires
first_below-requires c =
    let lines = c.self.inside.lines.items in
    rw (c.deref.ensures.value, c.self.invariant.labs) (numbers_rise (is_lab_at lines) lines)

pub returns-in-None : goal.returns-in-None
returns-in-None c =
    let lines = c.self.inside.lines.items in
    let first : c.first_below.result ≡ find (is_lab_at lines) (numbers_below lines c.args.i) =
    rw (c.first_below.ensures, c.deref.ensures.value, c.self.invariant.labs) (first-is (is_lab_at lines) lines c.args.i) in
    rw (c.in-None.is, ← c.self.view_is) (first ∙ any-is c.args.dialect lines c.args.i)
