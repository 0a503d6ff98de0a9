use Rattle.std.specs.Fmt.{decimal}
use Rattle.ados_text.specs.Lines.{lines_of}
use Rattle.ados_check.proofs.DirectiveLemmas.{told_template}
use Rattle.ados_check.proofs.directives.sample_of.Goals as goal

pub returns-in-Err-Args-BadTemplate-clause-bad : goal.returns-in-Err-Args-BadTemplate-clause-bad
returns-in-Err-Args-BadTemplate-clause-bad c =
    told_template (lines_of c.args.bytes.now) c.as_bytes.result.now (decimal 1) c.map_or.result c.script.result
    c.in-Err-Args-BadTemplate.field-0 c.in-Err-Args-BadTemplate.field-0-0 c.script.ensures.value
    c.in-Err-Args-BadTemplate.is c.in-Err-Args-BadTemplate.field-0-is c.in-Err-Args-BadTemplate.field-0-0-is
