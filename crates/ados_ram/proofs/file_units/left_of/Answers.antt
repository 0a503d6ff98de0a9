use Rattle.std.proofs.Common.{rules, true, false}
use Rattle.ados_ram.proofs.StartLemmas.{stripped, begun}
use Rattle.ados_ram.proofs.file_units.left_of.Goals as goal

pub returns-then-bytes-wanted : goal.returns-then-bytes-wanted
returns-then-bytes-wanted c = stripped c.strip_prefix.result c.args.bytes.now c.args.wanted.now (search rules) c.strip_prefix.ensures.cases

pub returns-then-starts_with : goal.returns-then-starts_with
returns-then-starts_with c = begun true c.args.bytes.now c.args.wanted.now (search rules) (search rules)

pub returns-else-starts_with : goal.returns-else-starts_with
returns-else-starts_with c = begun false c.args.bytes.now c.args.wanted.now (search rules) (search rules)
