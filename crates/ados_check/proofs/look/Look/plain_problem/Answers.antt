use Rattle.std.proofs.Common.{ap, sym, length}
use Rattle.ados_check.proofs.LookLemmas.{long_so}
use Rattle.ados_check.proofs.look.Look.plain_problem.Goals as goal

pub returns-then-bytes-gt-LINE_BYTES : goal.returns-then-bytes-gt-LINE_BYTES
returns-then-bytes-gt-LINE_BYTES c =
    let look = c.args.self.now in
    long_so look.dialect look.written.now look.script c.args.number _ c.args.raw.now c.requires.sample c.requires.written c.requires.taken
    (sym (ap length c.as_bytes-bytes.ensures.value)) c.if-bytes-gt-LINE_BYTES.true
