use Rattle.ados_launch.proofs.HeldLines.{front_short, front_within}
use Rattle.ados_launch.proofs.lines.short_line_length.Goals as goal

pub returns-then-bytes-gt-LINE_BYTES-clause-within : goal.returns-then-bytes-gt-LINE_BYTES-clause-within
returns-then-bytes-gt-LINE_BYTES-clause-within c = front_within c.bytes-bytes.result.now c.args.held.now c.newline_at.result c.bytes-bytes.ensures c.newline_at.ensures.within

pub returns-then-bytes-gt-LINE_BYTES-clause-short : goal.returns-then-bytes-gt-LINE_BYTES-clause-short
returns-then-bytes-gt-LINE_BYTES-clause-short c = front_short c.bytes-bytes.result.now c.newline_at.result c.newline_at.ensures.within
