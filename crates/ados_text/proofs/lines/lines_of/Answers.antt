use Rattle.std.proofs.Common.{rules}
use Rattle.ados_text.proofs.LineLemmas.{past_newline, past_byte, last_counts, none_after}
use Rattle.ados_text.proofs.lines.lines_of.Goals as goal
use Rattle.ados_text.proofs.lines.lines_of.Goals.{then-byte-eq10+in_ok-push, else-byte-eq10+in_ok-push-2, then-not-is_empty+in_ok-push-3, else-not-is_empty}

pub loop-byte-preserved : goal.loop-byte-preserved
loop-byte-preserved c = elim c.if-byte-eq10.branch [
  | then-byte-eq10+in_ok-push w ↦ rw (w.lines-is, w.line-is, w.new-line-then-byte-eq10.ensures, w.in_ok-push.ensures.ok)
      (past_newline c.args.bytes.now c.loop-byte.byte-index c.loop-byte.lines c.loop-byte.line (search rules) (search rules) c.loop-byte.invariant)
  | else-byte-eq10+in_ok-push-2 w ↦ rw (w.lines-is, w.line-is, w.in_ok-push-2.ensures.ok)
      (past_byte c.args.bytes.now c.loop-byte.byte-index c.loop-byte.lines c.loop-byte.line (search rules) (search rules) c.loop-byte.invariant)
]

pub returns : goal.returns
returns c = elim c.if-not-is_empty.branch [
  | then-not-is_empty+in_ok-push-3 w ↦ rw (w.lines-is, w.in_ok-push-3.ensures.ok)
      (last_counts c.args.bytes.now c.loop-byte.byte-index c.loop-byte.lines c.loop-byte.line (search rules) (search rules) c.loop-byte.invariant)
  | else-not-is_empty w ↦ rw (w.lines-is) (none_after c.args.bytes.now c.loop-byte.byte-index c.loop-byte.lines c.loop-byte.line (search rules) (search rules) c.loop-byte.invariant)
]
