use Rattle.std.proofs.Common.{◌∷◌, ◌++◌, [], length-append, arith, sym, ◌∙◌}
use Rattle.std.proofs.lemmas.List.{take_all, take-append-le}
use Rattle.ados_launch.proofs.lines.keep.Goals as goal

pub returns-in_ok-push-clause-kept : goal.returns-in_ok-push-clause-kept
returns-in_ok-push-clause-kept c = rw c.in_ok-push.ensures.items (sym (take_all 512 (c.args.line.now.items ++ c.args.byte ∷ []) (rw length-append (omega arith))))

pub returns-else-len-lt-LINE_BYTES-clause-kept : goal.returns-else-len-lt-LINE_BYTES-clause-kept
returns-else-len-lt-LINE_BYTES-clause-kept c =
    sym (take-append-le 512 c.args.line.now.items (c.args.byte ∷ []) (omega arith) ∙ take_all 512 c.args.line.now.items (omega arith))
