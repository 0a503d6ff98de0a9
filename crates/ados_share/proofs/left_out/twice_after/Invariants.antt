use Rattle.std.proofs.Common.{◌≡◌}
use Rattle.ados_share.specs.LeftOut.{twice_after}
use Rattle.ados_share.proofs.left_out.twice_after.Given as goal

-- what is kept and what is left of those before are all
abbrev pub invariant-loop-key : goal.invariant-loop-key
invariant-loop-key l =
    twice_after l.twice.items l.look.unread.items l.key-iterator.rest.items ≡ twice_after l.fn.found.items l.look.unread.items l.fn.before.items
