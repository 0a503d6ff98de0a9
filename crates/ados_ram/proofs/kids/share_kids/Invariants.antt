use Rattle.std.proofs.Common.{◌≡◌, ◌++◌, drop}
use Rattle.ados_ram.proofs.kids.share_kids.Given as goal

abbrev pub invariant-loop-kid : goal.invariant-loop-kid
invariant-loop-kid l = l.out.items ++ drop l.kid-index l.kids ≡ l.initial.out.items ++ l.kids
