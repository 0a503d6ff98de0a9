use Rattle.std.proofs.Common.{◌≡◌, ◌+◌, ◌<◌, ◌&&◌, ℕ, nat_lt}
use Rattle.ados_pattern.specs.CharTest.{test_of}
use Rattle.ados_pattern.specs.Table.{is_set}
use Rattle.ados_pattern.proofs.Places.{steps}
use Rattle.ados_pattern.proofs.reaching.stepped.Given as goal

abbrev pub invariant-loop-start : goal.invariant-loop-start
invariant-loop-start l = (b : ℕ) → b < 64 → is_set l.ends b ≡ (nat_lt (b + 1) l.start && steps (test_of l.test) l.text l.starts (b + 1))
