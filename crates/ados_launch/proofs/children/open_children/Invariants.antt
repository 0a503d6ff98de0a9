use Rattle.std.proofs.Common.{◌≡◌, ℕ, get_or, false, nat_lt, length}
use Rattle.std.specs.Prelude.{if◌then◌else◌}
use Rattle.ados_machine.specs.World.{pending_of}
use Rattle.ados_launch.specs.Rounds.{asks_read_or_wait}
use Rattle.ados_launch.proofs.children.open_children.Given as goal

abbrev pub invariant-loop-number : goal.invariant-loop-number
invariant-loop-number l = record {
  size : length l.children ≡ 21;
  filled : (j : ℕ) → get_or l.children j false ≡ (if nat_lt j l.number then asks_read_or_wait (pending_of l.world j) else false);
}
