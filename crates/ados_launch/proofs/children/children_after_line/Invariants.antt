use Rattle.std.proofs.Common.{◌≡◌, ℕ, get_or, false, nat_lt, length}
use Rattle.std.specs.Prelude.{if◌then◌else◌}
use Rattle.ados_launch.specs.Alone.{is_open_after_line}
use Rattle.ados_launch.proofs.children.children_after_line.Given as goal

abbrev pub invariant-loop-number : goal.invariant-loop-number
invariant-loop-number l = record {
  size : length l.children ≡ 21;
  filled : (j : ℕ) → get_or l.children j false ≡ (if nat_lt j l.number then is_open_after_line l.world l.ran j else false);
}
