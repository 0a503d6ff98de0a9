use Rattle.std.proofs.Common.{◌≡◌, ℕ, nat_lt}
use Rattle.std.specs.Prelude.{if◌then◌else◌}
use Rattle.ados_machine.specs.Children.{child_in}
use Rattle.ados_launcher.specs.Lifecycles.{Between, lifecycle_for_state, lifecycle_of}
use Rattle.ados_play.proofs.launchers.launcher_of.Given as goal

-- the children of the numbers so far are in the states that the world has for them, and no other is open
abbrev pub invariant-loop-number : goal.invariant-loop-number
invariant-loop-number l = (k : ℕ) → lifecycle_of k l.launcher.calls ≡ (if nat_lt k l.number then lifecycle_for_state (child_in l.world k) else Between)
