use Rattle.std.proofs.Common.{◌≡◌, ◌≤◌, length, take}
use Rattle.std.specs.Vec.{vec_len, vec_capacity}
use Rattle.ados_machine.specs.Runs.{Runs}
use Rattle.ados_world.proofs.worlds.World.run.Given as goal

abbrev pub invariant-loop-event : goal.invariant-loop-event
invariant-loop-event l = record {
  run : Runs l.fn.self (take l.event-index l.events) l.outs.items l.self;
  room : length l.events ≤ vec_capacity l.outs;
  len : vec_len l.outs ≡ l.event-index;
}
