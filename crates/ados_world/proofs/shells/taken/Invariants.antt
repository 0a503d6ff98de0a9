use Rattle.std.proofs.Common.{◌≡◌, map, take, length}
use Rattle.std.specs.Prelude.{is_some}
use Rattle.ados_world.proofs.shells.taken.Given as goal

abbrev pub invariant-loop-place : goal.invariant-loop-place
invariant-loop-place l = record {
  flags : take l.place l.taken ≡ map is_some (take l.place l.shells);
  len : length l.taken ≡ 20;
}
