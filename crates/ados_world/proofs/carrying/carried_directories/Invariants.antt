use Rattle.std.proofs.Common.{◌≡◌, map, take, length}
use Rattle.std.specs.Prelude.{option_map}
use Rattle.ados_machine.specs.Carrying.{carried_directory}
use Rattle.ados_world.proofs.carrying.carried_directories.Given as goal

abbrev pub invariant-loop-place : goal.invariant-loop-place
invariant-loop-place l = record {
  filled : take l.place l.directories ≡ map (option_map (carried_directory l.moved)) (take l.place l.shells);
  len : length l.directories ≡ 20;
}
