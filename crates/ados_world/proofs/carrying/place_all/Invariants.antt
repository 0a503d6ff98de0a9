use Rattle.std.proofs.Common.{◌≡◌, take, drop, length}
use Rattle.ados_world.specs.Shells.{placed_shells}
use Rattle.ados_world.proofs.carrying.place_all.Given as goal

-- the shells so far are placed, and the directories of the others are left
abbrev pub invariant-loop-place : goal.invariant-loop-place
invariant-loop-place l = record {
  placed : l.shells ≡ placed_shells (take l.place l.fn.directories) l.fn.shells;
  left : drop l.place l.left ≡ drop l.place l.fn.directories;
  shells_len : length l.shells ≡ 20;
  left_len : length l.left ≡ 20;
}
