-- The first step of what goes on for so many levels.
use Rattle.std.proofs.Common.{◌≡◌, ◌≤◌, ◌-◌, ℕ, zero, suc, List, ◌++◌, refl, arith}
use Rattle.std.specs.Prelude.{codes}
use Rattle.std.specs.List.{flat_map}
use Rattle.ados_text.specs.Text.{Bytes}
use Rattle.ados_ram.specs.Place.{Place}
use Rattle.ados_ram.specs.Files.{Files}
use Rattle.ados_files.specs.Below.{objects_in, unless_root, objects_down}
use Rattle.ados_files.specs.Dir.{branch_text, file_text, level_text}
use Rattle.ados_objects.specs.Lines.{keeps, entry_lines}
use Rattle.ados_files.specs.declared.dir_lines.Choice.{Choice}

pub down_further : (levels : ℕ) (files : Files) (place : Place) → 1 ≤ levels →
    objects_down levels files place ≡ unless_root place ++ flat_map (objects_down (levels - 1) files) (objects_in files place)
down_further zero files place le = absurd (omega (arith, le))
down_further (suc n) files place le = let e : suc n - 1 ≡ n = omega arith in rw e refl

pub level_further : (levels : ℕ) (choice : Choice) (files : Files) (blanks : Bytes) (places : List Place) → 1 ≤ levels →
    level_text levels choice files blanks places
    ≡ flat_map (branch_text (level_text (levels - 1) choice files (blanks ++ codes "    ")) (keeps choice.dirs choice.files) files blanks) places
    ++ entry_lines (file_text (keeps choice.files choice.dirs) blanks) files places
level_further zero choice files blanks places le = absurd (omega (arith, le))
level_further (suc n) choice files blanks places le = let e : suc n - 1 ≡ n = omega arith in rw e refl
