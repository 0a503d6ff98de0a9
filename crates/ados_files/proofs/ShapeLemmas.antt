-- Listings down to a depth.
use Rattle.std.proofs.Common.{◌≡◌, ℕ, suc, ◌++◌, List, refl}
use Rattle.std.specs.List.{flat_map}
use Rattle.ados_text.specs.Text.{Text}
use Rattle.ados_ram.specs.Place.{Place}
use Rattle.ados_ram.specs.Files.{Files}
use Rattle.ados_objects.specs.Lines.{entry_lines}
use Rattle.ados_files.specs.Shapes.{line_by_shape, directory_lines, group_lines}
use Rattle.ados_files.specs.declared.shapes.Shape.{Shape}

pub one_deeper : (shape : Shape) (files : Files) (depth below : ℕ) (path : Text) (places : List Place) → depth ≡ suc below →
    entry_lines (line_by_shape shape path) files places ++ flat_map (directory_lines (group_lines shape files below) files path) places
    ≡ group_lines shape files depth path places
one_deeper shape files depth below path places e = rw e refl
