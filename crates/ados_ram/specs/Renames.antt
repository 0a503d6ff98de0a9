-- Renames: what a rename that is not refused makes of the files.
use Rattle.std.specs.Prelude.{◌≡◌, ◌||◌, true, false, ◌∷◌, ◌++◌, None}
use Rattle.std.specs.Option.{option_map}
use Rattle.std.specs.FinMap as map
use Rattle.ados_text.specs.Name.{Name}
use Rattle.ados_ram.specs.declared.entries.Entry.{Entry}
use Rattle.ados_ram.specs.Place.{Key, is_at_or_below}
use Rattle.ados_ram.specs.Files.{Files, IsTree, OthersStay}
use Rattle.ados_ram.specs.FileOperations.{rename_of, rename_fault}
use Rattle.ados_ram.specs.InUse.{InUse}

-- the same entry under another name
abbrev pub entry_with_name : Name → Entry → Entry
entry_with_name name e = record e { name = name }

-- What was at a place is at another, under its new name, and what was below the one is below the other, as it was and by
-- the same relative path. Nothing is left at the old place or below it, except for what is now there, and each other
-- place is as it was.
pub record HasMoved (from to : Key) (name : Name) (old new : Files) : Type 0 where
  pub itself : map.get new to ≡ option_map (entry_with_name name) (map.get old from)
  pub below : (first : Name) (way : Key) → map.get new (to ++ first ∷ way) ≡ map.get old (from ++ first ∷ way)
  pub gone : (place : Key) → is_at_or_below from place ≡ true → is_at_or_below to place ≡ false → map.get new place ≡ None
  pub others : OthersStay (λ place. is_at_or_below from place || is_at_or_below to place) old new

-- each rename that is not refused does so
abbrev pub RenamesMove : Type 0
RenamesMove = (busy : InUse) (files : Files) (from to : Key) (name : Name) →
    IsTree files → rename_fault busy files from to ≡ None → HasMoved from to name files (rename_of files from to name)
