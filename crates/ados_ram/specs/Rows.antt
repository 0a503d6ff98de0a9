-- Rows in order: the entries of the files with their places.
use Rattle.std.specs.Prelude.{◌≡◌, ◌≤◌, ℕ, suc, Bool, cond, [], ◌∷◌, length, IsTrue, codes}
use Rattle.std.specs.FinMap as map
use Rattle.ados_ram.specs.Place.{Key, place_cmp, is_same_key}
use Rattle.ados_ram.specs.Entry.{new_directory}
use Rattle.ados_ram.specs.Files.{Rows, directory_row, total_of}
use Rattle.ados_ram.specs.Limits.{bytes_limit, objects_limit}
use Rattle.ados_ram.specs.declared.limits.Limits.TheVariants.{Large}
use Rattle.ados_ram.specs.Contents.{is_within}

-- the rows are in order, `total` is the number of bytes of their files, and `count` that of the rows
pub record AreRows (es : Rows) (total count : ℕ) : Type 0 where
  pub sorted : IsTrue (map.is_sorted place_cmp es)
  pub summed : total ≡ total_of es
  pub counted : count ≡ length es
  pub fits : total ≤ bytes_limit Large
  pub few : count ≤ suc (objects_limit Large)

-- the rows without a place
abbrev pub other_rows : Key → Rows → Rows
other_rows key [] = []
other_rows key (e ∷ es) = cond (is_same_key key e.0) (other_rows key es) (e ∷ other_rows key es)

-- the rows of the objects directly in a directory, or of all that are below it
abbrev pub inner_rows : Bool → Key → Rows → Rows
inner_rows all directory [] = []
inner_rows all directory (e ∷ es) = cond (is_within all directory e.0) (e ∷ inner_rows all directory es) (inner_rows all directory es)

-- the initial rows
abbrev pub first_rows : Rows
first_rows = ([], new_directory []) ∷ directory_row (codes "C") ∷ directory_row (codes "Env") ∷ directory_row (codes "S") ∷ directory_row (codes "T") ∷ []
