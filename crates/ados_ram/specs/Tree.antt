-- A branch of the tree: the name of an object in lower case, and the rows at it and below it, each with the path from it.
use Rattle.std.specs.Prelude.{false, true, ◌≡◌, ◌<◌, ◌≤◌, ℕ, cond, List, [], ◌∷◌, ◌++◌, length, Option, Some, None, IsSome, Result, MatchResult, IsTrue, slice_index_or, slice_set, codes}
use Rattle.std.specs.List.{insert, remove}
use Rattle.std.specs.Coded.{Coded, coded×, coded_list, coded_ℕ}
use Rattle.std.specs.FinMap as map
use Rattle.std.specs.Ordering.{is_eq}
use Rattle.ados_text.specs.Name.{Name, name_cmp}
use Rattle.ados_ram.specs.Place.{Key, Place, place_cmp, key_suffix, is_root, is_same_key, is_at_or_below, last_name}
use Rattle.std.specs.Option.{option_map}
use Rattle.ados_text.specs.Text.{folded_text}
use Rattle.ados_ram.specs.Entry.{coded_entry, renamed_entry, new_directory}
use Rattle.ados_ram.specs.Files.{Files, Rows}
use Rattle.ados_text.specs.declared.codes.Result2.{Result2}
use Rattle.ados_ram.specs.FileOperations.{parent_fault}
use Rattle.ados_ram.specs.Written.{written_name}
use Rattle.ados_ram.specs.declared.entries.Entry.{Entry}

abbrev pub Kid : Type 0
Kid = Name × Rows

abbrev pub Kids : Type 0
Kids = List Kid

abbrev pub coded_kid : Coded Kid
coded_kid = coded× (coded_list coded_ℕ) (coded_list (coded× (coded_list (coded_list coded_ℕ)) coded_entry))

-- the rows of an object, below its name
abbrev pub rows_under_name : Name → Rows → Rows
rows_under_name n [] = []
rows_under_name n (e ∷ es) = (n ∷ e.0, e.1) ∷ rows_under_name n es

-- the rows of the objects in a directory, in order
abbrev pub flatten : Kids → Rows
flatten [] = []
flatten (k ∷ ks) = rows_under_name k.0 k.1 ++ flatten ks

-- the rows of an object and of what is in it
abbrev pub rows_of : Entry → Kids → Rows
rows_of entry kids = ([], entry) ∷ flatten kids

-- a row, if it is at a place or below it, by the path from there
abbrev pub with_way : Option Key → Entry → Rows → Rows
with_way None e rows = rows
with_way (Some way) e rows = (way, e) ∷ rows

-- the rows at a place and below it, by their paths from there
abbrev pub subtree_rows : Key → Rows → Rows
subtree_rows key [] = []
subtree_rows key (e ∷ es) = with_way (key_suffix key e.0) e.1 (subtree_rows key es)

-- the rows of a branch, if there is one
abbrev pub branch_rows : Option Kid → Rows
branch_rows None = []
branch_rows (Some k) = k.1

-- the entry at a path if other rows are at a place and below it
abbrev pub entry_by_way : Option Key → Rows → Option Entry → Option Entry
entry_by_way None sub old = old
entry_by_way (Some way) sub old = map.find place_cmp way sub

-- the rows of an object and of what is below it are in order, and its own is among them
pub record IsSubtree (rows : Rows) : Type 0 where
  pub sorted : IsTrue (map.is_sorted place_cmp rows)
  pub top : IsSome (map.find place_cmp [] rows)

-- each has the rows of an object
abbrev pub AllSubtrees : Kids → Type 0
AllSubtrees [] = Unit {0}
AllSubtrees (k ∷ ks) = IsSubtree k.1 × AllSubtrees ks

-- the objects of a directory are in order, and the rows of each
pub record AreKids (ks : Kids) : Type 0 where
  pub sorted : IsTrue (map.is_sorted name_cmp ks)
  pub all : AllSubtrees ks

-- the rows with other rows at a place and below it
pub record IsReplaced (key : Key) (sub old new : Rows) : Type 0 where
  pub whole : IsSubtree new
  pub found : (q : Key) → map.find place_cmp q new ≡ entry_by_way (key_suffix key q) sub (map.find place_cmp q old)

-- the directory above a place
abbrev pub parent_key : Key → Key
parent_key [] = []
parent_key (x ∷ []) = []
parent_key (x ∷ y ∷ ys) = x ∷ parent_key (y ∷ ys)

-- a branch may be put at a place: the directory above it exists, and the branch has the last name
abbrev pub IsNamed : Key → Option Kid → Type 0
IsNamed key None = Unit {0}
IsNamed key (Some k) = (k.0 ≡ last_name key) × IsSubtree k.1

pub record MayStand (key : Key) (new : Option Kid) (rows : Rows) : Type 0 where
  pub named : IsNamed key new
  pub inside : IsSome (map.find place_cmp (parent_key key) rows)

-- the objects with one taken out
abbrev pub remove_kid : Name → Kids → Kids
remove_kid x [] = []
remove_kid x (k ∷ ks) = cond (is_eq (name_cmp x k.0)) (remove_kid x ks) (k ∷ remove_kid x ks)

-- the objects with another one of a name, or none
abbrev pub replace_kid : Name → Option Kid → Kids → Kids
replace_kid x None ks = remove_kid x ks
replace_kid x (Some k) ks = map.put name_cmp x k.1 ks

-- the object of this name is the one at `i`
pub record IsKid (x : Name) (ks : Kids) (i : ℕ) : Type 0 where
  pub within : i < length ks
  pub name : (d : Kid) → (slice_index_or ks i d).0 ≡ x
  pub found : (d : Kid) → map.find name_cmp x ks ≡ Some (slice_index_or ks i d).1
  pub put : (r : Rows) → map.put name_cmp x r ks ≡ slice_set ks i (x, r)
  pub without : remove_kid x ks ≡ remove ks i

-- no object has the name, and one would be at `i`
pub record IsKidGap (x : Name) (ks : Kids) (i : ℕ) : Type 0 where
  pub within : i ≤ length ks
  pub absent : map.find name_cmp x ks ≡ None
  pub put : (r : Rows) → map.put name_cmp x r ks ≡ insert ks i (x, r)
  pub without : remove_kid x ks ≡ ks

abbrev pub IsKidPosition : Name → Kids → Result ℕ ℕ → Type 0
IsKidPosition x ks at = MatchResult at (IsKid x ks) (IsKidGap x ks)

-- the rows found at a name
abbrev pub rows_found : Option Rows → Rows
rows_found None = []
rows_found (Some r) = r

-- the rows of an object with other objects in it
abbrev pub with_flat : Rows → Kids → Rows
with_flat [] kids = flatten kids
with_flat (e ∷ es) kids = e ∷ flatten kids

-- the initial objects
abbrev pub first_kid : Name → Kid
first_kid name = (folded_text name, rows_of (new_directory name) [])

abbrev pub first_kids : Kids
first_kids = first_kid (codes "C") ∷ first_kid (codes "Env") ∷ first_kid (codes "S") ∷ first_kid (codes "T") ∷ []

-- rows by the paths from a place, as rows from the root
abbrev pub rows_by_root : Key → Rows → Rows
rows_by_root place [] = []
rows_by_root place (e ∷ es) = (place ++ e.0, e.1) ∷ rows_by_root place es

-- paths from a place, as places
abbrev pub places_of_ways : Key → List Key → List Key
places_of_ways place [] = []
places_of_ways place (w ∷ ws) = (place ++ w) ∷ places_of_ways place ws

-- rows from a place, with another entry at the place itself
pub record IsEntryAt (entry : Entry) (old new : Rows) : Type 0 where
  pub whole : IsSubtree new
  pub found : (w : Key) → map.find place_cmp w new ≡ cond (is_same_key w []) (Some entry) (map.find place_cmp w old)

-- the rows of an object that was renamed: it takes the name itself
pub record IsRenamed (name : Name) (old new : Rows) : Type 0 where
  pub whole : IsSubtree new
  pub found : (w : Key) → map.find place_cmp w new ≡ option_map (renamed_entry name w) (map.find place_cmp w old)

-- an object may move: it exists, and so does the directory above the new place, which does not move along; nothing is at
-- the new place or below it except what moves itself
pub record MayMove (from to : Key) (m : Files) : Type 0 where
  pub from_named : is_root from ≡ false
  pub to_named : is_root to ≡ false
  pub there : IsSome (map.get m from)
  pub above_from : IsSome (map.get m (parent_key from))
  pub above_to : IsSome (map.get m (parent_key to))
  pub apart : is_at_or_below from (parent_key to) ≡ false
  pub within : (k : Key) → IsSome (map.find place_cmp k (map.entries m)) → is_at_or_below to k ≡ true → is_at_or_below from k ≡ true

-- names that lead down from a place, as they are written in the rows
abbrev pub rows_written : Rows → Key → Place → Place
rows_written es directory [] = []
rows_written es directory (name ∷ rest) = written_name (map.find place_cmp (directory ++ folded_text name ∷ []) es) name ∷ rows_written es (directory ++ folded_text name ∷ []) rest

-- the fault of the directories above a place, by the rows
abbrev pub rows_way : Rows → Key → Key → Option Result2
rows_way es place [] = None
rows_way es place (n ∷ rest) = parent_fault (map.find place_cmp place es) (rows_way es (place ++ n ∷ []) rest)
