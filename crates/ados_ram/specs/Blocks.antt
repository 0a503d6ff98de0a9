-- Blocks: the objects of a directory in order, split into consecutive lists.
use Rattle.std.specs.Prelude.{◌≡◌, ◌+◌, ◌<◌, ℕ, Bool, false, List, [], ◌∷◌, ◌++◌, length, take, drop, IsTrue}
use Rattle.std.specs.FinMap as map
use Rattle.std.specs.declared.cmp.Ordering.TheVariants.{Greater}
use Rattle.std.specs.Ordering.{is_le}
use Rattle.ados_text.specs.Name.{Name, name_cmp}
use Rattle.ados_ram.specs.Tree.{Kids}

-- all objects
abbrev pub all_kids : List Kids → Kids
all_kids [] = []
all_kids (b ∷ bs) = b ++ all_kids bs

-- no block is empty
abbrev pub AllFull : List Kids → Type 0
AllFull [] = Unit {0}
AllFull (b ∷ bs) = (0 < length b) × AllFull bs

pub record AreBlocks (bs : List Kids) : Type 0 where
  pub sorted : IsTrue (map.is_sorted name_cmp (all_kids bs))
  pub full : AllFull bs

-- the first name of a block is this one, or one before it
abbrev pub first_is_at_most : Name → Kids → Bool
first_is_at_most x [] = false
first_is_at_most x (k ∷ ks) = is_le (name_cmp k.0 x)

-- each object has a name before this one
abbrev pub AllBefore : Name → Kids → Type 0
AllBefore x [] = Unit {0}
AllBefore x (k ∷ ks) = (name_cmp x k.0 ≡ Greater) × AllBefore x ks

-- a name is in the block at `i` if it is in any: the blocks before it hold names before it, and those after it names
-- after it
pub record IsBlockOf (x : Name) (bs : List Kids) (i : ℕ) : Type 0 where
  pub before : AllBefore x (all_kids (take i bs))
  pub after : IsTrue (map.Entries.below_all name_cmp x (all_kids (drop (i + 1) bs)))
