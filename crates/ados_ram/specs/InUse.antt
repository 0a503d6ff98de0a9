-- What is in use: current directories, directories of assigns, open outputs, and directories above an open output.
use Rattle.std.specs.Prelude.{Bool, ◌||◌, List, []}
use Rattle.ados_ram.specs.Place.{Place, Key, any_same, any_at_or_below}

-- directories that are in use by themselves, and open outputs
pub record InUse : Type 0 where
  pub dirs : List Place
  pub outputs : List Place

abbrev pub nothing : InUse
nothing = record { dirs = []; outputs = [] }

-- the place is an open output
abbrev pub is_output : InUse → Key → Bool
is_output busy key = any_same busy.outputs key

-- the place is an open output, or a directory above one
abbrev pub holds_output : InUse → Key → Bool
holds_output busy key = any_at_or_below busy.outputs key

-- the place is in use
abbrev pub is_in_use : InUse → Key → Bool
is_in_use busy key = any_same busy.dirs key || holds_output busy key
