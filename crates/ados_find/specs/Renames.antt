-- What a command renamed: one object, or several, one after the other.
use Rattle.std.specs.Prelude.{List, [], ◌∷◌, Option, Some, None}
use Rattle.ados_find.specs.declared.outcomes.Renamed.{Renamed}
use Rattle.ados_find.specs.declared.outcomes.Renames.{Renames}
use Rattle.ados_find.specs.declared.outcomes.Renames.TheVariants.{One, Gathered}

-- the object that alone was renamed
abbrev pub renamed_alone : Option Renames → Option Renamed
renamed_alone None = None
renamed_alone (Some (One renamed)) = Some renamed
renamed_alone (Some (Gathered moves)) = None

-- the objects that were put into a directory, in order
abbrev pub gathered_renames : Option Renames → List Renamed
gathered_renames None = []
gathered_renames (Some (One renamed)) = []
gathered_renames (Some (Gathered moves)) = moves.items

-- what was renamed in all: one object, or else those that were put into a directory
abbrev pub renames_of : Option Renamed → List Renamed → List Renamed
renames_of None gathered = gathered
renames_of (Some renamed) gathered = renamed ∷ []

-- what was renamed, in order
abbrev pub renames_in : Option Renames → List Renamed
renames_in renames = renames_of (renamed_alone renames) (gathered_renames renames)
