-- What comes in from the folder of a share.
use Rattle.std.specs.Prelude.{ℕ, length}
use Rattle.ados_share.specs.declared.arrivals.Coming.{Coming}
use Rattle.ados_share.specs.declared.arrivals.Coming.TheVariants.{Nothing, Directory, File, StandIn}

-- how many bytes of the Shell's files it takes
abbrev pub size_of_coming : Coming → ℕ
size_of_coming Nothing = 0
size_of_coming Directory = 0
size_of_coming (File bytes) = length bytes
size_of_coming (StandIn comment) = 0
