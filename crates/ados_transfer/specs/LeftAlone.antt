-- What of the folders of a share is left alone.
use Rattle.std.specs.Prelude.{Bool, true, false, nat_lt, if◌then◌else◌, length}
use Rattle.ados_text.specs.Text.{Bytes}
use Rattle.ados_transfer.specs.declared.left_alone.LeftAlone.{LeftAlone}
use Rattle.ados_transfer.specs.declared.left_alone.Obstacle.{Obstacle}
use Rattle.ados_transfer.specs.declared.left_alone.Obstacle.TheVariants.{BadName, LongName, Foreign, Temporary}

-- why a name that is none of the Shell's is left alone
abbrev pub obstacle_of : Bytes → Obstacle
obstacle_of name = if nat_lt 30 (length name) then LongName else BadName

-- a file or a folder is left out because of this; what is neither is never shared, nor is a temporary file
abbrev pub leaves_out : Obstacle → Bool
leaves_out Foreign = false
leaves_out Temporary = false
leaves_out obstacle = true

abbrev pub is_left_out : LeftAlone → Bool
is_left_out one = leaves_out one.obstacle
