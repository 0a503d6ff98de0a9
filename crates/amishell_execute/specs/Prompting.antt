-- What is visible of the reader that gives the prepared lines.
use Rattle.std.specs.Prelude.{◌≡◌, ℕ, Bool, true, List}
use Rattle.std.specs.List.{list_all}
use Rattle.ados_machine.specs.World.{WorldState}
use Rattle.ados_transfer.specs.declared.planned.Planned.{Planned}
use Rattle.ados_transfer.specs.Planned.{is_as_planned}

-- what is to be brought in; how many lines bring it in, and how many lines were given; whether the files were checked, and are
-- as planned; how many reads failed
pub record PrompterView : Type 0 where
  pub planned : List Planned
  pub bringing : ℕ
  pub given : ℕ
  pub is_ready : Bool
  pub faults : ℕ

-- each file and directory is in the world as planned
abbrev pub IsBrought : WorldState → List Planned → Type 0
IsBrought w planned = list_all (is_as_planned w.shared.files) planned ≡ true
