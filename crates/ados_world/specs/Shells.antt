-- The shells of a world, by their numbers.
use Rattle.std.specs.Prelude.{◌≤◌, ◌-◌, ℕ, List, [], ◌∷◌, Bool, false, Option, Some, None, map, option_map, slice_set}
use Rattle.ados_text.specs.Text.{Text, is_same}
use Rattle.ados_ram.specs.Place.{Place}
use Rattle.ados_find.specs.declared.outcomes.Renamed.{Renamed}
use Rattle.ados_machine.specs.Shells.{ShellState, phase_entry}
use Rattle.ados_machine.specs.Carrying.{carried_directory, carried_place, carried_shell, in_directory}
use Rattle.ados_machine.specs.World.{option_flatten, at_number}
use Rattle.ados_shell.specs.declared.drafts.ShellDraft.{ShellDraft}
use Rattle.ados_shell.specs.Drafts.{drafted_shell}

-- a shell may have this number: 1 to 20
pub record IsShellNumber (number : ℕ) : Type 0 where
  pub first : 1 ≤ number
  pub last : number ≤ 20

-- `others` with the shell of this number as `change` makes it of the one in `shells`
abbrev pub with_shell : ℕ → (ShellState → ShellState) → List (Option ShellState) → List (Option ShellState) → List (Option ShellState)
with_shell number change shells others = slice_set others (number - 1) (option_map change (option_flatten (at_number shells number)))

-- the shells after what a turn makes of the one of this number, by its draft
abbrev pub updated_shells : ℕ → ShellDraft → List (Option ShellState) → List (Option ShellState)
updated_shells number draft shells = with_shell number (drafted_shell draft) shells shells

-- the shells after what a turn makes of the one of this number, by its draft, where these objects were moved: the current directory of each
-- follows them
abbrev pub updated_carried_shells : ℕ → List Renamed → ShellDraft → List (Option ShellState) → List (Option ShellState)
updated_carried_shells number moved draft shells =
    with_shell number (λ shell. carried_shell moved (drafted_shell draft shell)) shells (map (carried_place moved) shells)

-- the shells after what a turn makes of the one of this number, by its draft; the current directory of each follows the objects that were
-- moved, if any were
abbrev pub shells_after_draft : ℕ → ShellDraft → List Renamed → List (Option ShellState) → List (Option ShellState)
shells_after_draft number draft [] shells = updated_shells number draft shells
shells_after_draft number draft (moved ∷ more) shells = updated_carried_shells number (moved ∷ more) draft shells

-- a resident entry is named, and has this name
abbrev pub is_entry : Option Text → Text → Bool
is_entry None name = false
is_entry (Some entry) name = is_same entry name

-- a shell, if it is there, runs from the resident entry of this name
abbrev pub runs_from : Option ShellState → Text → Bool
runs_from None name = false
runs_from (Some shell) name = is_entry (phase_entry shell.phase) name

-- the current directories of all shells, after they followed these objects, which have moved
abbrev pub carried_directories : List Renamed → List (Option ShellState) → List (Option Place)
carried_directories moved shells = map (option_map (carried_directory moved)) shells

-- a shell, if it is there, in the directory that is given for it, if one is
abbrev pub placed_shell : Option Place → Option ShellState → Option ShellState
placed_shell None shell = shell
placed_shell (Some directory) shell = option_map (in_directory directory) shell

-- the shells, each in the directory that is given for its number, if one is
abbrev pub placed_shells : List (Option Place) → List (Option ShellState) → List (Option ShellState)
placed_shells [] shells = shells
placed_shells (directory ∷ directories) [] = []
placed_shells (directory ∷ directories) (shell ∷ shells) = placed_shell directory shell ∷ placed_shells directories shells
