-- Rename of several objects: each goes into a directory under its own name.
use Rattle.std.specs.Prelude.{List, [], ◌∷◌, ◌++◌, cond, Option, Some, None}
use Rattle.std.specs.FinMap as map
use Rattle.ados_text.specs.declared.codes.TheConstants.Result2.{DIRECTORY_NOT_FOUND, WRONG_TYPE}
use Rattle.ados_ram.specs.Place.{Place, key_of}
use Rattle.ados_ram.specs.Entry.{is_directory}
use Rattle.ados_ram.specs.Files.{Files}
use Rattle.ados_ram.specs.FileOperations.{rename_fault}
use Rattle.ados_ram.specs.InUse.{InUse}
use Rattle.ados_ram.specs.declared.entries.Entry.{Entry}
use Rattle.ados_find.specs.declared.codes.Codes.{Codes}
use Rattle.ados_find.specs.declared.outcomes.Renamed.{Renamed}
use Rattle.ados_find.specs.Codes.{error_codes}
use Rattle.ados_find.specs.Done.{Done, end_effect, fresh_work, stop_with_codes}
use Rattle.ados_find.specs.Effects.{Effect, codes_effect, unless_refused}
use Rattle.ados_find.specs.Shared.{SharedState, after_rename, version}
use Rattle.ados_find.specs.Views.{View}
use Rattle.ados_files.specs.declared.gather.Gathering.{Gathering}

-- where an object goes in the directory `to`, by its name in its entry; nothing if there is no entry
abbrev pub move_into : Place → Place → Option Entry → List Renamed
move_into to place None = []
move_into to place (Some e) = record { from = place; to = to ++ e.name ∷ [] } ∷ []

-- where each of several objects goes in the directory `to`, by its name before the first of them is renamed
abbrev pub moves_into : Files → Place → List Place → List Renamed
moves_into files to [] = []
moves_into files to (place ∷ places) = move_into to place (map.get files (key_of place)) ++ moves_into files to places

-- what Rename of several objects did so far, and the objects that were renamed
pub record Gathered : Type 0 where
  pub done : Done
  pub moves : List Renamed

-- no object was renamed yet
abbrev pub nothing_gathered : SharedState → Gathered
nothing_gathered shared = record { done = fresh_work shared; moves = [] }

-- Rename of several objects stops with these codes
abbrev pub stop_gathering : Gathered → Codes → Gathered
stop_gathering gathered codes = record gathered { done = stop_with_codes gathered.done codes }

-- renames one object, unless it is refused
abbrev pub gather_one : InUse → Gathered → Renamed → Gathered
gather_one busy gathered move =
    unless_refused (stop_gathering gathered) (rename_fault busy gathered.done.shared.files (key_of move.from) (key_of move.to))
    (record {
      done = record gathered.done { shared = after_rename gathered.done.shared move.from move.to };
      moves = gathered.moves ++ move ∷ [];
    })

-- `next`, unless there are codes at which it stopped; then what was gathered so far
abbrev pub unless_gathering_stopped : Option Codes → Gathered → Gathered → Gathered
unless_gathering_stopped None gathered next = next
unless_gathering_stopped (Some codes) gathered next = gathered

-- renames objects one after the other, up to the first refusal; what was renamed stays so
abbrev pub gather_each : InUse → Gathered → List Renamed → Gathered
gather_each busy gathered [] = gathered
gather_each busy gathered (move ∷ moves) =
    unless_gathering_stopped gathered.done.stopped gathered (gather_each busy (gather_one busy gathered move) moves)

-- the effect of Rename of several objects: the current directories of all shells are to move along with what was renamed
abbrev pub gathered_effect : Gathered → Effect
gathered_effect gathered = record (end_effect gathered.done) { gathered = gathered.moves }

-- Rename of objects to these places
abbrev pub gather_moves : SharedState → View → List Renamed → Effect
gather_moves shared view moves = gathered_effect (gather_each view.busy (nothing_gathered shared) moves)

-- Rename of objects into TO, given the entry there: it has to be a directory
abbrev pub gather_there : SharedState → View → List Place → Place → Option Entry → Effect
gather_there shared view places to None = codes_effect shared (error_codes DIRECTORY_NOT_FOUND)
gather_there shared view places to (Some e) =
    cond (is_directory e) (gather_moves shared view (moves_into shared.files to places)) (codes_effect shared (error_codes WRONG_TYPE))

-- Rename of objects into the directory at the place of TO
abbrev pub gather_into : SharedState → View → List Place → Place → Effect
gather_into shared view places to = gather_there shared view places to (map.get shared.files (key_of to))

-- what was gathered so far, given what the code keeps of it and the shared state before it
abbrev pub gathered_of : SharedState → Gathering → Gathered
gathered_of shared gathering = record {
  done = record { shared = version shared gathering.work.shared; output = gathering.work.output.items; stopped = gathering.work.stopped };
  moves = gathering.moves.items;
}
