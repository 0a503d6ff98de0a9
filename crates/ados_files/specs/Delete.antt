-- Delete: objects are deleted, with ALL after all that is below them, with FORCE whatever their bit d.
use Rattle.std.specs.Prelude.{Bool, true, false, List, [], ◌∷◌, ◌++◌, codes}
use Rattle.std.specs.FinMap as map
use Rattle.ados_text.specs.Text.{Bytes}
use Rattle.ados_readargs.specs.declared.args.Arg.{Arg}
use Rattle.ados_readargs.specs.Args.{option_texts, has_switch}
use Rattle.ados_ram.specs.Place.{Place, key_of}
use Rattle.ados_ram.specs.Files.{Files}
use Rattle.ados_ram.specs.FileOperations.{delete_fault}
use Rattle.ados_ram.specs.Contents.{contents}
use Rattle.ados_ram.specs.Written.{full_path}
use Rattle.ados_find.specs.Shared.{SharedState, with_files}
use Rattle.ados_find.specs.Views.{View}
use Rattle.ados_find.specs.Effects.{Effect}
use Rattle.ados_find.specs.Done.{Done, fresh_work, refused_or, act_on_each, end_effect}
use Rattle.ados_files.specs.declared.delete.DeleteManner.{DeleteManner}
use Rattle.ados_files.specs.declared.options.TheConstants.{DELETE_FILE, DELETE_ALL, DELETE_QUIET, DELETE_FORCE}
use Rattle.ados_objects.specs.Lines.{say}
use Rattle.ados_objects.specs.Acts.{at_names}

-- what Delete reports of an object: its path and `  Deleted`
abbrev pub deleted_line : Files → Place → Bytes
deleted_line files place = full_path files place ++ codes "  Deleted\n"

-- how objects are deleted: with QUIET without a report, with FORCE whatever their bit d
abbrev pub delete_manner : List Arg → DeleteManner
delete_manner args = record { quiet = has_switch args DELETE_QUIET; force = has_switch args DELETE_FORCE }

-- deletes one object, and reports its path as it was
abbrev pub delete_one : View → DeleteManner → Done → Place → Done
delete_one view manner done place =
    refused_or (delete_fault view.busy manner.force done.shared.files (key_of place)) done
    (record done {
      shared = with_files done.shared (map.remove done.shared.files (key_of place));
      output = say manner.quiet done.output (deleted_line done.shared.files place);
    })

-- the places that are deleted with a place: with ALL (`true`) those below it first
abbrev pub targets : Bool → Files → Place → List Place
targets true files place = contents (key_of place) (map.entries files) ++ place ∷ []
targets false files place = place ∷ []

-- deletes the object at a place, with ALL (`all`) after all that is below it
abbrev pub delete_place : View → Bool → DeleteManner → Done → Place → Done
delete_place view all manner done place = act_on_each (delete_one view manner) done (targets all done.shared.files place)

-- Delete, given its arguments
abbrev pub delete_row : SharedState → View → List Arg → Effect
delete_row shared view args =
    end_effect (act_on_each (at_names (delete_place view (has_switch args DELETE_ALL) (delete_manner args)) view) (fresh_work shared) (option_texts args DELETE_FILE))
