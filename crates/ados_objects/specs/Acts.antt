-- What is done with the objects that arguments name.
use Rattle.std.specs.Prelude.{Bool, ◌++◌, Option}
use Rattle.ados_ram.specs.Place.{Place}
use Rattle.ados_text.specs.Text.{Bytes, Text}
use Rattle.ados_text.specs.declared.codes.Result2.{Result2}
use Rattle.ados_ram.specs.Files.{Files}
use Rattle.ados_ram.specs.Written.{full_path}
use Rattle.ados_find.specs.Views.{View}
use Rattle.ados_find.specs.Shared.{with_files}
use Rattle.ados_find.specs.Done.{Done, stop_with_codes, refused_or, act_on_each}
use Rattle.ados_find.specs.Effects.{if_found}
use Rattle.ados_find.specs.Paths.{place_of}
use Rattle.ados_objects.specs.Names.{FoundPlaces, named_places}
use Rattle.ados_objects.specs.Lines.{say}

-- the command goes on with these files in place of its own, or stops with the codes of `fault` if there is one
abbrev pub in_files : Option Result2 → Files → Done → Done
in_files fault files done = refused_or fault done (record done { shared = with_files done.shared files })

-- the command goes on with these files and reports the path that `place` had before, then `words` (nothing if `quiet`), or stops with the
-- codes of `fault` if there is one
abbrev pub in_files_saying : Option Result2 → Files → Bool → Place → Bytes → Done → Done
in_files_saying fault files quiet place words done =
    refused_or fault done
    (record done { shared = with_files done.shared files; output = say quiet done.output (full_path done.shared.files place ++ words) })

-- does `act` on the place to which a path leads in the files as they are by then, or stops if the path has a fault
abbrev pub at_path : (Done → Place → Done) → View → Done → Text → Done
at_path act view done text = if_found (stop_with_codes done) (place_of done.shared view.parts.directory text) (act done)

-- does `act` on each of the objects found, in order
abbrev pub at_places : (Done → Place → Done) → Done → FoundPlaces → Done
at_places act done found = act_on_each act done found.places

-- does `act` on each object that an argument names in the files as they are by then, or stops if it names none or has a fault
abbrev pub at_names : (Done → Place → Done) → View → Done → Text → Done
at_names act view done text = if_found (stop_with_codes done) (named_places done.shared view.parts.directory text) (at_places act done)
