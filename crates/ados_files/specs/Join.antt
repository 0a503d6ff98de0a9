-- Join: files are written, one after the other, to a file.
use Rattle.std.specs.Prelude.{List, []}
use Rattle.ados_text.specs.Text.{Bytes, Text}
use Rattle.ados_readargs.specs.declared.args.Arg.{Arg}
use Rattle.ados_readargs.specs.Args.{option_texts, option_text}
use Rattle.ados_ram.specs.Place.{Place, key_of, last_name}
use Rattle.ados_ram.specs.InUse.{is_output}
use Rattle.ados_ram.specs.FileOperations.{write_of, write_fault}
use Rattle.ados_find.specs.Shared.{SharedState, limits_of, with_files}
use Rattle.ados_find.specs.Views.{View}
use Rattle.ados_find.specs.Effects.{Effect, codes_effect, if_given}
use Rattle.ados_find.specs.Done.{Done, fresh_work, refused_or, unless_stopped, act_on_each, end_effect}
use Rattle.ados_objects.specs.Acts.{at_path}
use Rattle.ados_files.specs.TypeFiles.{type_one}
use Rattle.ados_files.specs.declared.options.TheConstants.{JOIN_FILE, JOIN_TO}
use Rattle.ados_files.specs.declared.type_files.Printing.TheVariants.{Plain}

-- writes these bytes to the file at a place, unless it is refused
abbrev pub write_one : View → Bytes → Done → Place → Done
write_one view bytes done place =
    refused_or (write_fault (limits_of done.shared.dialect) (is_output view.busy (key_of place)) done.shared.files (key_of place) (last_name place) bytes) done
    (record done { shared = with_files done.shared (write_of done.shared.files (key_of place) (last_name place) bytes) })

-- the work so far without what was printed
abbrev pub without_output : Done → Done
without_output done = record done { output = [] }

-- writes all that was read (the output so far) to the file that `to` names, if nothing was refused
abbrev pub write_read : View → Text → Done → Done
write_read view to read = unless_stopped read.stopped (without_output read) (at_path (write_one view read.output) view (without_output read) to)

-- Join: reads all files that the texts name, then writes them to `to`
abbrev pub join_to_target : View → List Text → Done → Text → Done
join_to_target view texts done to = write_read view to (act_on_each (at_path (type_one Plain view) view) done texts)

-- Join of the texts of FILE to TO; the template ensures that TO is not missing
abbrev pub join_by_texts : SharedState → View → List Text → Text → Effect
join_by_texts shared view texts to = end_effect (join_to_target view texts (fresh_work shared) to)

-- Join, given its arguments
abbrev pub join_row : SharedState → View → List Arg → Effect
join_row shared view args = if_given (codes_effect shared) (option_text args JOIN_TO) (join_by_texts shared view (option_texts args JOIN_FILE))
