-- MakeDir: directories are created, by their paths.
use Rattle.std.specs.Prelude.{List, [], ◌∷◌}
use Rattle.ados_text.specs.Text.{Text}
use Rattle.ados_text.specs.declared.codes.TheConstants.Result2.{ARGUMENT_MISSING}
use Rattle.ados_readargs.specs.declared.args.Arg.{Arg}
use Rattle.ados_readargs.specs.Args.{option_texts}
use Rattle.ados_ram.specs.Place.{Place, key_of, last_name}
use Rattle.ados_ram.specs.FileOperations.{make_dir_of, make_dir_fault}
use Rattle.ados_find.specs.Codes.{fail_codes}
use Rattle.ados_find.specs.Shared.{SharedState, limits_of, with_files}
use Rattle.ados_find.specs.Views.{View}
use Rattle.ados_find.specs.Effects.{Effect, codes_effect}
use Rattle.ados_find.specs.Done.{Done, fresh_work, refused_or, act_on_each, end_effect}
use Rattle.ados_objects.specs.Acts.{at_path}
use Rattle.ados_files.specs.declared.options.TheConstants.{MAKE_DIR_NAME}

-- creates the directory at a place, unless that is refused
abbrev pub make_one : Done → Place → Done
make_one done place =
    refused_or (make_dir_fault (limits_of done.shared.dialect) done.shared.files (key_of place) (last_name place)) done
    (record done { shared = with_files done.shared (make_dir_of done.shared.files (key_of place) (last_name place)) })

-- MakeDir of the texts of NAME; without a name an argument is missing
abbrev pub make_all : SharedState → View → List Text → Effect
make_all shared view [] = codes_effect shared (fail_codes ARGUMENT_MISSING)
make_all shared view (text ∷ texts) = end_effect (act_on_each (at_path make_one view) (fresh_work shared) (text ∷ texts))

-- MakeDir, given its arguments
abbrev pub make_dir_row : SharedState → View → List Arg → Effect
make_dir_row shared view args = make_all shared view (option_texts args MAKE_DIR_NAME)
