-- Type: the bytes of files, unchanged or by HEX or NUMBER.
use Rattle.std.specs.Prelude.{ℕ, Bool, true, false, ◌||◌, List, ◌++◌, codes, Result, Ok, Err, if◌then◌else◌}
use Rattle.std.specs.FinMap as map
use Rattle.ados_text.specs.Text.{Bytes, Text}
use Rattle.ados_text.specs.declared.codes.TheConstants.Result2.{BAD_NUMBER, TOO_MANY_ARGUMENTS}
use Rattle.ados_readargs.specs.declared.args.Arg.{Arg}
use Rattle.ados_readargs.specs.Args.{option_texts, option_text, has_switch}
use Rattle.ados_ram.specs.Place.{Place, key_of}
use Rattle.ados_ram.specs.Files.{entry_bytes}
use Rattle.ados_ram.specs.InUse.{is_output}
use Rattle.ados_ram.specs.FileOperations.{read_fault}
use Rattle.ados_find.specs.declared.codes.Codes.{Codes}
use Rattle.ados_find.specs.Codes.{fail_codes}
use Rattle.ados_find.specs.Shared.{SharedState}
use Rattle.ados_find.specs.Views.{View}
use Rattle.ados_find.specs.Effects.{Effect, codes_effect, if_found}
use Rattle.ados_find.specs.Done.{Done, fresh_work, refused_or, act_on_each, end_effect}
use Rattle.ados_find.specs.OutputFile.{output_to}
use Rattle.ados_objects.specs.Acts.{at_names}
use Rattle.ados_files.specs.Dumps.{hex_text, numbered_text}
use Rattle.ados_files.specs.Letters.{are_letters_of, has_letter}
use Rattle.ados_files.specs.Texts.{text_or_empty}
use Rattle.ados_files.specs.declared.options.TheConstants.{TYPE_FROM, TYPE_TO, TYPE_HEX, TYPE_NUMBER, TYPE_OPT}
use Rattle.ados_files.specs.declared.type_files.Printing.{Printing}
use Rattle.ados_files.specs.declared.type_files.Printing.TheVariants.{Plain, Hex, Numbered}

-- what is printed for the bytes of one file; lines are numbered when all files are read
abbrev pub file_text : Printing → Bytes → Bytes
file_text Plain bytes = bytes
file_text Hex bytes = hex_text bytes
file_text Numbered bytes = bytes

-- prints the bytes of the file at a place, unless it cannot be read
abbrev pub type_one : Printing → View → Done → Place → Done
type_one printing view done place =
    refused_or (read_fault (is_output view.busy (key_of place)) (map.get done.shared.files (key_of place))) done
    (record done { output = done.output ++ file_text printing (entry_bytes (map.get done.shared.files (key_of place))) })

-- what is printed for the bytes of all files: with NUMBER their lines are numbered through
abbrev pub all_text : Printing → Bytes → Bytes
all_text Plain bytes = bytes
all_text Hex bytes = bytes
all_text Numbered bytes = numbered_text bytes

-- the work, with the bytes of all files as they are printed
abbrev pub printed_work : Printing → Done → Done
printed_work printing done = record done { output = all_text printing done.output }

-- Type of texts in a manner of printing
abbrev pub type_printed : SharedState → View → List Text → Printing → Effect
type_printed shared view texts printing = end_effect (printed_work printing (act_on_each (at_names (type_one printing view) view) (fresh_work shared) texts))

-- a switch is given, or its letter in OPT, in either case: H for HEX, N for NUMBER
abbrev pub is_asked : List Arg → ℕ → Text → ℕ → Bool
is_asked args place letters letter = has_switch args place || has_letter letter letters

-- the manner of printing, by HEX and NUMBER, which may not be both given
abbrev pub printing_by : Bool → Bool → Result Printing Codes
printing_by false false = Ok Plain
printing_by true false = Ok Hex
printing_by false true = Ok Numbered
printing_by true true = Err (fail_codes TOO_MANY_ARGUMENTS)

-- the manner of printing, by switches and the letters of OPT, which can be only h and n
abbrev pub printing_of : List Arg → Text → Result Printing Codes
printing_of args letters =
    if are_letters_of (codes "hn") letters then printing_by (is_asked args TYPE_HEX letters 104) (is_asked args TYPE_NUMBER letters 110)
    else Err (fail_codes BAD_NUMBER)

-- Type without TO, given its arguments
abbrev pub type_by_options : SharedState → View → List Arg → Effect
type_by_options shared view args =
    if_found (codes_effect shared) (printing_of args (text_or_empty (option_text args TYPE_OPT))) (type_printed shared view (option_texts args TYPE_FROM))

-- Type, given its arguments
abbrev pub type_row : SharedState → View → List Arg → Effect
type_row shared view args = output_to view (option_text args TYPE_TO) (type_by_options shared view args)
