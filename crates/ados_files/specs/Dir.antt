-- Dir: what is in a directory, with its directories first, with ALL each with what is in it.
use Rattle.std.specs.Prelude.{ℕ, zero, suc, Bool, cond, not, ◌||◌, List, [], ◌∷◌, ◌++◌, codes, Option, Some, None, Result, Ok, Err, if◌then◌else◌}
use Rattle.std.specs.List.{flat_map}
use Rattle.std.specs.FinMap as map
use Rattle.ados_text.specs.Text.{Bytes, Text}
use Rattle.ados_text.specs.declared.codes.TheConstants.Result2.{BAD_NUMBER, NOT_IMPLEMENTED}
use Rattle.ados_readargs.specs.declared.args.Arg.{Arg}
use Rattle.ados_readargs.specs.Args.{option_text, has_switch}
use Rattle.ados_ram.specs.Place.{Place, key_of}
use Rattle.ados_ram.specs.Entry.{is_directory}
use Rattle.ados_ram.specs.Files.{Files}
use Rattle.ados_ram.specs.FileOperations.{list_fault}
use Rattle.ados_ram.specs.declared.entries.Entry.{Entry}
use Rattle.ados_find.specs.declared.codes.Codes.{Codes}
use Rattle.ados_find.specs.Codes.{error_codes, fail_codes}
use Rattle.ados_find.specs.Shared.{SharedState}
use Rattle.ados_find.specs.Views.{View}
use Rattle.ados_find.specs.Effects.{Effect, codes_effect, if_found, output_effect, unless_refused}
use Rattle.ados_find.specs.Paths.{bases_of}
use Rattle.ados_objects.specs.Bases.{all_children, entry_at}
use Rattle.ados_files.specs.Below.{object_count, objects_in}
use Rattle.ados_objects.specs.Lines.{keeps, entry_lines}
use Rattle.ados_files.specs.Letters.{are_letters_of, has_letter}
use Rattle.ados_files.specs.Texts.{text_or_empty}
use Rattle.ados_files.specs.declared.options.TheConstants.{DIR_DIR, DIR_DIRS, DIR_FILES, DIR_ALL, DIR_OPT, DIR_INTER}
use Rattle.ados_files.specs.declared.dir_lines.Choice.{Choice}

-- the line of a directory among directories, if `shown`, after the blanks of its level
abbrev pub directory_line : Bool → Bytes → Entry → Bytes
directory_line shown blanks e = if shown then blanks ++ (codes "     " ++ (e.name ++ codes " (dir)\n")) else []

-- the line of a directory (the entry) and behind it `inside`, what is in it; nothing if the entry is none or a file
abbrev pub directory_text : Bool → Bytes → Option Entry → Bytes → Bytes
directory_text shown blanks None inside = []
directory_text shown blanks (Some e) inside = cond (is_directory e) (directory_line shown blanks e ++ inside) []

-- the line of a file (the entry) among files, if `shown`, after the blanks of its level; nothing if the entry is none or a directory
abbrev pub file_text : Bool → Bytes → Option Entry → Bytes
file_text shown blanks None = []
file_text shown blanks (Some e) = if is_directory e || not shown then [] else blanks ++ (codes "  " ++ (e.name ++ 10 ∷ []))

-- the text of a directory at a place and of the objects in it, of which `inside` gives the text; nothing for a file
unfoldable pub branch_text : (List Place → Bytes) → Bool → Files → Bytes → Place → Bytes
branch_text inside shown files blanks place = directory_text shown blanks (map.get files (key_of place)) (inside (objects_in files place))

-- the objects of a level, the directories first, each with the levels below it (so many in all), which have four blanks more in front. DIRS
-- shows directories alone, FILES files alone; both or neither show both.
abbrev pub level_text : ℕ → Choice → Files → Bytes → List Place → Bytes
level_text zero choice files blanks places = []
level_text (suc levels) choice files blanks places =
    flat_map (branch_text (level_text levels choice files (blanks ++ codes "    ")) (keeps choice.dirs choice.files) files blanks) places
    ++ entry_lines (file_text (keeps choice.files choice.dirs) blanks) files places

-- how many levels are shown: one, or with ALL (`all`) each
abbrev pub levels_shown : Bool → Files → ℕ
levels_shown all files = if all then object_count files else 1

-- what Dir shows of the objects at these places, by DIRS, FILES and ALL
abbrev pub dir_text : Choice → Files → List Place → Bytes
dir_text choice files places = level_text (levels_shown choice.all files) choice files [] places

-- Dir of the directories for which a path stands
abbrev pub dir_effect : SharedState → Choice → List Place → Effect
dir_effect shared choice bases =
    unless_refused (codes_effect shared) (list_fault (entry_at shared.files bases))
    (output_effect shared (dir_text choice shared.files (all_children shared.files bases)))

-- the directories for which DIR stands, or without it the current directory
abbrev pub directories_given : SharedState → View → Option Text → Result (List Place) Codes
directories_given shared view None = Ok (view.parts.directory ∷ [])
directories_given shared view (Some text) = bases_of shared view.parts.directory text

-- Dir of a path (none: the current directory), given what is shown
abbrev pub dir_by : SharedState → View → Option Text → Choice → Effect
dir_by shared view text choice = if_found (codes_effect shared) (directories_given shared view text) (dir_effect shared choice)

-- what is shown: OPT's letters a, d and f, in either case, are the switches ALL, DIRS and FILES
abbrev pub choice_by : List Arg → Text → Choice
choice_by args letters =
    record {
      dirs = has_switch args DIR_DIRS || has_letter 100 letters;
      files = has_switch args DIR_FILES || has_letter 102 letters;
      all = has_switch args DIR_ALL || has_letter 97 letters;
    }

-- what is shown, by the switches and the letters of OPT; INTER, or i for it, is not there
abbrev pub choice_of : List Arg → Text → Result Choice Codes
choice_of args letters =
    if has_switch args DIR_INTER || has_letter 105 letters then Err (error_codes NOT_IMPLEMENTED)
    else (if are_letters_of (codes "adf") letters then Ok (choice_by args letters) else Err (fail_codes BAD_NUMBER))

-- Dir, given its arguments
abbrev pub dir_row : SharedState → View → List Arg → Effect
dir_row shared view args =
    if_found (codes_effect shared) (choice_of args (text_or_empty (option_text args DIR_OPT))) (dir_by shared view (option_text args DIR_DIR))
