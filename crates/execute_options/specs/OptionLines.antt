-- Files of options: each line is an option, as it would be typed.
use Rattle.std.specs.Prelude.{◌≡◌, ℕ, List, ◌∷◌, ◌++◌, ◌==◌, ◌||◌, Bool, not, Option, Some, None, codes, length, if◌then◌else◌}
use Rattle.std.specs.List.{enumerate_from, filter_map, find, list_any, slice_split, starts_with}
use Rattle.std.specs.Option.{option_map, option_or}
use Rattle.std.specs.Str.{is_utf8}
use Rattle.std.specs.Str.Lines.{strip_carriage_return}
use Rattle.ados_text.specs.Text.{Bytes}
use Rattle.ados_items.specs.Parts.{first_word, rest_of, trimmed_text}
use Rattle.ados_session.specs.declared.faults.FileFault.{FileFault}
use Rattle.ados_session.specs.declared.faults.FileFault.TheVariants.{BadLine, NoMemory}
use Rattle.ados_transfer.specs.Paths.{path_in}

-- an option, as one word of a command line, and the number of its line
pub record NumberedOption : Type 0 where
  pub number : ℕ
  pub word : Bytes

-- the words are none, or a comment
abbrev pub is_comment : Bytes → Bool
is_comment words = length words == 0 || starts_with ◌==◌ words (codes "#")

-- an option and its value in one word: what follows the name after blanks is its value, as what follows it after `=`
abbrev pub one_word : Bytes → Bytes
one_word words = if length (rest_of words) == 0 || list_any (λ byte. byte == 61) (first_word words) then words else first_word words ++ 61 ∷ rest_of words

-- the words of a line, without the blanks around them and a carriage return
abbrev pub words_of_line : Bytes → Bytes
words_of_line line = trimmed_text (strip_carriage_return line)

-- the option that words say
abbrev pub option_of : Bytes → Option Bytes
option_of words = if is_comment words then None else Some (one_word words)

-- the option that the line of a number says
abbrev pub numbered_option : ℕ × Bytes → Option NumberedOption
numbered_option line = option_map (λ word. record { number = line.0; word = word }) (option_of (words_of_line line.1))

-- the options of a file's bytes: those of the lines that say one, each with the number of its line, from 1
abbrev pub options_of : Bytes → List NumberedOption
options_of bytes = filter_map numbered_option (enumerate_from 1 (slice_split (λ byte. byte == 10) bytes))

-- the line of the first option that is not UTF-8
abbrev pub first_bad_line : List NumberedOption → Option ℕ
first_bad_line options = option_map (λ option. option.number) (find (λ option. not (is_utf8 option.word)) options)

-- A fault names the line of the first option that is not UTF-8. Out of memory names none.
abbrev pub IsOptionFault : List NumberedOption → FileFault → Type 0
IsOptionFault options (BadLine number) = first_bad_line options ≡ Some number
IsOptionFault options NoMemory = Unit {0}

-- a path that begins at the root
abbrev pub absolute : Option Bytes → Option Bytes
absolute None = None
absolute (Some path) = if starts_with ◌==◌ path (codes "/") then Some path else None

-- the folder of such files, by XDG_CONFIG_HOME and HOME, where one of them is absolute
abbrev pub config_folder : Option Bytes → Option Bytes → Option Bytes
config_folder config_home home = option_or (absolute config_home) (option_map (λ folder. path_in folder (codes ".config")) (absolute home))

-- the file of the person who runs the program
abbrev pub default_path : Option Bytes → Option Bytes → Option Bytes
default_path config_home home = option_map (λ folder. path_in folder (codes "amishell/options")) (config_folder config_home home)
