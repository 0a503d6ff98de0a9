-- Which words of a line are paths, by the command whose words they are.
use Rattle.std.specs.Prelude.{◌==◌, ◌||◌, Bool, List, [], ◌∷◌, codes, map, if◌then◌else◌}
use Rattle.std.specs.List.{list_any}
use Rattle.ados_text.specs.Text.{Bytes, is_same, to_ascii}
use Rattle.ados_items.specs.Items.{bytes_between}
use Rattle.ados_resident.specs.declared.commands.Builtin.TheVariants.{Env, Files, Flow}
use Rattle.ados_resident.specs.declared.commands.EnvCommand.TheVariants.{Assign, Cd, Path}
use Rattle.ados_resident.specs.declared.commands.FilesCommand.{FilesCommand}
use Rattle.ados_resident.specs.declared.commands.FilesCommand.TheVariants.{Filenote, List as ListCommand, Search}
use Rattle.ados_resident.specs.declared.commands.FlowCommand.TheVariants.{Execute}
use Rattle.ados_resident.specs.declared.dialects.Dialect.{Dialect}
use Rattle.ados_check.specs.CommandWords.{name_in}
use Rattle.ados_check.specs.Commands.{meaning_of}
use Rattle.ados_check.specs.declared.arguments.Word.{Word}
use Rattle.ados_check.specs.declared.commands.Meaning.{Meaning}
use Rattle.ados_check.specs.declared.commands.Meaning.TheVariants as meaning

-- what a word of a line stands for as a command, in a dialect
abbrev pub meaning_at : Dialect → Bytes → Word → Meaning
meaning_at dialect line word = meaning_of dialect (map to_ascii (name_in (bytes_between line word.from word.to)))

-- a word of a line is this one, ignoring case
abbrev pub is_word : Bytes → Bytes → Word → Bool
is_word line name word = is_same (bytes_between line word.from word.to) name

-- the words of a line from that of its command on, which may stand after Run
abbrev pub past_run : Bytes → List Word → List Word
past_run line [] = []
past_run line (word ∷ words) = if is_word line (codes "Run") word then words else word ∷ words

-- the first of some words, unless it may be an option with its value
abbrev pub first_path : List Word → List Word
first_path [] = []
first_path (word ∷ words) = if word.name_to == word.from || word.name_to == word.to then word ∷ [] else []

-- which of the words after a command of files are paths: all of them, but for a command that also takes other texts only the first
abbrev pub paths_of_files : List Word → FilesCommand → List Word
paths_of_files words Filenote = first_path words
paths_of_files words ListCommand = first_path words
paths_of_files words Search = first_path words
paths_of_files words command = words

-- one of the words after Assign is an option by which its target is looked up later
abbrev pub binds_later : Bytes → List Word → Bool
binds_later line words = list_any (λ word. is_word line (codes "DEFER") word || is_word line (codes "PATH") word) words

-- which of the words after Assign are paths: all, or none if its target is looked up later
abbrev pub paths_of_assign : Bytes → List Word → List Word
paths_of_assign line words = if binds_later line words then [] else words

-- which of the words after a command are paths, by what the command's word stands for
abbrev pub path_words : Bytes → List Word → Meaning → List Word
path_words line words (meaning.Builtin (Files command)) = paths_of_files words command
path_words line words (meaning.Builtin (Env Assign)) = paths_of_assign line words
path_words line words (meaning.Builtin (Env Cd)) = words
path_words line words (meaning.Builtin (Env Path)) = words
path_words line words (meaning.Builtin (Flow Execute)) = first_path words
path_words line words _ = []
