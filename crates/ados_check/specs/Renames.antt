-- Which words are other commands in a script than the Shell's own.
use Rattle.std.specs.Prelude.{◌==◌, ◌&&◌, ◌||◌, Bool, true, false, not, List, [], ◌∷◌, codes, is_some, map}
use Rattle.std.specs.List.{list_any}
use Rattle.ados_text.specs.Text.{Bytes, Text, is_same, to_ascii}
use Rattle.ados_items.specs.Items.{bytes_between}
use Rattle.ados_items.specs.Parts.{first_word, trimmed_text}
use Rattle.ados_line.specs.Comment.{without_comment}
use Rattle.ados_resident.specs.declared.commands.Builtin.TheVariants.{Flow}
use Rattle.ados_resident.specs.declared.commands.FlowCommand.TheVariants.{Execute}
use Rattle.ados_resident.specs.declared.dialects.Dialect.{Dialect}
use Rattle.ados_vars.specs.Vars.{Pairs, value_in}
use Rattle.ados_check.specs.Aliases.{may_be_alias}
use Rattle.ados_check.specs.Arguments.{argument_words}
use Rattle.ados_check.specs.CommandWords.{name_in}
use Rattle.ados_check.specs.Commands.{meaning_of}
use Rattle.ados_check.specs.Signs.{is_dotted}
use Rattle.ados_check.specs.declared.arguments.Word.{Word}
use Rattle.ados_check.specs.declared.commands.Meaning.{Meaning}
use Rattle.ados_check.specs.declared.commands.Meaning.TheVariants as meaning

-- a word is an alias of the shell, or lines make it one, or may
abbrev pub is_renamed : Pairs → List Text → Text → Bool
is_renamed aliases lines word = is_some (value_in aliases word) || may_be_alias lines word

-- the command of a line is Resident
abbrev pub is_resident : Text → Bool
is_resident line = is_same (first_word (trimmed_text line)) (codes "Resident")

-- Echo or Ask may be another command in a script of these lines
abbrev pub renames_printers : Pairs → List Text → Bool
renames_printers aliases lines = is_renamed aliases lines (codes "Echo") || is_renamed aliases lines (codes "Ask") || list_any is_resident lines

-- a command may have another script run, as far as is known
abbrev pub is_caller : Meaning → Bool
is_caller (meaning.Builtin (Flow Execute)) = true
is_caller (meaning.Builtin command) = false
is_caller meaning.Run = true
is_caller meaning.Other = true

-- the command of a line, whose words are given, may have another script run; a directive has none
abbrev pub calls_by : Dialect → Bytes → List Word → Bool
calls_by dialect line [] = false
calls_by dialect line (word ∷ words) = not (is_dotted line) && is_caller (meaning_of dialect (map to_ascii (name_in (bytes_between line word.from word.to))))

-- the command of a line without its comment may have another script run, or one between back-ticks; a directive has none
abbrev pub calls : Dialect → Bytes → Bool
calls dialect line = list_any (λ c. c == 96) line || calls_by dialect line (argument_words line)

-- one of these lines may have another script run, its comment left out
abbrev pub may_call : Dialect → List Text → Bool
may_call dialect lines = list_any (λ line. calls dialect (without_comment line)) lines
