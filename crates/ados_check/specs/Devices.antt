-- The devices that a line of a script mentions, and those that it assigns or asks for.
use Rattle.std.specs.Prelude.{ℕ, ◌==◌, ◌&&◌, ◌||◌, Bool, false, List, [], ◌∷◌, ◌++◌, Option, Some, None, drop, length, map, nat_le, nat_lt, take, if◌then◌else◌}
use Rattle.std.specs.List.{flat_map, list_any, prefix_len}
use Rattle.std.specs.Option.{option_map, option_or}
use Rattle.ados_text.specs.Text.{Bytes, Text, is_same, to_ascii}
use Rattle.ados_items.specs.Items.{bytes_between}
use Rattle.ados_resident.specs.declared.commands.Builtin.TheVariants.{Env, Flow}
use Rattle.ados_resident.specs.declared.commands.EnvCommand.TheVariants.{Assign}
use Rattle.ados_resident.specs.declared.commands.FlowCommand.TheVariants.{If}
use Rattle.ados_resident.specs.declared.dialects.Dialect.{Dialect}
use Rattle.ados_check.specs.Arguments.{argument_words, redirected_words}
use Rattle.ados_check.specs.CommandWords.{unquoted}
use Rattle.ados_check.specs.DevicePaths.{meaning_at, past_run, path_words}
use Rattle.ados_check.specs.LeftOut.{command_text}
use Rattle.ados_check.specs.declared.arguments.Word.{Word}
use Rattle.ados_check.specs.declared.commands.Meaning.{Meaning}
use Rattle.ados_check.specs.declared.commands.Meaning.TheVariants as meaning

-- a byte may stand in the plain name of a device: a letter, a digit, `_`, `-`, `.` or a blank
abbrev pub is_device_byte : ℕ → Bool
is_device_byte c =
    (nat_le 65 c && nat_le c 90) || (nat_le 97 c && nat_le c 122) || (nat_le 48 c && nat_le c 57) || c == 95 || c == 45 || c == 46 || c == 32

-- the first byte of a text is a colon
abbrev pub begins_with_colon : Bytes → Bool
begins_with_colon [] = false
begins_with_colon (c ∷ cs) = c == 58

-- the first so many bytes of a path, if a colon follows them
abbrev pub device_of : Bytes → ℕ → Option Bytes
device_of path count = if begins_with_colon (drop count path) then Some (take count path) else None

-- the device with which a path begins, if it is a plain name; empty if the path begins with its colon; there may be quotes around the path
abbrev pub device_in : Bytes → Option Bytes
device_in word = device_of (unquoted word) (prefix_len is_device_byte (unquoted word))

-- the path that a word may be, given what follows its first piece: what is after the `=` there if the piece may be the name of an option
-- (`named`), and otherwise the whole word
abbrev pub path_by : Bytes → Bool → Bytes → Bytes
path_by whole named [] = whole
path_by whole named (c ∷ cs) = if c == 61 && named then cs else whole

-- the path that a word may be: what follows `=` and the name of an option, or all of it
abbrev pub path_in : Bytes → Word → Bytes
path_in line word = path_by (bytes_between line word.from word.to) (nat_lt word.from word.name_to) (bytes_between line word.name_to word.to)

-- the device with which a word of a line begins, as the path that the word may be
abbrev pub device_at : Bytes → Word → Option Text
device_at line word = option_map (map to_ascii) (device_in (path_in line word))

-- a device alone in a list; without a device (none) the list is empty
abbrev pub one_or_none : Option Text → List Text
one_or_none None = []
one_or_none (Some device) = device ∷ []

-- the devices with which words of a line begin, as the paths that they may be
abbrev pub devices_in : Bytes → List Word → List Text
devices_in line words = flat_map (λ word. one_or_none (device_at line word)) words

-- the first of the devices with which words of a line begin, as the paths that they may be
abbrev pub first_device : Bytes → List Word → Option Text
first_device line [] = None
first_device line (word ∷ words) = option_or (device_at line word) (first_device line words)

-- the devices of the command of a line and of its paths, given the words from that of the command on
abbrev pub used_by : Dialect → Bytes → List Word → List Text
used_by dialect line [] = []
used_by dialect line (word ∷ words) = one_or_none (device_at line word) ++ devices_in line (path_words line words (meaning_at dialect line word))

-- the devices that a line mentions: in the names after its redirections, in its command, and in the command's paths; none if it has a
-- back-tick
abbrev pub mentioned_in : Dialect → Bytes → List Text
mentioned_in dialect line =
    if list_any (λ c. c == 96) line then [] else devices_in line (redirected_words line) ++ used_by dialect line (past_run line (argument_words line))

-- the devices that a command assigns or asks for, by the words after it: Assign assigns the first device of its words, and If asks for all
abbrev pub assigned_by : Bytes → List Word → Meaning → List Text
assigned_by line words (meaning.Builtin (Env Assign)) = one_or_none (first_device line words)
assigned_by line words (meaning.Builtin (Flow If)) = devices_in line words
assigned_by line words _ = []

-- the devices that a line assigns or asks for, given its words from that of its command on
abbrev pub assigned_from : Dialect → Bytes → List Word → List Text
assigned_from dialect line [] = []
assigned_from dialect line (word ∷ words) = assigned_by line words (meaning_at dialect line word)

-- the devices that a line assigns or asks for
abbrev pub assigned_in : Dialect → Bytes → List Text
assigned_in dialect line = assigned_from dialect line (past_run line (argument_words line))

-- a device has no name: its path begins with a colon
abbrev pub is_nameless : Text → Bool
is_nameless device = length device == 0

-- a line mentions a path that begins with a colon: one of the top of a disk
abbrev pub names_top : Dialect → Text → Bool
names_top dialect line = list_any is_nameless (mentioned_in dialect (command_text line))

-- a device is one of these, ignoring case
abbrev pub is_among : List Text → Text → Bool
is_among devices device = list_any (λ one. is_same one device) devices
