-- The word of a line that is its command, and the name of the command that it stands for.
use Rattle.std.specs.Prelude.{ℕ, zero, suc, ◌-◌, ◌==◌, ◌||◌, List, [], ◌∷◌, Bool, Option, Some, None, codes, drop, length, map, not, slice_index, take, if◌then◌else◌}
use Rattle.std.specs.List.{suffix_len}
use Rattle.ados_text.specs.Text.{Bytes, Text, is_same, to_ascii}
use Rattle.ados_items.specs.Items.{bytes_between}
use Rattle.ados_items.specs.Parts.{first_word, trimmed_text}
use Rattle.ados_vars.specs.Vars.{Pairs, value_in}
use Rattle.ados_check.specs.Commands.{name_in_c}
use Rattle.ados_check.specs.declared.arguments.Word.{Word}

-- a word without a quote with which it begins
abbrev pub without_first : Bytes → Bytes
without_first [] = []
without_first (c ∷ cs) = if c == 34 then cs else c ∷ cs

-- a word without a quote with which it ends
abbrev pub without_last : Bytes → Bytes
without_last word = if slice_index word (length word - 1) == 34 then take (length word - 1) word else word

-- a word without the quotes around it
abbrev pub unquoted : Bytes → Bytes
unquoted word = without_last (without_first word)

-- the name of a command, as a word has it: there may be quotes, and a path to C: before it
abbrev pub name_in : Bytes → Bytes
name_in word = name_in_c (unquoted word)

-- a byte is neither `:` nor `/`
abbrev pub is_name_byte : ℕ → Bool
is_name_byte c = not (c == 58 || c == 47)

-- what follows the last `:` or `/` of a path
abbrev pub after_path : Bytes → Bytes
after_path path = drop (length path - suffix_len is_name_byte path) path

-- the name of a command, as a word has it: there may be quotes, and any path before it
abbrev pub last_name : Bytes → Bytes
last_name word = after_path (unquoted word)

-- the name of the command for which a word stands, given the text of which it is an alias: the name is that of the text's first word, or
-- that of the word itself if it is no alias (none)
abbrev pub name_by : Bytes → Option Text → Bytes
name_by word None = last_name word
name_by word (Some text) = last_name (first_word (trimmed_text text))

-- the name of the command for which a word of a line stands, whatever path it has
abbrev pub command_name : Pairs → Bytes → Word → Bytes
command_name aliases line word = let written = bytes_between line word.from word.to in name_by written (value_in aliases (map to_ascii written))

-- how many words after a word with this name are passed over with it to find the command of a line: 0 after Run, 1 after Alias; with any
-- other name the word is the command (none)
abbrev pub lead_by : Bytes → Option ℕ
lead_by name = if is_same name (codes "Run") then Some 0 else (if is_same name (codes "Alias") then Some 1 else None)

-- how many words after a word of a line are passed over with it to find the line's command; none if the word is the command
abbrev pub lead_of : Pairs → Bytes → Word → Option ℕ
lead_of aliases line word = lead_by (command_name aliases line word)

-- how many words after a word are passed over with it to find the command: one less than are to be passed over from the word on, or if none
-- are (0) what `lead` says of it
abbrev pub lead_after : (Word → Option ℕ) → ℕ → Word → Option ℕ
lead_after lead zero word = lead word
lead_after lead (suc further) word = Some further

-- some words, if the first of them is the command (none); otherwise what `next` gives, if so many words after the first are passed over
abbrev pub from_word : (ℕ → List Word) → List Word → Option ℕ → List Word
from_word next words None = words
from_word next words (Some further) = next further

-- some words of a line from that of its command on, if the first `further` of them are passed over; the list is empty if none of them is
-- the command
abbrev pub from_command : (Word → Option ℕ) → ℕ → List Word → List Word
from_command lead further [] = []
from_command lead further (word ∷ words) = from_word (λ next. from_command lead next words) (word ∷ words) (lead_after lead further word)
