-- Lines that only print their words, in which a sign is harmless.
use Rattle.std.specs.Prelude.{◌==◌, ◌&&◌, ◌||◌, Bool, not, length, nat_lt, codes}
use Rattle.std.specs.List.{list_any}
use Rattle.ados_text.specs.Text.{Bytes, Text, is_same}
use Rattle.ados_items.specs.Parts.{first_word, rest_of, trimmed_text}
use Rattle.ados_check.specs.Arguments.{has_redirection}

-- a word is Echo or Ask
abbrev pub is_printer : Text → Bool
is_printer name = is_same name (codes "Echo") || is_same name (codes "Ask")

-- the command of a text without blanks around it is Echo or Ask, with more than one byte after it, no back-tick and no redirection
abbrev pub prints_words : Bytes → Bool
prints_words text = is_printer (first_word text) && nat_lt 1 (length (rest_of text)) && not (list_any (λ c. c == 96) text) && not (has_redirection text)

-- a line only prints its words: it is a line of Echo or Ask, when the blanks around it are left out
abbrev pub only_prints : Bytes → Bool
only_prints line = prints_words (trimmed_text line)
