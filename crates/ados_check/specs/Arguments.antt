-- The parts of a line: the words that a command reads as its arguments, and the names of redirections.
use Rattle.std.specs.Prelude.{ℕ, zero, suc, ◌+◌, ◌-◌, ◌==◌, ◌&&◌, ◌||◌, List, [], ◌∷◌, Bool, true, false, not, Option, Some, None, length, nat_lt, if◌then◌else◌}
use Rattle.std.specs.List.{filter_map, list_any}
use Rattle.std.specs.Option.{option_and_then, option_map, option_map_or}
use Rattle.ados_text.specs.Text.{Text}
use Rattle.ados_items.specs.declared.items.Item.{Item}
use Rattle.ados_items.specs.declared.items.Item.TheVariants as item
use Rattle.ados_items.specs.Items.{bytes_between, item_at}
use Rattle.ados_check.specs.declared.arguments.Part.{Part}
use Rattle.ados_check.specs.declared.arguments.Part.TheVariants.{Argument, Redirection}
use Rattle.ados_check.specs.declared.arguments.Word.{Word}

-- where an item ends with which a run of words and equal signs goes on from a place; none if the run ends at that place
abbrev pub next_end_of_run : ℕ → Item → Option ℕ
next_end_of_run end (item.Word from to) = if from == end then Some to else None
next_end_of_run end (item.Equal at) = if at == end then Some (at + 1) else None
next_end_of_run end (item.Quoted from to) = None
next_end_of_run end (item.End at) = None
next_end_of_run end (item.Unmatched from) = None

-- where a run of words and equal signs ends that goes up to a place at least, and over at most `count` items after it
abbrev pub run_search : ℕ → Text → ℕ → ℕ
run_search zero line end = end
run_search (suc count) line end = option_map_or (λ to. run_search count line to) (next_end_of_run end (item_at true line end)) end

-- where a run of words and equal signs ends that goes up to a place at least
abbrev pub run_end : Text → ℕ → ℕ
run_end line place = run_search (length line) line place

-- the word of a line that begins with an item: a run of words and equal signs, or a text in quotes with the quotes
abbrev pub word_of : Text → Item → Option Word
word_of line (item.Word from to) = Some (record { from = from; name_to = to; to = run_end line to })
word_of line (item.Equal at) = Some (record { from = at; name_to = at; to = run_end line (at + 1) })
word_of line (item.Quoted from to) = Some (record { from = from - 1; name_to = from - 1; to = to + 1 })
word_of line (item.End at) = None
word_of line (item.Unmatched from) = None

-- the first word of a line from a place on; none at its end, at a comment and at a quote that is open
abbrev pub word_at : Text → ℕ → Option Word
word_at line place = word_of line (item_at true line place)

-- the first byte of a text is `>`
abbrev pub begins_with_greater : Text → Bool
begins_with_greater [] = false
begins_with_greater (c ∷ cs) = c == 62

-- how many bytes the redirection sign has with which a text begins; 0 if it begins with none, as `<name>` does, a value of the arguments
abbrev pub sign_width : Text → ℕ
sign_width [] = 0
sign_width (c ∷ cs) = if c == 62 then (if begins_with_greater cs then 2 else 1) else (if c == 60 && not (list_any (λ d. d == 62) cs) then 1 else 0)

-- the name of a redirection, if an item is one: a word, or a text in quotes with the quotes
abbrev pub name_after : Item → Option Word
name_after (item.Word from to) = Some (record { from = from; name_to = to; to = to })
name_after (item.Quoted from to) = Some (record { from = from - 1; name_to = from - 1; to = to + 1 })
name_after (item.Equal at) = None
name_after (item.End at) = None
name_after (item.Unmatched from) = None

-- the part of a line that begins with a word, whose redirection sign has so many bytes: without a sign the word itself is an argument, and
-- after a sign the next item is a name, if it can be one
abbrev pub part_by_sign : Text → Word → ℕ → Option Part
part_by_sign line word zero = Some (Argument word)
part_by_sign line word (suc n) = option_map Redirection (name_after (item_at false line (word.from + suc n)))

-- the part of a line that begins with a word: the word, or the name of the redirection; none if the redirection has no name
abbrev pub part_with : Text → Word → Option Part
part_with line word = part_by_sign line word (sign_width (bytes_between line word.from word.to))

-- the first part of a line from a place on
abbrev pub part_at : Text → ℕ → Option Part
part_at line place = option_and_then (part_with line) (word_at line place)

-- where a part ends
abbrev pub part_end : Part → ℕ
part_end (Argument word) = word.to
part_end (Redirection name) = name.to

-- the parts of a line from a place on, one after another, `count` at most
abbrev pub parts_from : ℕ → Text → ℕ → List Part
parts_from zero line place = []
parts_from (suc count) line place = option_map_or (λ part. part ∷ parts_from count line (part_end part)) (part_at line place) []

-- The parts of a line, in order. A line has no more parts than bytes.
abbrev pub parts_of : Text → List Part
parts_of line = parts_from (length line) line 0

-- the word that a part is, if it is an argument
abbrev pub argument_of : Part → Option Word
argument_of (Argument word) = Some word
argument_of (Redirection name) = None

-- the name that a part is, if it is that of a redirection
abbrev pub redirected_of : Part → Option Word
redirected_of (Argument word) = None
redirected_of (Redirection name) = Some name

-- the words of a line that its command reads as arguments
abbrev pub argument_words : Text → List Word
argument_words line = filter_map argument_of (parts_of line)

-- the names of the redirections of a line
abbrev pub redirected_words : Text → List Word
redirected_words line = filter_map redirected_of (parts_of line)

-- a word of a line begins with a redirection sign
abbrev pub redirects : Text → Word → Bool
redirects line word = nat_lt 0 (sign_width (bytes_between line word.from word.to))

-- one of the first `count` words of a line from a place on begins with a redirection sign
abbrev pub redirection_search : ℕ → Text → ℕ → Bool
redirection_search zero line place = false
redirection_search (suc count) line place = option_map_or (λ word. redirects line word || redirection_search count line word.to) (word_at line place) false

-- A line has a redirection, with or without a name.
abbrev pub has_redirection : Text → Bool
has_redirection line = redirection_search (length line) line 0
