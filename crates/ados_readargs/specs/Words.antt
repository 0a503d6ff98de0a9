-- The words of a line: quoted items, and longest runs of touching Word and Equal items.
use Rattle.std.specs.Prelude.{ℕ, zero, suc, ◌+◌, ◌-◌, ◌==◌, ◌&&◌, List, [], ◌∷◌, Bool, true, false, Option, Some, None, if◌then◌else◌, length}
use Rattle.ados_text.specs.Text.{Bytes}
use Rattle.ados_items.specs.Items.{item_at}
use Rattle.ados_items.specs.declared.items.Item.{Item}
use Rattle.ados_items.specs.declared.items.Item.TheVariants as item
use Rattle.ados_readargs.specs.declared.words.LineWord.{LineWord}
use Rattle.ados_readargs.specs.declared.words.LineWord.TheVariants.{Run, Quoted, Open}

-- where a run ends that has reached a place, by the item there, if `next` gives the end from a place on
abbrev pub run_end_by_item : (ℕ → ℕ) → ℕ → Item → ℕ
run_end_by_item next place (item.Word from to) = if from == place then next to else place
run_end_by_item next place (item.Equal from) = if from == place then next (from + 1) else place
run_end_by_item next place (item.Quoted from to) = place
run_end_by_item next place (item.End from) = place
run_end_by_item next place (item.Unmatched from) = place

-- where the touching Word and Equal items from a place on end, at most `count` of them
abbrev pub run_end_from : ℕ → Bytes → ℕ → ℕ
run_end_from zero line place = place
run_end_from (suc count) line place = run_end_by_item (λ to. run_end_from count line to) place (item_at true line place)

-- where the run that has reached a place ends
abbrev pub run_end : Bytes → ℕ → ℕ
run_end line place = run_end_from (length line + 1) line place

-- the word that begins with an item, and where the words after it begin; none at the line's end
abbrev pub word_of : Bytes → Item → Option (LineWord × ℕ)
word_of line (item.Word from to) = Some (Run from to (run_end line to), run_end line to)
word_of line (item.Equal from) = Some (Run from from (run_end line (from + 1)), run_end line (from + 1))
word_of line (item.Quoted from to) = Some (Quoted from to, to + 1)
word_of line (item.Unmatched from) = Some (Open from, length line)
word_of line (item.End from) = None

-- the words from one that was found on, if `next` gives those from a place on
abbrev pub words_from_found : (ℕ → List LineWord) → Option (LineWord × ℕ) → List LineWord
words_from_found next None = []
words_from_found next (Some (word, after)) = word ∷ next after

-- the words of a line from a place on, at most `count`
abbrev pub words_from : ℕ → Bytes → ℕ → List LineWord
words_from zero line place = []
words_from (suc count) line place = words_from_found (λ to. words_from count line to) (word_of line (item_at true line place))

-- The words of a line, in order, by their places; a quote that is never closed is the last. A line has no more words than bytes.
abbrev pub line_words_of : Bytes → List LineWord
line_words_of line = words_from (length line + 1) line 0

-- the item whose text is the word's
abbrev pub item_of : LineWord → Item
item_of (Run from key to) = item.Word from to
item_of (Quoted from to) = item.Quoted from to
item_of (Open from) = item.Unmatched from

-- where a word begins
abbrev pub start_of : LineWord → ℕ
start_of (Run from key to) = from
start_of (Quoted from to) = from - 1
start_of (Open from) = from - 1

-- the word is a quote that is never closed
abbrev pub is_open_quote : LineWord → Bool
is_open_quote (Run from key to) = false
is_open_quote (Quoted from to) = false
is_open_quote (Open from) = true

-- the word is `=` alone
abbrev pub is_equals_sign : LineWord → Bool
is_equals_sign (Run from key to) = from == key && to == from + 1
is_equals_sign (Quoted from to) = false
is_equals_sign (Open from) = false
