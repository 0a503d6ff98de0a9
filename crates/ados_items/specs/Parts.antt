-- Parts of a text: what is left without the blanks around it, its first word, and the rest.
use Rattle.std.specs.Prelude.{ℕ, ◌-◌, Bool, not, length, take, drop}
use Rattle.std.specs.List.{prefix_len, suffix_len}
use Rattle.ados_text.specs.Text.{Bytes}
use Rattle.ados_items.specs.Items.{is_blank}

abbrev pub not_blank : ℕ → Bool
not_blank c = not (is_blank c)

-- the text without the blanks before and after it
abbrev pub trimmed_text : Bytes → Bytes
trimmed_text text = let rest = drop (prefix_len is_blank text) text in take (length rest - suffix_len is_blank rest) rest

-- the bytes up to the first blank
abbrev pub first_word : Bytes → Bytes
first_word text = take (prefix_len not_blank text) text

-- what follows the first word, without the blanks around it
abbrev pub rest_of : Bytes → Bytes
rest_of text = trimmed_text (drop (prefix_len not_blank text) text)
