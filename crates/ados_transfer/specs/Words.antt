-- Texts as words of a typed line: how a word is written so that the Shell reads exactly this text.
use Rattle.std.specs.Prelude.{ℕ, ◌≡◌, ◌+◌, ◌-◌, [], ◌∷◌, ◌++◌, Bool, true, ◌==◌, ◌||◌, ◌&&◌, not, nat_le, nat_lt, length, slice_index, codes, filter, if◌then◌else◌}
use Rattle.std.specs.List.{list_all, list_any}
use Rattle.ados_text.specs.Text.{Bytes, Text}
use Rattle.ados_items.specs.declared.items.Item.{Item}
use Rattle.ados_items.specs.declared.items.Item.TheVariants.{Word, Quoted, Equal, End, Unmatched}
use Rattle.ados_items.specs.Items.{is_blank, item_at, value_of}

-- the byte has a special meaning inside quotes: a quote, a star, the sign of a variable, a back-tick
abbrev pub needs_star : ℕ → Bool
needs_star c = c == 34 || (c == 42 || (c == 36 || c == 96))

-- a byte as it is written inside quotes: a newline and the byte 27 are written as letters
abbrev pub escaped_byte : ℕ → Bytes
escaped_byte c =
    if c == 10 then 42 ∷ 78 ∷ [] else
    (if c == 27 then 42 ∷ 69 ∷ [] else
    (if needs_star c then 42 ∷ c ∷ [] else c ∷ []))

-- a text as it is written inside quotes
abbrev pub quoted_body : Text → Bytes
quoted_body [] = []
quoted_body (c ∷ cs) = escaped_byte c ++ quoted_body cs

-- a text in quotes
abbrev pub quoted_word : Text → Bytes
quoted_word text = 34 ∷ (quoted_body text ++ 34 ∷ [])

-- the byte is a letter or a digit
abbrev pub is_letter_or_digit : ℕ → Bool
is_letter_or_digit c = (nat_le 48 c && nat_lt c 58) || ((nat_le 65 c && nat_lt c 91) || (nat_le 97 c && nat_lt c 123))

-- the byte is one of the characters that a line reads as themselves outside quotes
abbrev pub is_plain_sign : ℕ → Bool
is_plain_sign c = list_any (λ sign. sign == c) (codes "_.,:/#?%~()|'@!^&+-=")

-- the byte stands for itself outside quotes
abbrev pub is_literal_byte : ℕ → Bool
is_literal_byte c = is_letter_or_digit c || is_plain_sign c

-- a word without quotes cannot begin with this byte: `?` would print the template, `+` continue a line, and `=` is an item of its own
abbrev pub is_first_sign : ℕ → Bool
is_first_sign c = c == 63 || (c == 43 || c == 61)

-- the text is not empty, and can begin and end a word without quotes
abbrev pub has_plain_ends : Text → Bool
has_plain_ends text = not (length text == 0) && (not (is_first_sign (slice_index text 0)) && not (slice_index text (length text - 1) == 61))

-- how many equal signs are in a text
abbrev pub equal_signs : Text → ℕ
equal_signs text = length (filter (λ b. b == 61) text)

-- The text stands for itself outside quotes, and may be the name of an option there, or set one by `=`.
abbrev pub needs_no_quotes : Text → Bool
needs_no_quotes text = has_plain_ends text && (list_all is_literal_byte text && nat_lt (equal_signs text) 2)

-- a text as a word of a typed line; `quotes` says that it is quoted in any case
abbrev pub word_of : Bool → Text → Bytes
word_of quotes text = if not quotes && needs_no_quotes text then text else quoted_word text

-- the rest of a line after a word: nothing, or it begins with a blank
abbrev pub IsApart : Bytes → Type 0
IsApart [] = Unit {0}
IsApart (c ∷ cs) = is_blank c ≡ true

-- the place after an item
abbrev pub end_of : Item → ℕ
end_of (Word from to) = to
end_of (Quoted from to) = to + 1
end_of (Equal place) = place + 1
end_of (End place) = place
end_of (Unmatched from) = from

-- Between two places of a line there is one word, which is read as the text; `apart` says that `=` is an item.
pub record ReadsAs (apart : Bool) (line : Bytes) (from to : ℕ) (text : Text) : Type 0 where
  pub value : value_of line (item_at apart line from) ≡ text
  pub end : end_of (item_at apart line from) ≡ to
