-- What the text between a bra and a ket stands for.
use Rattle.std.specs.Prelude.{ℕ, ◌+◌, [], ◌∷◌, Bool, ◌==◌, Option, Some, take, drop, position, if◌then◌else◌}
use Rattle.std.specs.Option.{option_or, option_map, option_and_then}
use Rattle.std.specs.Str.{bytes_eq}
use Rattle.ados_text.specs.Text.{Text}
use Rattle.ados_subst.specs.declared.above.Above.{Above}
use Rattle.ados_subst.specs.Above.{named_slot}
use Rattle.ados_subst.specs.Slots.{value_of, value_or}

-- what each text stands for, if it refers to something
abbrev pub References : Type 0
References = Text → Option Text

-- the two bytes are equal
abbrev pub is_byte : ℕ → ℕ → Bool
is_byte c b = b == c

-- the name of an option stands for its value
abbrev pub value_by_name : Above → Text → Option Text
value_by_name above name = option_map value_of (named_slot above name)

-- the name of an option, the dollar at a place and a text stand for what the option was given, otherwise for that text
abbrev pub value_by_dollar : Above → Text → ℕ → Option Text
value_by_dollar above text place = option_map (value_or (drop (place + 1) text)) (named_slot above (take place text))

-- what a text stands for, if it refers to something: two dollars to the shell's number
abbrev pub reference_value : Above → Text → References
reference_value above process text =
    let dollar = above.marks.dollar in
    if bytes_eq text (dollar ∷ dollar ∷ []) then Some process
    else option_or (value_by_name above text) (option_and_then (value_by_dollar above text) (position (is_byte dollar) text))
