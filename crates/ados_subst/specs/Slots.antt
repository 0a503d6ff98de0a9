-- The options of a script's template: what each was given, and its default.
use Rattle.std.specs.Prelude.{List, [], ◌∷◌, Bool, Option, Some, None, slice_get, unwrap_or, if◌then◌else◌}
use Rattle.std.specs.List.{find, join_with_byte, list_any}
use Rattle.std.specs.Option.{option_map}
use Rattle.ados_text.specs.Text.{Text, is_same}
use Rattle.ados_readargs.specs.declared.options.TemplateOption.{TemplateOption}
use Rattle.ados_readargs.specs.declared.args.Arg.{Arg}
use Rattle.ados_readargs.specs.declared.args.Arg.TheVariants.{Absent, On, One, Many}
use Rattle.ados_subst.specs.declared.slots.Slot.{Slot}

-- the text that an argument gives to the option of these names: a switch that is on gives its first name, and the
-- values of an /M are joined by blanks
abbrev pub given_text : List Text → Arg → Option Text
given_text names Absent = None
given_text names On = slice_get names 0
given_text names (One text) = Some text
given_text names (Many texts) = Some (join_with_byte 32 texts)

-- an option and its argument; it has no default yet
abbrev pub new_slot : TemplateOption → Arg → Slot
new_slot option arg = record { names = option.names; given = given_text option.names arg; default = None }

-- the options and their arguments, side by side
abbrev pub slots_of : List TemplateOption → List Arg → List Slot
slots_of [] args = []
slots_of (option ∷ options) [] = []
slots_of (option ∷ options) (arg ∷ args) = new_slot option arg ∷ slots_of options args

-- the option has the name
abbrev pub is_named : Text → Slot → Bool
is_named name slot = list_any (λ own. is_same own name) slot.names

-- the option with a name
abbrev pub find_slot : List Slot → Text → Option Slot
find_slot slots name = find (is_named name) slots

-- the text that the option was given, otherwise another one
abbrev pub value_or : Text → Slot → Text
value_or other slot = unwrap_or slot.given other

-- the text that the option was given, otherwise its default, otherwise nothing
abbrev pub value_of : Slot → Text
value_of slot = value_or (unwrap_or slot.default []) slot

-- the options with a default for the one with a name; none if no option has the name
abbrev pub with_default_in : Text → Text → List Slot → Option (List Slot)
with_default_in name text [] = None
with_default_in name text (slot ∷ slots) =
    if is_named name slot then Some (record slot { default = Some text } ∷ slots)
    else option_map (λ more. slot ∷ more) (with_default_in name text slots)

-- the same, but none if the name is empty
abbrev pub with_default : List Slot → Text → Text → Option (List Slot)
with_default slots [] text = None
with_default slots (c ∷ cs) text = with_default_in (c ∷ cs) text slots
