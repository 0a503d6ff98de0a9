-- The arguments of options: what each holds of the fillings and the plain words, as switches and texts.
use Rattle.std.specs.Prelude.{ℕ, ℤ, ◌+◌, ◌%◌, ◌==◌, nat_lt, List, [], ◌∷◌, Bool, true, false, Option, Some, None, map, slice_get, if◌then◌else◌}
use Rattle.std.specs.Option.{option_and_then, option_map_or}
use Rattle.ados_text.specs.Text.{Bytes, Text}
use Rattle.ados_text.specs.Number.{number_of}
use Rattle.ados_items.specs.Items.{value_of}
use Rattle.ados_items.specs.declared.items.Item.{Item}
use Rattle.ados_readargs.specs.declared.options.Qualifiers.{Qualifiers}
use Rattle.ados_readargs.specs.declared.options.TemplateOption.{TemplateOption}
use Rattle.ados_readargs.specs.declared.args.Arg.{Arg}
use Rattle.ados_readargs.specs.declared.args.Arg.TheVariants.{Absent, On, One, Many}
use Rattle.ados_readargs.specs.Options.{takes_value}
use Rattle.ados_readargs.specs.Readings.{Readings, named_count}
use Rattle.ados_readargs.specs.Shares.{held_items}

-- a switch or toggle that is on or not
abbrev pub switch_arg : Bool → Arg
switch_arg true = On
switch_arg false = Absent

-- the texts of the items, for /M
abbrev pub many_of : Bytes → List Item → Arg
many_of line [] = Absent
many_of line (item ∷ items) = Many (map (value_of line) (item ∷ items))

-- the text of the first item
abbrev pub one_of : Bytes → List Item → Arg
one_of line [] = Absent
one_of line (item ∷ items) = One (value_of line item)

-- a switch or toggle that was named `named` times is on
abbrev pub sets_flag : Qualifiers → ℕ → Bool
sets_flag q named = if q.switch then nat_lt 0 named else named % 2 == 1

-- the argument of a switch or toggle that was named `named` times
abbrev pub named_arg : Qualifiers → ℕ → Arg
named_arg q named = switch_arg (sets_flag q named)

-- the argument of an option that takes values and holds the items
abbrev pub value_arg : Qualifiers → Bytes → List Item → Arg
value_arg q line items = if q.many then many_of line items else one_of line items

-- the argument of the option at a place, with its qualifiers
unfoldable pub arg_at : List TemplateOption → Bytes → Readings → ℕ → Qualifiers → Arg
arg_at options line readings place q =
    if takes_value q then value_arg q line (held_items options readings place) else named_arg q (named_count place readings.given)

-- the arguments of the options from a place on, one for each of a list
abbrev pub args_from : List TemplateOption → Bytes → Readings → ℕ → List TemplateOption → List Arg
args_from options line readings place [] = []
args_from options line readings place (option ∷ more) = arg_at options line readings place option.qualifiers ∷ args_from options line readings (place + 1) more

-- The arguments of the options, one for each, in order.
abbrev pub args_of : List TemplateOption → Bytes → Readings → List Arg
args_of options line readings = args_from options line readings 0 options

-- the texts of an argument
abbrev pub texts_in : Arg → List Text
texts_in Absent = []
texts_in On = []
texts_in (One text) = text ∷ []
texts_in (Many texts) = texts

-- the argument is on
abbrev pub is_flag_set : Arg → Bool
is_flag_set Absent = false
is_flag_set On = true
is_flag_set (One text) = false
is_flag_set (Many texts) = false

-- the text of an argument without /M
abbrev pub text_in : Arg → Option Text
text_in Absent = None
text_in On = None
text_in (One text) = Some text
text_in (Many texts) = None

-- the texts of an argument, if there is one
abbrev pub texts_or_none : Option Arg → List Text
texts_or_none None = []
texts_or_none (Some arg) = texts_in arg

-- an argument; `Absent` if there is none
abbrev pub or_absent : Option Arg → Arg
or_absent None = Absent
or_absent (Some arg) = arg

-- the option at a place is on
abbrev pub has_switch : List Arg → ℕ → Bool
has_switch args place = option_map_or is_flag_set (slice_get args place) false

-- the text of the option at a place
abbrev pub option_text : List Arg → ℕ → Option Text
option_text args place = option_and_then text_in (slice_get args place)

-- the texts of the option at a place
abbrev pub option_texts : List Arg → ℕ → List Text
option_texts args place = texts_or_none (slice_get args place)

-- the number of the option at a place
abbrev pub option_number : List Arg → ℕ → Option ℤ
option_number args place = option_and_then number_of (option_text args place)
