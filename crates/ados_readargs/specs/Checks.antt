-- The tests of filled options: none with /A lacks a value, and what /N holds are numbers.
use Rattle.std.specs.Prelude.{List, [], ◌∷◌, Bool, true, false, ◌&&◌, ◌||◌, not}
use Rattle.std.specs.List.{list_any}
use Rattle.ados_text.specs.Text.{Text}
use Rattle.ados_text.specs.Number.{is_number}
use Rattle.ados_readargs.specs.declared.options.TemplateOption.{TemplateOption}
use Rattle.ados_readargs.specs.declared.args.Arg.{Arg}
use Rattle.ados_readargs.specs.declared.args.Arg.TheVariants.{Absent, On, One, Many}
use Rattle.ados_readargs.specs.declared.checks.Demand.{Demand}
use Rattle.ados_readargs.specs.declared.checks.Demand.TheVariants.{Argument, Numbers}

-- the option was given nothing
abbrev pub is_absent : Arg → Bool
is_absent Absent = true
is_absent On = false
is_absent (One text) = false
is_absent (Many texts) = false

-- the option has /A, and no argument
abbrev pub is_lacking : TemplateOption → Arg → Bool
is_lacking option arg = option.qualifiers.required && is_absent arg

-- an option passes a test with its argument
abbrev pub any_option : (TemplateOption → Arg → Bool) → List TemplateOption → List Arg → Bool
any_option test [] args = false
any_option test (option ∷ options) [] = false
any_option test (option ∷ options) (arg ∷ args) = test option arg || any_option test options args

-- an option with /A has no argument
abbrev pub lacks : List TemplateOption → List Arg → Bool
lacks options args = any_option is_lacking options args

-- the text is not a number
abbrev pub is_bad_text : Text → Bool
is_bad_text text = not (is_number text)

-- one of the texts of an argument is not a number
abbrev pub has_bad_number : Arg → Bool
has_bad_number Absent = false
has_bad_number On = false
has_bad_number (One text) = is_bad_text text
has_bad_number (Many texts) = list_any is_bad_text texts

-- the option has /N, and a text that is not a number
abbrev pub is_bad : TemplateOption → Arg → Bool
is_bad option arg = option.qualifiers.number && has_bad_number arg

-- an option with /N has a text that is not a number
abbrev pub has_bad : List TemplateOption → List Arg → Bool
has_bad options args = any_option is_bad options args

-- the option with its argument does not meet what is asked of it
abbrev pub is_broken_by : Demand → TemplateOption → Arg → Bool
is_broken_by Argument = is_lacking
is_broken_by Numbers = is_bad
