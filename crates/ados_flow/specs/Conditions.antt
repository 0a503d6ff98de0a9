-- The conditions of If: which one is asked for, and whether it holds. A number is the index of an option in If's template
-- (`template_of` in Rows), from 0: 0 is NOT, 4 the word without a name, 8 VAL.
use Rattle.std.specs.Prelude.{ℕ, ℤ, List, [], ◌∷◌, filter, Bool, true, false, Option, Some, None, is_some, Result, Ok, Err, if◌then◌else◌}
use Rattle.std.specs.FinMap as map
use Rattle.std.specs.declared.cmp.Ordering.{Ordering}
use Rattle.std.specs.declared.cmp.Ordering.TheVariants as order
use Rattle.std.specs.Ordering.{int_cmp}
use Rattle.ados_text.specs.Text.{Text, folded_text}
use Rattle.ados_text.specs.Name.{name_cmp}
use Rattle.ados_text.specs.Number.{number_of}
use Rattle.ados_text.specs.declared.codes.Code.{Code}
use Rattle.ados_text.specs.declared.codes.TheConstants.Code.{WARN, ERROR, FAIL}
use Rattle.ados_text.specs.declared.codes.TheConstants.Result2.{ARGUMENT_MISSING, BAD_NUMBER, TOO_MANY_ARGUMENTS}
use Rattle.ados_ram.specs.Place.{Place, key_of}
use Rattle.ados_readargs.specs.declared.args.Arg.{Arg}
use Rattle.ados_readargs.specs.Args.{has_switch, option_text}
use Rattle.ados_find.specs.declared.codes.Codes.{Codes}
use Rattle.ados_find.specs.Codes.{fail_codes}
use Rattle.ados_find.specs.Effects.{if_found}
use Rattle.ados_find.specs.Paths.{place_of}
use Rattle.ados_find.specs.Shared.{SharedState}
use Rattle.ados_find.specs.Views.{View}
use Rattle.ados_flow.specs.CodeRule.{is_reached}
use Rattle.ados_flow.specs.declared.conditions.Test.{Test}
use Rattle.ados_flow.specs.declared.conditions.Test.TheVariants.{Warn, Error, Fail, Equal, Greater, GreaterOrEqual, Exists}

-- the arguments of If ask for a test, by WARN, ERROR, FAIL, EQ, GT, GE or EXISTS
abbrev pub is_given : List Arg → Test → Bool
is_given args Warn = has_switch args 1
is_given args Error = has_switch args 2
is_given args Fail = has_switch args 3
is_given args Equal = is_some (option_text args 5)
is_given args Greater = is_some (option_text args 6)
is_given args GreaterOrEqual = is_some (option_text args 7)
is_given args Exists = is_some (option_text args 9)

-- the one of these tests that If asks for; none is a fault, and so are several
abbrev pub single_test : List Test → Result Test Codes
single_test [] = Err (fail_codes ARGUMENT_MISSING)
single_test (test ∷ []) = Ok test
single_test (test ∷ more ∷ tests) = Err (fail_codes TOO_MANY_ARGUMENTS)

-- the test that the arguments of If ask for: exactly one
abbrev pub test_of : List Arg → Result Test Codes
test_of args = single_test (filter (is_given args) (Warn ∷ Error ∷ Fail ∷ Equal ∷ Greater ∷ GreaterOrEqual ∷ Exists ∷ []))

-- the order of two numbers; a fault if one is missing
abbrev pub order_of_numbers : Option ℤ → Option ℤ → Result Ordering Codes
order_of_numbers None right = Err (fail_codes BAD_NUMBER)
order_of_numbers (Some left) None = Err (fail_codes BAD_NUMBER)
order_of_numbers (Some left) (Some right) = Ok (int_cmp left right)

-- the order of two words: of their numbers with VAL (`true`), else of their bytes in lower case
abbrev pub order_of : Bool → Text → Text → Result Ordering Codes
order_of by_value left right =
    if by_value then order_of_numbers (number_of left) (number_of right) else Ok (name_cmp (folded_text left) (folded_text right))

-- an order is that of two equal things
abbrev pub is_equal : Ordering → Bool
is_equal order.Equal = true
is_equal _ = false

-- an order is that of a thing and a smaller one
abbrev pub is_greater : Ordering → Bool
is_greater order.Greater = true
is_greater _ = false

-- an order is not that of a thing and a greater one
abbrev pub is_not_less : Ordering → Bool
is_not_less order.Less = false
is_not_less _ = true

-- the result of a test of an order, or the refusal of the order
abbrev pub order_result : (Ordering → Bool) → Result Ordering Codes → Result Bool Codes
order_result holds (Err codes) = Err codes
order_result holds (Ok ordering) = Ok (holds ordering)

-- the order of two words, if both are there; of their numbers with VAL (`true`)
abbrev pub order_if_both : Bool → Option Text → Option Text → Result Ordering Codes
order_if_both by_value None right = Err (fail_codes ARGUMENT_MISSING)
order_if_both by_value (Some left) None = Err (fail_codes ARGUMENT_MISSING)
order_if_both by_value (Some left) (Some right) = order_of by_value left right

-- the order of the unnamed word and the value of the option with this index
abbrev pub argument_order : List Arg → ℕ → Result Ordering Codes
argument_order args index = order_if_both (has_switch args 8) (option_text args 4) (option_text args index)

-- a place, if it is right, holds an object
abbrev pub place_exists : SharedState → Result Place Codes → Bool
place_exists shared (Err codes) = false
place_exists shared (Ok place) = is_some (map.get shared.files (key_of place))

-- a path leads to an object; without a path (none) it does not
abbrev pub exists : SharedState → View → Option Text → Bool
exists shared view None = false
exists shared view (Some word) = place_exists shared (place_of shared view.parts.directory word)

-- the last command's code is at a level, or above
abbrev pub code_reaches : Code → View → Bool
code_reaches level view = is_reached level view.parts.codes.code

-- a test of If holds, or what If returns if that cannot be decided
abbrev pub holds : SharedState → View → List Arg → Test → Result Bool Codes
holds shared view args Warn = Ok (code_reaches WARN view)
holds shared view args Error = Ok (code_reaches ERROR view)
holds shared view args Fail = Ok (code_reaches FAIL view)
holds shared view args Equal = order_result is_equal (argument_order args 5)
holds shared view args Greater = order_result is_greater (argument_order args 6)
holds shared view args GreaterOrEqual = order_result is_not_less (argument_order args 7)
holds shared view args Exists = Ok (exists shared view (option_text args 9))

-- the one test that If asks for holds, or what If returns if that cannot be decided
abbrev pub if_test : SharedState → View → List Arg → Result Bool Codes
if_test shared view args = if_found Err (test_of args) (holds shared view args)
