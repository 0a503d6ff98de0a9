-- Eval in Full: the value of an expression.
use Rattle.std.specs.Prelude.{ℤ, List, [], ◌∷◌, ◌++◌, get_or, Option, Some, None, Result, Ok, Err}
use Rattle.std.specs.Fmt.{signed_decimal}
use Rattle.std.specs.List.{flat_map}
use Rattle.ados_text.specs.Text.{Bytes, Text}
use Rattle.ados_text.specs.declared.codes.Result2.{Result2}
use Rattle.ados_find.specs.Codes.{fail_codes}
use Rattle.ados_find.specs.Shared.{SharedState}
use Rattle.ados_find.specs.Effects.{Effect, codes_effect, output_effect}
use Rattle.ados_find.specs.OutputFile.{output_to}
use Rattle.ados_find.specs.Views.{View}
use Rattle.ados_readargs.specs.declared.args.Arg.{Arg}
use Rattle.ados_readargs.specs.Args.{option_text, option_texts}
use Rattle.ados_env.specs.declared.options.TheConstants.{EVAL_VALUE1, EVAL_OP, EVAL_VALUE2, EVAL_TO, EVAL_LFORMAT}
use Rattle.ados_env.specs.EvalFormat.{formatted_value}
use Rattle.ados_env.specs.Expression.{expression_value}

-- a blank and a word
abbrev pub after_blank : Text → Bytes
after_blank word = 32 ∷ word

-- the expression that Eval is given: the words of VALUE1, OP and VALUE2, with a blank between one and the next
abbrev pub eval_text : List Arg → Bytes
eval_text args =
    get_or (option_texts args EVAL_VALUE1) 0 []
    ++ (flat_map after_blank (option_texts args EVAL_OP) ++ flat_map after_blank (option_texts args EVAL_VALUE2))

-- what is printed of a value: a line, or what LFORMAT says, to which no newline is added
abbrev pub value_output : ℤ → Option Text → Bytes
value_output value None = signed_decimal value ++ 10 ∷ []
value_output value (Some format) = formatted_value value format

-- prints a value by LFORMAT, or returns why there is none
abbrev pub print_value : SharedState → Option Text → Result ℤ Result2 → Effect
print_value shared format (Err fault) = codes_effect shared (fail_codes fault)
print_value shared format (Ok value) = output_effect shared (value_output value format)

-- Eval in Full without TO: it prints the value of its expression
abbrev pub expression_row : SharedState → List Arg → Effect
expression_row shared args = print_value shared (option_text args EVAL_LFORMAT) (expression_value (eval_text args))

-- Eval in Full, given its arguments: with TO the value is written to a file
abbrev pub full_eval_row : SharedState → View → List Arg → Effect
full_eval_row shared view args = output_to view (option_text args EVAL_TO) (expression_row shared args)
