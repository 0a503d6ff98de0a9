-- Quit: the end of a script.
use Rattle.std.specs.Prelude.{ℤ, List, Option, Some, None}
use Rattle.ados_text.specs.declared.codes.Code.{Code}
use Rattle.ados_text.specs.declared.codes.TheConstants.Code.{OK}
use Rattle.ados_text.specs.declared.codes.TheConstants.Result2.{NONE}
use Rattle.ados_readargs.specs.declared.args.Arg.{Arg}
use Rattle.ados_readargs.specs.Args.{option_number}
use Rattle.ados_find.specs.declared.codes.Codes.{Codes}
use Rattle.ados_flow.specs.Actions.{Action, Quits}

-- what Quit returns for a code
abbrev pub quit_codes : Code → Codes
quit_codes code = record { code = code; result2 = NONE }

-- Quit by RC: the code is RC, and 0 without one
abbrev pub quit_action : Option ℤ → Action
quit_action None = Quits (quit_codes OK)
quit_action (Some number) = Quits (quit_codes (record { 0 = number }))

-- Quit, given its arguments: it ends its script with a code
abbrev pub quit_row : List Arg → Action
quit_row args = quit_action (option_number args 0)
