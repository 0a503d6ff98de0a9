-- Ask: a question that is answered by yes or no.
use Rattle.std.specs.Prelude.{[], ◌||◌, Option, Some, None, codes, if◌then◌else◌}
use Rattle.ados_text.specs.Text.{Text, is_same}
use Rattle.ados_text.specs.declared.codes.TheConstants.Result2.{NONE}
use Rattle.ados_readargs.specs.declared.args.Arg.{Arg}
use Rattle.ados_readargs.specs.Args.{option_text}
use Rattle.ados_find.specs.declared.codes.Codes.{Codes}
use Rattle.ados_find.specs.Codes.{warning_codes, went_well}
use Rattle.ados_find.specs.Effects.{if_given}
use Rattle.ados_find.specs.Shared.{SharedState}
use Rattle.std.specs.Prelude.{List}
use Rattle.ados_flow.specs.Actions.{Action, Asks, codes_action}

-- What a line replies to a question: y and yes answer it with 5, n, no and an empty line with 0, case ignored; anything else is not an
-- answer.
abbrev pub reply_of : Text → Option Codes
reply_of line =
    if is_same line (codes "y") || is_same line (codes "yes") then Some (warning_codes NONE) else
    (if is_same line [] || (is_same line (codes "n") || is_same line (codes "no")) then Some went_well else None)

-- Ask, given its arguments: it asks with its PROMPT
abbrev pub ask_row : SharedState → List Arg → Action
ask_row shared args = if_given (codes_action shared) (option_text args 0) Asks
