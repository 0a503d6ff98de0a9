-- Commands that do not read what is in use.
use Rattle.std.proofs.Common.{◌≡◌, ℕ, List, Option, Some, None, Result, Ok, Err, false, refl}
use Rattle.ados_readargs.specs.declared.args.Arg.{Arg}
use Rattle.ados_find.specs.Effects.{if_found}
use Rattle.ados_find.specs.Shared.{SharedState}
use Rattle.ados_find.specs.Views.{IgnoresInUse}
use Rattle.ados_resident.specs.declared.commands.FlowCommand.{FlowCommand}
use Rattle.ados_resident.specs.declared.commands.FlowCommand.TheVariants.{Execute, If}
use Rattle.ados_flow.specs.declared.conditions.Test.{Test}
use Rattle.ados_flow.specs.declared.conditions.Test.TheVariants.{Warn, Error, Fail, Equal, Greater, GreaterOrEqual, Exists}
use Rattle.ados_flow.specs.Actions.{codes_action}
use Rattle.ados_flow.specs.Branches.{if_action, if_row}
use Rattle.ados_flow.specs.Reads.{reads_in_use}
use Rattle.ados_flow.specs.Frames.{ScriptLine}
use Rattle.ados_flow.specs.Rows.{row_of}
use Rattle.ados_flow.specs.Conditions.{exists, holds, test_of}
use Rattle.std.proofs.Common.{ap}
use Rattle.ados_find.specs.declared.codes.Codes.{Codes}
use Rattle.ados_readargs.specs.Args.{has_switch, option_text}

exists-ignores : (shared : SharedState) (word : Option (List ℕ)) → IgnoresInUse (λ view. exists shared view word)
exists-ignores shared None = λ view busy. refl
exists-ignores shared (Some word) = λ view busy. refl

holds-ignores : (shared : SharedState) (args : List Arg) (test : Test) → IgnoresInUse (λ view. holds shared view args test)
holds-ignores shared args Warn = λ view busy. refl
holds-ignores shared args Error = λ view busy. refl
holds-ignores shared args Fail = λ view busy. refl
holds-ignores shared args Equal = λ view busy. refl
holds-ignores shared args Greater = λ view busy. refl
holds-ignores shared args GreaterOrEqual = λ view busy. refl
holds-ignores shared args Exists = λ view busy. ap Ok (exists-ignores shared (option_text args 9) view busy)

tested-ignores : (shared : SharedState) (args : List Arg) (test : Result Test Codes) → IgnoresInUse (λ view. if_found Err test (holds shared view args))
tested-ignores shared args (Err codes) = λ view busy. refl
tested-ignores shared args (Ok test) = holds-ignores shared args test

if-ignores : (shared : SharedState) (script_line : Option ScriptLine) (args : List Arg) → IgnoresInUse (λ view. if_row shared script_line view args)
if-ignores shared None args = λ view busy. refl
if-ignores shared (Some here) args = λ view busy.
    ap (λ held. if_found (codes_action shared) held (if_action shared (has_switch args 0) here)) (tested-ignores shared args (test_of args) view busy)

-- the last clause is checked at each other command
pub ignores : (command : FlowCommand) (shared : SharedState) (script_line : Option ScriptLine) (args : List Arg) → reads_in_use command ≡ false
    → IgnoresInUse (λ view. row_of command shared script_line view args)
ignores Execute shared script_line args e = cc
ignores If shared script_line args e = if-ignores shared script_line args
ignores command shared script_line args e = λ view busy. refl
