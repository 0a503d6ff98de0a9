-- No command here reads what the shells are called or what they run from.
use Rattle.std.proofs.Common.{List, [], Option, Some, None, Result, Ok, Err, ap, refl}
use Rattle.std.specs.Prelude.{unwrap_or}
use Rattle.ados_text.specs.Text.{Bytes, Text}
use Rattle.ados_text.specs.declared.codes.Result2.{Result2}
use Rattle.ados_ram.specs.FileOperations.{read_result}
use Rattle.ados_ram.specs.Place.{Place}
use Rattle.ados_readargs.specs.declared.args.Arg.{Arg}
use Rattle.ados_readargs.specs.Args.{has_switch, option_text}
use Rattle.ados_find.specs.declared.codes.Codes.{Codes}
use Rattle.ados_find.specs.Effects.{if_found, if_given}
use Rattle.ados_find.specs.Shared.{SharedState}
use Rattle.ados_find.specs.Views.{IgnoresShells}
use Rattle.ados_resident.specs.declared.commands.FlowCommand.{FlowCommand}
use Rattle.ados_resident.specs.declared.commands.FlowCommand.TheVariants.{Execute, If}
use Rattle.ados_flow.specs.declared.conditions.Test.{Test}
use Rattle.ados_flow.specs.declared.conditions.Test.TheVariants.{Warn, Error, Fail, Equal, Greater, GreaterOrEqual, Exists}
use Rattle.ados_flow.specs.Actions.{codes_action}
use Rattle.ados_flow.specs.Branches.{if_action, if_row}
use Rattle.ados_flow.specs.Execute.{execute_file, found_script, script_read, script_row}
use Rattle.ados_flow.specs.Frames.{ScriptLine}
use Rattle.ados_flow.specs.Rows.{row_of}
use Rattle.ados_flow.specs.Conditions.{exists, holds, test_of}

exists-ignores : (shared : SharedState) (word : Option Text) → IgnoresShells (λ view. exists shared view word)
exists-ignores shared None = λ view names uses. refl
exists-ignores shared (Some word) = λ view names uses. refl

holds-ignores : (shared : SharedState) (args : List Arg) (test : Test) → IgnoresShells (λ view. holds shared view args test)
holds-ignores shared args Warn = λ view names uses. refl
holds-ignores shared args Error = λ view names uses. refl
holds-ignores shared args Fail = λ view names uses. refl
holds-ignores shared args Equal = λ view names uses. refl
holds-ignores shared args Greater = λ view names uses. refl
holds-ignores shared args GreaterOrEqual = λ view names uses. refl
holds-ignores shared args Exists = λ view names uses. ap Ok (exists-ignores shared (option_text args 9) view names uses)

tested-ignores : (shared : SharedState) (args : List Arg) (test : Result Test Codes) → IgnoresShells (λ view. if_found Err test (holds shared view args))
tested-ignores shared args (Err codes) = λ view names uses. refl
tested-ignores shared args (Ok test) = holds-ignores shared args test

if-ignores : (shared : SharedState) (script_line : Option ScriptLine) (args : List Arg) → IgnoresShells (λ view. if_row shared script_line view args)
if-ignores shared None args = λ view names uses. refl
if-ignores shared (Some here) args = λ view names uses.
    ap (λ held. if_found (codes_action shared) held (if_action shared (has_switch args 0) here)) (tested-ignores shared args (test_of args) view names uses)

read-ignores : (shared : SharedState) (place : Place) (args : Text) (read : Result Bytes Result2) → IgnoresShells (λ view. script_read shared view place args read)
read-ignores shared place args (Err fault) = λ view names uses. refl
read-ignores shared place args (Ok bytes) = λ view names uses. refl

pub script-ignores : (shared : SharedState) (args : Text) (place : Place) → IgnoresShells (λ view. script_row shared view args place)
unfolding script_row
script-ignores shared args place = λ view names uses. read-ignores shared place args (read_result shared.files view.busy.outputs place) view names uses

at-ignores : (shared : SharedState) (args : Text) (place : Result Place Codes) → IgnoresShells (λ view. if_found (codes_action shared) place (script_row shared view args))
at-ignores shared args (Err codes) = λ view names uses. refl
at-ignores shared args (Ok place) = script-ignores shared args place

file-ignores : (shared : SharedState) (word : Option Text) (args : Text) → IgnoresShells (λ view. if_given (codes_action shared) word (execute_file shared view args))
file-ignores shared None args = λ view names uses. refl
file-ignores shared (Some word) args = λ view names uses. at-ignores shared args (found_script shared view.parts.directory word) view names uses

-- the last clause is checked at each other command
pub ignores_shells : (command : FlowCommand) (shared : SharedState) (script_line : Option ScriptLine) (args : List Arg) → IgnoresShells (λ view. row_of command shared script_line view args)
ignores_shells Execute shared script_line args = file-ignores shared (option_text args 0) (unwrap_or (option_text args 1) [])
ignores_shells If shared script_line args = if-ignores shared script_line args
ignores_shells command shared script_line args = λ view names uses. refl
