-- Execute: the call of a script.
use Rattle.std.specs.Prelude.{List, [], ◌++◌, not, ◌&&◌, Result, Ok, Err, codes, is_none, unwrap_or, if◌then◌else◌}
use Rattle.std.specs.FinMap as map
use Rattle.std.specs.Fmt.{decimal}
use Rattle.ados_text.specs.Lines.{lines_of}
use Rattle.ados_text.specs.Text.{Bytes, Text}
use Rattle.ados_text.specs.declared.codes.Result2.{Result2}
use Rattle.ados_text.specs.declared.codes.TheConstants.Result2.{NO_FREE_STORE}
use Rattle.std.specs.declared.alloc.AllocError.{AllocError as NoMemory}
use Rattle.ados_ram.specs.Place.{Place, key_of}
use Rattle.ados_ram.specs.FileOperations.{read_result}
use Rattle.ados_ram.specs.Written.{full_path}
use Rattle.ados_readargs.specs.declared.args.Arg.{Arg}
use Rattle.ados_readargs.specs.Args.{option_text}
use Rattle.ados_find.specs.declared.codes.Codes.{Codes}
use Rattle.ados_find.specs.Codes.{fail_codes, error_codes}
use Rattle.ados_find.specs.Effects.{if_found, if_given}
use Rattle.ados_find.specs.Paths.{place_of}
use Rattle.ados_find.specs.Search.{is_path}
use Rattle.ados_find.specs.Shared.{SharedState}
use Rattle.ados_find.specs.Views.{View}
use Rattle.ados_subst.specs.declared.faults.SubstFault.{SubstFault}
use Rattle.ados_subst.specs.Faults.{result2_of}
use Rattle.ados_subst.specs.Scripts.{script_of}
use Rattle.ados_flow.specs.Actions.{Action, Calls, codes_action}

-- where Execute finds the script of a word, given the word's place: there, or in S: if the word is not a path and there is no object at
-- that place
abbrev pub script_place : SharedState → Place → Text → Place → Result Place Codes
script_place shared directory word place =
    if not (is_path word) && is_none (map.get shared.files (key_of place)) then place_of shared directory (codes "S:" ++ word) else Ok place

-- where Execute finds the script of a word, if the word leads to a place
abbrev pub found_script : SharedState → Place → Text → Result Place Codes
found_script shared directory word = if_found Err (place_of shared directory word) (script_place shared directory word)

-- the action for a fault of arguments or of substitution: the command returns 20 with the fault's number. The definitions never run out of
-- memory: the case of it only makes the function total, and gives 103.
abbrev pub fault_answer : SharedState → Result Result2 NoMemory → Action
fault_answer shared (Ok number) = codes_action shared (fail_codes number)
fault_answer shared (Err no_memory) = codes_action shared (fail_codes NO_FREE_STORE)

-- the call of the script `name` with its arguments substituted in its lines, or the fault of the substitution
abbrev pub call_of_lines : SharedState → Text → Result (List Text) SubstFault → Action
call_of_lines shared name (Err fault) = fault_answer shared (result2_of fault)
call_of_lines shared name (Ok lines) = Calls (record { name = name; script = lines })

-- the call of the script at a place with the arguments `args`, given its bytes or the fault of reading them
abbrev pub script_read : SharedState → View → Place → Text → Result Bytes Result2 → Action
script_read shared view place args (Err fault) = codes_action shared (error_codes fault)
script_read shared view place args (Ok bytes) = call_of_lines shared (full_path shared.files place) (script_of (lines_of bytes) args (decimal view.parts.number))

-- the call with these arguments of the script at a place: it is read, and its arguments are substituted
unfoldable pub script_row : SharedState → View → Text → Place → Action
script_row shared view args place = script_read shared view place args (read_result shared.files view.busy.outputs place)

-- Execute of the script that a word names with these arguments
abbrev pub execute_file : SharedState → View → Text → Text → Action
execute_file shared view args word = if_found (codes_action shared) (found_script shared view.parts.directory word) (script_row shared view args)

-- Execute, given its arguments: it calls the script FILE with ARGS
abbrev pub execute_row : SharedState → View → List Arg → Action
execute_row shared view args = if_given (codes_action shared) (option_text args 0) (execute_file shared view (unwrap_or (option_text args 1) []))
