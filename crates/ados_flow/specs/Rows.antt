-- What each command does, by the shared state, its line in a script, its shell's view and its arguments.
use Rattle.std.specs.Prelude.{List, [], Option, codes}
use Rattle.ados_text.specs.Text.{Text}
use Rattle.ados_readargs.specs.declared.args.Arg.{Arg}
use Rattle.ados_find.specs.Codes.{went_well}
use Rattle.ados_find.specs.Effects.{codes_effect}
use Rattle.ados_find.specs.Shared.{SharedState}
use Rattle.ados_find.specs.Views.{View}
use Rattle.ados_resident.specs.declared.commands.FlowCommand.{FlowCommand}
use Rattle.ados_resident.specs.declared.commands.FlowCommand.TheVariants as flow
use Rattle.ados_resident.specs.declared.dialects.Dialect.{Dialect}
use Rattle.ados_resident.specs.declared.dialects.Dialect.TheVariants.{Core, Full}
use Rattle.ados_flow.specs.Actions.{Action, Does}
use Rattle.ados_flow.specs.Ask.{ask_row}
use Rattle.ados_flow.specs.Branches.{if_row, else_row, skip_row}
use Rattle.ados_flow.specs.Execute.{execute_row}
use Rattle.ados_flow.specs.Frames.{ScriptLine}
use Rattle.ados_flow.specs.Quit.{quit_row}

-- the text of a command's template in Core
abbrev pub core_template_of : FlowCommand → Text
core_template_of flow.Ask = codes "PROMPT/A"
core_template_of flow.Else = []
core_template_of flow.EndIf = []
core_template_of flow.EndSkip = []
core_template_of flow.Execute = codes "FILE/A,ARGS/F"
core_template_of flow.If = codes "NOT/S,WARN/S,ERROR/S,FAIL/S,,EQ/K,GT/K,GE/K,VAL/S,EXISTS/K"
core_template_of flow.Lab = codes "LABEL/F"
core_template_of flow.Quit = codes "RC/N"
core_template_of flow.Skip = codes "LABEL,BACK/S"

-- the text of a command's template in Full: as in Core, but LABEL of Skip may have several words
abbrev pub full_template_of : FlowCommand → Text
full_template_of flow.Skip = codes "LABEL/M,BACK/S"
full_template_of command = core_template_of command

-- the text of a command's template in a dialect
abbrev pub template_of : Dialect → FlowCommand → Text
template_of Core command = core_template_of command
template_of Full command = full_template_of command

-- the action of a command that only marks its line
abbrev pub marker_action : SharedState → Action
marker_action shared = Does (codes_effect shared went_well)

-- what a command does, which is at a line of a script or in none, given the shared state, its shell's view and its arguments
abbrev pub row_of : FlowCommand → SharedState → Option ScriptLine → View → List Arg → Action
row_of flow.Ask shared script_line view args = ask_row shared args
row_of flow.Else shared script_line view args = else_row shared script_line
row_of flow.EndIf shared script_line view args = marker_action shared
row_of flow.EndSkip shared script_line view args = marker_action shared
row_of flow.Execute shared script_line view args = execute_row shared view args
row_of flow.If shared script_line view args = if_row shared script_line view args
row_of flow.Lab shared script_line view args = marker_action shared
row_of flow.Quit shared script_line view args = quit_row args
row_of flow.Skip shared script_line view args = skip_row shared script_line args
