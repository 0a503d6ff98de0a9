-- Jumps of a script that lead nowhere.
use Rattle.std.specs.Prelude.{ℕ, List, [], Bool, true, false, Option, Some, None, Result, Ok, Err}
use Rattle.ados_text.specs.Text.{Text}
use Rattle.ados_readargs.specs.declared.args.Arg.{Arg}
use Rattle.ados_line.specs.declared.faults.LineFault.{LineFault}
use Rattle.ados_line.specs.declared.lines.Expanded.{Expanded}
use Rattle.ados_line.specs.declared.lines.Expanded.TheVariants.{Ready}
use Rattle.ados_line.specs.Comment.{without_comment}
use Rattle.ados_line.specs.Cut.{cut_of, expanded_of_cut}
use Rattle.ados_machine.specs.Commands.{template_of}
use Rattle.ados_readargs.specs.declared.errors.ArgFault.{ArgFault}
use Rattle.ados_readargs.specs.Args.{has_switch}
use Rattle.ados_readargs.specs.Fill.{fill_of}
use Rattle.ados_resident.specs.declared.commands.Builtin.TheVariants.{Flow}
use Rattle.ados_resident.specs.declared.commands.FlowCommand.{FlowCommand}
use Rattle.ados_resident.specs.declared.commands.FlowCommand.TheVariants.{Else, Skip}
use Rattle.ados_resident.specs.declared.dialects.Dialect.{Dialect}
use Rattle.ados_script.specs.declared.jumps.Jump.{Jump}
use Rattle.ados_script.specs.declared.jumps.Jump.TheVariants.{None as Nowhere}
use Rattle.ados_script.specs.Blocks.{after_else}
use Rattle.ados_script.specs.Skips.{skip}
use Rattle.ados_flow.specs.declared.branches.TheConstants.{SKIP_BACK}
use Rattle.ados_flow.specs.Branches.{label_sought}
use Rattle.ados_check.specs.declared.findings.Problem.{Problem}
use Rattle.ados_check.specs.declared.findings.Problem.TheVariants as problem

-- a jump leads nowhere
abbrev pub is_nowhere : Jump → Bool
is_nowhere Nowhere = true
is_nowhere jump = false

-- a command in a line of a script with these arguments is a jump that leads nowhere, in a world of a dialect
abbrev pub leads_nowhere : Dialect → FlowCommand → List Text → ℕ → List Arg → Bool
leads_nowhere dialect Else lines line args = is_nowhere (after_else lines line)
leads_nowhere dialect Skip lines line args = is_nowhere (skip dialect lines line (label_sought dialect args) (has_switch args SKIP_BACK))
leads_nowhere dialect command lines line args = false

-- the command of a jump of which a problem says that it leads nowhere
abbrev pub lost_jump : Problem → Option FlowCommand
lost_jump (problem.NoLab label) = Some Skip
lost_jump problem.ElseWithoutEndIf = Some Else
lost_jump other = None

-- a label; empty if there is none
abbrev pub label_or_none : Option Text → Text
label_or_none None = []
label_or_none (Some label) = label

-- the label that Skip's arguments name, if they fill its template; empty if they name none
abbrev pub label_filled : Dialect → Result (List Arg) ArgFault → Text
label_filled dialect (Ok args) = label_or_none (label_sought dialect args)
label_filled dialect (Err fault) = []

-- the label that a line of Skip names, as it is read
abbrev pub label_read : Dialect → Result Expanded LineFault → Text
label_read dialect (Ok (Ready line)) = label_filled dialect (fill_of (template_of dialect (Flow Skip)) line.args)
label_read dialect (Ok other) = []
label_read dialect (Err fault) = []

-- the label that a line of Skip names, with its variables as they are written
abbrev pub label_named : Dialect → Text → Text
label_named dialect line = label_read dialect (expanded_of_cut (cut_of (without_comment line)))
