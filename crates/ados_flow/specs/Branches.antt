-- Branches: If, Else and Skip, by which a script continues at another line.
use Rattle.std.specs.Prelude.{List, [], ◌∷◌, Bool, not, Option, Some, None, if◌then◌else◌}
use Rattle.std.specs.List.{join_with_byte}
use Rattle.ados_text.specs.Text.{Text}
use Rattle.ados_text.specs.declared.codes.TheConstants.Result2.{NONE, OBJECT_NOT_FOUND, WRONG_TYPE}
use Rattle.ados_readargs.specs.declared.args.Arg.{Arg}
use Rattle.ados_readargs.specs.Args.{has_switch, option_text, option_texts}
use Rattle.ados_resident.specs.declared.dialects.Dialect.{Dialect}
use Rattle.ados_resident.specs.declared.dialects.Dialect.TheVariants.{Core, Full}
use Rattle.ados_script.specs.declared.jumps.Jump.{Jump}
use Rattle.ados_script.specs.declared.jumps.Jump.TheVariants.{To, EndSkip, None as Nowhere}
use Rattle.ados_script.specs.Blocks.{after_if, after_else}
use Rattle.ados_script.specs.Skips.{skip}
use Rattle.ados_find.specs.Codes.{fail_codes, warning_codes, went_well}
use Rattle.ados_find.specs.Effects.{if_found}
use Rattle.ados_find.specs.Shared.{SharedState}
use Rattle.ados_find.specs.Views.{View}
use Rattle.ados_flow.specs.declared.branches.TheConstants.{SKIP_LABEL, SKIP_BACK}
use Rattle.ados_flow.specs.Actions.{Action, Jumps, Quits, codes_action}
use Rattle.ados_flow.specs.Frames.{ScriptLine}
use Rattle.ados_flow.specs.Conditions.{if_test}

-- the action of a jump: a script continues where it leads, with 5 after an EndSkip; if nothing is found the script ends with 20 and 205
abbrev pub jump_action : Jump → Action
jump_action (To line) = Jumps line went_well
jump_action (EndSkip line) = Jumps line (warning_codes NONE)
jump_action Nowhere = Quits (fail_codes OBJECT_NOT_FOUND)

-- what a branch does at the line where its script stands; refused outside a script
abbrev pub in_script : SharedState → Option ScriptLine → (ScriptLine → Action) → Action
in_script shared None branch = codes_action shared (fail_codes WRONG_TYPE)
in_script shared (Some here) branch = branch here

-- If whose test is known: it holds, or not; NOT (`turned`) inverts it; a test that fails jumps after the Else or EndIf
abbrev pub if_action : SharedState → Bool → ScriptLine → Bool → Action
if_action shared turned here held =
    if (if turned then not held else held) then codes_action shared went_well else jump_action (after_if here.lines here.line)

-- If, given its line and its arguments: it continues, or jumps after its Else or EndIf if its test fails
abbrev pub if_row : SharedState → Option ScriptLine → View → List Arg → Action
if_row shared script_line view args =
    in_script shared script_line (λ here. if_found (codes_action shared) (if_test shared view args) (if_action shared (has_switch args 0) here))

-- Else, given its line: it jumps after its EndIf
abbrev pub else_row : SharedState → Option ScriptLine → Action
else_row shared script_line = in_script shared script_line (λ here. jump_action (after_else here.lines here.line))

-- several words with one blank between two, if there are any
abbrev pub phrase_or_none : List Text → Option Text
phrase_or_none [] = None
phrase_or_none (word ∷ words) = Some (join_with_byte 32 (word ∷ words))

-- the label that Skip's arguments name, in Full by several words
abbrev pub label_sought : Dialect → List Arg → Option Text
label_sought Core args = option_text args SKIP_LABEL
label_sought Full args = phrase_or_none (option_texts args SKIP_LABEL)

-- Skip, given its line and its arguments: it jumps after the Lab with its LABEL, or any Lab without one, looked for below it or with BACK
-- from the first line on, or after an EndSkip that comes before that
abbrev pub skip_row : SharedState → Option ScriptLine → List Arg → Action
skip_row shared script_line args =
    in_script shared script_line (λ here. jump_action (skip shared.dialect here.lines here.line (label_sought shared.dialect args) (has_switch args SKIP_BACK)))
