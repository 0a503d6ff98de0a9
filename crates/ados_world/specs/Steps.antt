-- What a step commits, and its result.
use Rattle.std.specs.Prelude.{◌-◌, ℕ, List, [], ◌∷◌, ◌++◌, Option, Some, None, Result, Ok, Err, option_map, slice_set}
use Rattle.ados_find.specs.declared.codes.Codes.{Codes}
use Rattle.ados_find.specs.Renames.{renames_in}
use Rattle.ados_find.specs.Shared.{SharedState, version}
use Rattle.ados_machine.specs.declared.outs.Out.{Out}
use Rattle.ados_machine.specs.declared.refusals.Refusal.{Refusal}
use Rattle.ados_machine.specs.Shells.{ShellState}
use Rattle.ados_machine.specs.Carrying.{moved_objects}
use Rattle.ados_machine.specs.Numbers.{free_number}
use Rattle.ados_machine.specs.Requests.{request_of}
use Rattle.ados_machine.specs.Step.{event_out}
use Rattle.ados_machine.specs.World.{WorldState, option_flatten, at_number}
use Rattle.ados_shell.specs.declared.drafts.Draft.{Draft}
use Rattle.ados_shell.specs.Drafts.{out_of, drafted_phase}
use Rattle.ados_world.specs.Breaks.{shells_with_broken}
use Rattle.ados_world.specs.Endings.{final_codes, recorded_codes, remaining_shells}
use Rattle.ados_world.specs.NewShells.{joined_shells, new_shell}
use Rattle.ados_world.specs.Shells.{shells_after_draft}

-- the shells after what a turn makes of the one of this number, by its draft, with the one that begins at the lowest free number; the
-- shared state is that before the turn
abbrev pub begun_shells : ℕ → Draft → SharedState → List (Option ShellState) → List (Option ShellState)
begun_shells number draft shared shells =
    joined_shells (new_shell (option_map (λ b. b.value) draft.begun) (free_number shells))
    (shells_after_draft number draft.shell (moved_objects shared (version shared draft.shared) (renames_in (option_map (λ r. r.value) draft.renamed))) shells)

-- the shells of a world after what a turn makes of the one of this number, by its draft, with the one that begins at the lowest free number
abbrev pub shells_with_begun : ℕ → Draft → WorldState → List (Option ShellState)
shells_with_begun number draft w = begun_shells number draft w.shared w.shells

-- the shells of a world after a turn of the one of this number, by its draft: with the one that begins, and the one that it breaks
abbrev pub shells_after_turn : ℕ → Draft → WorldState → List (Option ShellState)
shells_after_turn number draft w = shells_with_broken number draft.breaking (shells_with_begun number draft w)

-- the world after a turn of the shell of this number, by its draft: a background shell that no longer runs a frame is removed, and its
-- codes are kept
abbrev pub world_after_turn : ℕ → Draft → WorldState → WorldState
world_after_turn number draft w =
    (let shells = shells_after_turn number draft w in
    let codes = final_codes number (option_flatten (at_number shells number)) in
    record w {
      shells = remaining_shells codes number shells;
      ended = recorded_codes codes number w.ended;
      shared = version w.shared draft.shared;
    })

-- what an event gives by its draft, which changes this shell: it asks a launcher for what the shell waits for then
abbrev pub draft_out : Option ShellState → Draft → Out
draft_out None draft = out_of draft
draft_out (Some shell) draft = event_out draft.printed.items (request_of shell.parts.number (drafted_phase draft.shell)) draft.reports.items

-- the world after the end of the shell of this number, whose codes are kept
abbrev pub ended_world : ℕ → Codes → WorldState → WorldState
ended_world number codes w = record w { shells = slice_set w.shells (number - 1) None; ended = slice_set w.ended (number - 1) codes }

-- the world in which this line waits after the others
abbrev pub with_queued_line : List ℕ → WorldState → WorldState
with_queued_line line w = record w { queue = w.queue ++ line ∷ [] }

-- the result of an event with this output, by the result of taking it
abbrev pub step_result : {X : Type 0} → Out → Result X Refusal → Result Out Refusal
step_result out (Ok accepted) = Ok out
step_result out (Err why) = Err why
