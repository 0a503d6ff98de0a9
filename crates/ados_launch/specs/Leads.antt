-- How one world leads to another: by events that it accepts, and by shells that are opened for lines.
use Rattle.std.specs.Prelude.{◌≡◌, ℕ, List, [], ◌∷◌, ◌++◌, Some, None, Result, Ok}
use Rattle.ados_text.specs.Text.{Text}
use Rattle.ados_machine.specs.declared.events.Event.{Event}
use Rattle.ados_machine.specs.declared.outs.Out.{Out}
use Rattle.ados_machine.specs.declared.refusals.Refusal.{Refusal}
use Rattle.ados_flow.specs.declared.kinds.FrameKind.TheVariants.{RunCommands}
use Rattle.ados_flow.specs.Frames.{first_limit}
use Rattle.ados_machine.specs.Items.{TraceItem, Began}
use Rattle.ados_machine.specs.FrameEnds.{ObeyLimits}
use Rattle.ados_machine.specs.Numbers.{free_number}
use Rattle.ados_machine.specs.Runs.{IsResponse, resulting_world}
use Rattle.ados_machine.specs.Stacks.{ShellGoes, standing_at}
use Rattle.ados_machine.specs.Step.{step_of}
use Rattle.ados_machine.specs.Trace.{items_after, own, ends_in, all_reports, frames_of}
use Rattle.ados_machine.specs.LoneShell.{world_with_opened}
use Rattle.ados_machine.specs.World.{WorldState}
use Rattle.ados_world.specs.Opened.{opening_fault}

-- a way from one world to the next: an event with its output, or a shell with this number that is opened for a line
pub data Act : Type 0 where
  Takes : (event : Event) (out : Out) → Act
  Opens : (number : ℕ) (line : Text) → Act

-- these acts lead from one world to the other: in order the machine accepts the events and opens the shells
abbrev pub ActsLead : WorldState → List Act → WorldState → Type 0
ActsLead w [] last = last ≡ w
ActsLead w (Takes event out ∷ acts) last =
    IsResponse event (Ok out) (step_of w event) × ActsLead (resulting_world w (Ok out) (step_of w event)) acts last
ActsLead w (Opens k line ∷ acts) last =
    (free_number w.shells ≡ Some k) × (opening_fault w line ≡ None) × ActsLead (world_with_opened w k (line ∷ [])) acts last

-- what these acts gave, in order; the opening of a shell gives nothing
abbrev pub outs_of_acts : List Act → List (Result Out Refusal)
outs_of_acts [] = []
outs_of_acts (Takes event out ∷ acts) = Ok out ∷ outs_of_acts acts
outs_of_acts (Opens k line ∷ acts) = outs_of_acts acts

-- what the opening of shell k for a line adds to the trace: the line begins as a frame, as the lines of a Run do
abbrev pub opening_items : ℕ → List (ℕ × TraceItem)
opening_items k = (k, Began 1 RunCommands first_limit) ∷ []

-- the trace of these acts from a world on: what each accepted event and each opened shell adds, in order
abbrev pub trace_of_acts : WorldState → List Act → List (ℕ × TraceItem)
trace_of_acts w [] = []
trace_of_acts w (Takes event out ∷ acts) =
    items_after (Ok out) (step_of w event) ++ trace_of_acts (resulting_world w (Ok out) (step_of w event)) acts
trace_of_acts w (Opens k line ∷ acts) = opening_items k ++ trace_of_acts (world_with_opened w k (line ∷ [])) acts

-- in all that these acts did, openings of shells included, in each shell each script ends early exactly at its first command whose code
-- reaches the limit in force after it
abbrev pub ActsObeyLimits : WorldState → List Act → Type 0
ActsObeyLimits w acts = (k : ℕ) → ObeyLimits (frames_of k w) (own k (trace_of_acts w acts))

-- the reports that these acts gave are the ends of scripts in their trace, in order
abbrev pub ActsReportEnds : WorldState → List Act → Type 0
ActsReportEnds w acts = all_reports (outs_of_acts acts) ≡ ends_in (trace_of_acts w acts)

-- in each shell the frames go through the trace of these acts as a stack, and each ends at most once
abbrev pub ActsEndFramesOnce : WorldState → List Act → WorldState → Type 0
ActsEndFramesOnce w acts last = (k : ℕ) → ShellGoes (standing_at w k) (own k (trace_of_acts w acts)) (standing_at last k)
