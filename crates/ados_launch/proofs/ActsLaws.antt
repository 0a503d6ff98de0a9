-- What leads from a sane world to another moves the frames of each shell by its trace; and so each script ends where the rule says.
use Rattle.std.proofs.Common.{◌≡◌, ℕ, Bool, Option, List, [], ◌∷◌, ◌++◌, Ok, refl, ap, append-nil}
use Rattle.ados_machine.specs.declared.events.Event.{Event}
use Rattle.ados_machine.specs.declared.outs.Out.{Out}
use Rattle.ados_machine.specs.FrameEnds.{IsSane}
use Rattle.ados_machine.specs.LoneShell.{world_with_opened}
use Rattle.ados_machine.specs.Runs.{IsResponse, resulting_world}
use Rattle.ados_machine.specs.Stacks.{standing_at}
use Rattle.ados_machine.specs.Step.{step_of}
use Rattle.ados_machine.specs.Trace.{items_after, own, ends_in}
use Rattle.ados_machine.specs.World.{WorldState}
use Rattle.ados_machine.proofs.Ends.{ends-append, reports-hold}
use Rattle.ados_machine.proofs.Follows.{shell-goes}
use Rattle.ados_machine.proofs.Moves.{Moves, stays}
use Rattle.ados_machine.proofs.Sane.{sane-after, sane-shells}
use Rattle.ados_machine.proofs.Shells.{own-append}
use Rattle.ados_machine.proofs.StepMoves.{step-moves}
use Rattle.ados_machine.proofs.Traces.{moves-append, moves-limits}
use Rattle.ados_world.proofs.OpenedLemmas.{opened-moves, opened-sane}
use Rattle.ados_launch.specs.Deeds.{Does, DoesByRule, acts_of_deeds}
use Rattle.ados_launch.specs.Laws.{ActsObeyTheRule, DeedsObeyTheRule}
use Rattle.ados_launch.specs.Leads.{Act, Takes, Opens, ActsLead, opening_items, trace_of_acts, ActsReportEnds}
use Rattle.ados_launch.proofs.Deeding.{acts-lead}

-- the world after an event of an act
abbrev after : WorldState → Event → Out → WorldState
after w event out = resulting_world w (Ok out) (step_of w event)

acts-move : (w : WorldState) (acts : List Act) (last : WorldState) → ActsLead w acts last → IsSane w → (j : ℕ) →
    Moves j w.shells (own j (trace_of_acts w acts)) last.shells
acts-move w [] last led sane j = rw led (stays w.shells j (sane-shells w sane))
acts-move w (Takes event out ∷ acts) last led sane j =
    let mid : WorldState = after w event out in
    let here = items_after (Ok out) (step_of w event) in
    rw (own-append j here (trace_of_acts mid acts))
    (moves-append j w.shells mid.shells last.shells (own j here) (own j (trace_of_acts mid acts))
    (step-moves w event (Ok out) (sane-shells w sane) j) (acts-move mid acts last led.1 (sane-after w event (Ok out) sane) j))
acts-move w (Opens k line ∷ acts) last led sane j =
    let mid : WorldState = world_with_opened w k (line ∷ []) in
    rw (own-append j (opening_items k) (trace_of_acts mid acts))
    (moves-append j w.shells mid.shells last.shells (own j (opening_items k)) (own j (trace_of_acts mid acts))
    (opened-moves w k (line ∷ []) sane led.0 j) (acts-move mid acts last led.2 (opened-sane w k (line ∷ []) sane led.0) j))

acts-sane : (w : WorldState) (acts : List Act) (last : WorldState) → ActsLead w acts last → IsSane w → IsSane last
acts-sane w [] last led sane = rw led sane
acts-sane w (Takes event out ∷ acts) last led sane = acts-sane (after w event out) acts last led.1 (sane-after w event (Ok out) sane)
acts-sane w (Opens k line ∷ acts) last led sane = acts-sane (world_with_opened w k (line ∷ [])) acts last led.2 (opened-sane w k (line ∷ []) sane led.0)

-- what one event reports
event-reports : (w : WorldState) (event : Event) (out : Out) → IsResponse event (Ok out) (step_of w event) →
    out.reports ≡ ends_in (items_after (Ok out) (step_of w event))
event-reports w event out accepted =
    rw (append-nil (items_after (Ok out) (step_of w event)), append-nil out.reports) at
    (reports-hold w (event ∷ []) (Ok out ∷ []) (after w event out) (accepted, refl))

acts-report : (w : WorldState) (acts : List Act) (last : WorldState) → ActsLead w acts last → ActsReportEnds w acts
acts-report w [] last led = refl
acts-report w (Takes event out ∷ acts) last led =
    let mid : WorldState = after w event out in
    rw (ends-append (items_after (Ok out) (step_of w event)) (trace_of_acts mid acts), event-reports w event out led.0)
    (ap (λ reports. ends_in (items_after (Ok out) (step_of w event)) ++ reports) (acts-report mid acts last led.1))
acts-report w (Opens k line ∷ acts) last led = acts-report (world_with_opened w k (line ∷ [])) acts last led.2

pub acts-obey : ActsObeyTheRule
acts-obey w acts last led sane = (
  λ k. moves-limits w last k (own k (trace_of_acts w acts)) (acts-move w acts last led sane k),
  acts-report w acts last led,
  λ k. shell-goes (standing_at w k) (own k (trace_of_acts w acts)) (standing_at last k) (acts-move w acts last led sane k).follows,
)

pub does-by-rule : (w last : WorldState) (is_cut : Bool) (contents contents_now : Option (List ℕ)) → Does w last is_cut contents contents_now → IsSane w → DoesByRule w last is_cut contents contents_now
does-by-rule w last is_cut contents contents_now d sane =
    let obey = acts-obey w (acts_of_deeds d.deeds) last (acts-lead w last d.deeds d.lead) sane in
    record { deeds = d.deeds; lead = d.lead; written = d.written; limits = obey.0; reports = obey.1; frames = obey.2 }

pub deeds-obey : DeedsObeyTheRule
deeds-obey w last is_cut contents contents_now d sane =
    (does-by-rule w last is_cut contents contents_now d sane, acts-sane w (acts_of_deeds d.deeds) last (acts-lead w last d.deeds d.lead) sane)
