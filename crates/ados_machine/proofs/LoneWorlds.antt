-- The world in which a shell runs alone: how it stands between two events.
use Rattle.std.proofs.Common.{◌≡◌, ◌∙◌, ℕ, ◌≤◌, ◌-◌, List, [], ◌∷◌, true, false, ◌==◌, Option, Some, None, refl, arith, option_map}
use Rattle.std.proofs.lemmas.Bool.{ne_eqb}
use Rattle.ados_find.specs.declared.outcomes.Breaking.{Breaking}
use Rattle.ados_find.specs.declared.outcomes.Renamed.{Renamed}
use Rattle.ados_machine.specs.Breaks.{shells_after_break}
use Rattle.ados_flow.specs.Frames.{FrameState, advanced_frame}
use Rattle.ados_machine.specs.Phases.{Phase}
use Rattle.ados_machine.specs.Items.{TraceItem}
use Rattle.ados_machine.specs.Numbers.{free_number}
use Rattle.ados_machine.specs.Shells.{ShellStart, ShellState, seen_of}
use Rattle.ados_machine.specs.Course.{Course, shared_after_event}
use Rattle.ados_machine.specs.CodeRule.{RuleState, RuleResult}
use Rattle.ados_machine.specs.Apply.{turn_by_rule}
use Rattle.ados_machine.specs.Turning.{Input}
use Rattle.ados_machine.specs.World.{WorldState, numbered_shell, input_of, is_over}
use Rattle.ados_machine.specs.Carrying.{carried_shells, carried_or_same, moved_objects}
use Rattle.ados_machine.specs.Step.{with_begun, codes_of_ended, queue_after_event, is_done, moved_at_turn, start}
use Rattle.ados_machine.specs.Whole.{Common, common_after_event, carried_parts}
use Rattle.ados_machine.specs.Alone.{world_after_lines}
use Rattle.ados_machine.proofs.Shells.{shells_after, broken_one, broken_for, broken-there, found, found-set_same, found-carried, carried-runs, found-placed_other, carried-free, free-number}
use Rattle.ados_machine.proofs.Places.{map-set, any-found, shells-same, broken-same_set}
use Rattle.ados_machine.proofs.Fronts.{front}
use Rattle.ados_machine.proofs.Alone.{shell_of, standing, start_in, with_ends}

-- a background shell's number, at which a shell runs
pub record Stands (k : ℕ) (common : Common) : Type 0 where
  pub above : 2 ≤ k
  pub shell : ShellState
  pub is : found common.shells k ≡ Some shell

-- the world in which it runs, or has ended
abbrev pub world_of : ℕ → WorldState → List FrameState → Phase → Common → WorldState
world_of k w [] phase common = world_after_lines k w common
world_of k w (frame ∷ frames) phase common = standing k w (frame ∷ frames) phase common

pub not-first : (k : ℕ) (common : Common) → Stands k common → (k == 1) ≡ false
not-first k common stands = ne_eqb k 1 (λ e. omega (arith, e, stands.above))

pub stands-at : (k : ℕ) (w : WorldState) (frames : List FrameState) (phase : Phase) (common : Common) → Stands k common →
    numbered_shell (standing k w frames phase common) k ≡ Some (shell_of frames phase common)
stands-at k w frames phase common stands = found-set_same common.shells k stands.shell (Some (shell_of frames phase common)) stands.is

pub ended-at : (k : ℕ) (w : WorldState) (common : Common) → Stands k common → numbered_shell (world_after_lines k w common) k ≡ None
ended-at k w common stands = found-set_same common.shells k stands.shell None stands.is

pub not-over : (k : ℕ) (w : WorldState) (frames : List FrameState) (phase : Phase) (common : Common) → Stands k common →
    is_over (standing k w frames phase common) ≡ false
not-over k w frames phase common stands =
    rw (any-found (standing k w frames phase common).shells k (shell_of frames phase common)
    (stands-at k w frames phase common stands)) refl

-- its input is at its end
abbrev pub no_input : Input
no_input = record { queue = []; is_ended = true }

pub background : (k : ℕ) (w : WorldState) → (k == 1) ≡ false → input_of w k ≡ no_input
background k w e = rw e refl

pub starts-in : (k : ℕ) (w : WorldState) (frames : List FrameState) (phase : Phase) (common : Common) →
    start (standing k w frames phase common) (shell_of frames phase common) ≡ start_in k frames phase common
starts-in k w frames phase common =
    rw (map-set (option_map seen_of) common.shells (k - 1) (Some (shell_of frames phase common))) refl

-- if a shell runs it still runs after an event
carried-stands : (k : ℕ) (advanced_frame : List Renamed) (begun : Option ShellStart) (breaking : Option Breaking) (shells : List (Option ShellState))
    (shell : ShellState) → found shells k ≡ Some shell →
    found (shells_after_break breaking (with_begun begun (free_number shells) (carried_shells advanced_frame shells))) k
    ≡ Some (broken_one (broken_for breaking k) (carried_or_same advanced_frame shell))
carried-stands k advanced_frame begun breaking shells shell is =
    broken-there breaking (with_begun begun (free_number shells) (carried_shells advanced_frame shells)) k (carried_or_same advanced_frame shell)
    (found-placed_other (carried_shells advanced_frame shells) begun (free_number shells) k (carried_or_same advanced_frame shell)
    (carried-free advanced_frame shells (free_number shells) (free-number shells))
    (found-carried advanced_frame shells k ∙ carried-runs advanced_frame (found shells k) shell is))

stands-after : (k : ℕ) (common : Common) (course : Course) → Stands k common → Stands k (common_after_event common course)
stands-after k common course stands = record {
  above = stands.above;
  shell = broken_one (broken_for course.breaking k) (carried_or_same (moved_objects common.shared (shared_after_event course) course.renamed) stands.shell);
  is = carried-stands k (moved_objects common.shared (shared_after_event course) course.renamed) course.begun course.breaking common.shells stands.shell stands.is;
}

pub stands-again : (k : ℕ) (common : Common) (course : Course) (rule_state : RuleState) (log : List TraceItem) → Stands k common →
    Stands k (record (common_after_event common course) { rule_state = rule_state; reports = with_ends k log common.reports })
stands-again k common course rule_state log stands =
    let after = stands-after k common course stands in
    record { above = after.above; shell = after.shell; is = after.is }

-- the shell after an event
left-same : (advanced_frame : List Renamed) (shell : ShellState) →
    carried_or_same advanced_frame shell ≡ record shell { parts = carried_parts advanced_frame shell.parts }
left-same [] shell = refl
left-same (renamed ∷ more) shell = refl

-- the world after an event
abbrev pub took_world : WorldState → ℕ → Course → RuleResult → WorldState
took_world w k course settled = (let t = turn_by_rule course settled in record {
  shells = shells_after w.shells k (moved_at_turn w t) t;
  ended = codes_of_ended (is_done k t.frames) k t.course.parts.codes w.ended;
  queue = queue_after_event k w.queue [];
  input_ended = w.input_ended;
  shared = shared_after_event t.course;
})

-- what is passed on after an event
abbrev pub common_by : ℕ → Common → Course → RuleState → List TraceItem → Common
common_by k common course rule_state log =
    record (common_after_event common course) {
      rule_state = front common.rule_state.printed (moved_objects common.shared (shared_after_event course) course.renamed) rule_state;
      reports = with_ends k log common.reports;
    }

pub world-same : (k : ℕ) (w : WorldState) (old : List FrameState) (phase : Phase) (common : Common) (course : Course)
    (frames : List FrameState) (next : Phase) (rule_state : RuleState) (log : List TraceItem) →
    Stands k common →
    took_world (standing k w old phase common) k course (record { frames = frames; phase = next; rule_state = rule_state; log = log })
    ≡ world_of k w frames next (common_by k common course rule_state log)
world-same k w old phase common course [] next rule_state log stands =
    let advanced_frame = moved_objects common.shared (shared_after_event course) course.renamed in
    rw (
      not-first k common stands,
      broken-same_set course.breaking _ _ (k - 1) None
          (shells-same advanced_frame course.begun common.shells k stands.shell (shell_of old phase common) None stands.is),
    ) refl
world-same k w old phase common course (frame ∷ frames) next rule_state log stands =
    let advanced_frame = moved_objects common.shared (shared_after_event course) course.renamed in
    let now : ShellState = record { frames = frame ∷ frames; phase = next; parts = rule_state.parts; kept = rule_state.kept; flagged = course.flagged } in
    rw (
      not-first k common stands,
      left-same advanced_frame now,
      broken-same_set course.breaking _ _ (k - 1) (Some (record now { parts = carried_parts advanced_frame rule_state.parts }))
          (shells-same advanced_frame course.begun common.shells k stands.shell (shell_of old phase common)
          (Some (record now { parts = carried_parts advanced_frame rule_state.parts })) stands.is),
    ) refl
