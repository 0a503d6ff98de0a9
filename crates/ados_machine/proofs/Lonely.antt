-- The world's events of a shell that runs alone are the shell's own over what its lines pass on.
use Rattle.std.proofs.Common.{◌≡◌, ap, ℕ, zero, suc, List, [], ◌∷◌, ◌&&◌, if◌then◌else◌, inl, inr, Option, Some, None, refl}
use Rattle.std.specs.List.{slice_get}
use Rattle.std.proofs.lemmas.Bool.{cases_Bool}
use Rattle.ados_text.specs.Text.{Bytes, Text}
use Rattle.ados_find.specs.declared.outcomes.Renamed.{Renamed}
use Rattle.ados_machine.specs.Breaks.{break_text, has_script}
use Rattle.ados_flow.specs.Frames.{FrameState, advanced_frame}
use Rattle.ados_machine.specs.declared.answers.Answer.{Answer as Reply}
use Rattle.ados_machine.specs.declared.events.Event.TheVariants.{Turn, Answer}
use Rattle.ados_machine.specs.declared.refusals.Refusal.{Refusal}
use Rattle.ados_machine.specs.Phases.{Phase, Ready, GoingOn, Waiting}
use Rattle.ados_machine.specs.declared.phases.Wait.TheVariants.{ForAnswer, ForEnd, ForLines, ForPiece, ForStart}
use Rattle.ados_machine.specs.Sinks.{newest_sink}
use Rattle.ados_machine.specs.Course.{Course, shared_after_event, with_bytes_printed}
use Rattle.ados_machine.specs.Completions.{Completion, Passes, course_of}
use Rattle.ados_machine.specs.Lines.{line_completion, parted_completion, answer_completion}
use Rattle.ados_machine.specs.NewShells.{gathered_completion}
use Rattle.ados_machine.specs.Answers.{answered_in}
use Rattle.ados_machine.specs.CodeRule.{RuleState, RuleResult, end_at_break}
use Rattle.ados_machine.specs.Apply.{TurnResult, here_of, rule_state_of, turn_by_rule, code_rule_of, turn_of_completion}
use Rattle.ados_machine.specs.Turning.{Turned, turn_of_frame, flagged_turning, turning_in_phase, turning_of_completion}
use Rattle.ados_machine.specs.World.{WorldState}
use Rattle.ados_machine.specs.Carrying.{moved_objects}
use Rattle.ados_machine.specs.Step.{Response, Refused, turn_taken, course_without_flag, turning_response, step_of}
use Rattle.ados_machine.specs.Whole.{Common, common_after_event, common_without_flag}
use Rattle.ados_machine.specs.Alone.{Exec, exec_step, reply_next, exec_alone, is_hosted}
use Rattle.ados_machine.proofs.Fronts.{front, fronted, broken-front, ruled-front}
use Rattle.ados_machine.proofs.Alone.{Lone, Unfed, go_by, turn_event, lift, standing, start_in, Go, does, line_event, completion_event, reply_event, event_in, exec}
use Rattle.ados_machine.proofs.LoneWorlds.{Stands, world_of, not-first, stands-at, ended-at, not-over, no_input, background, starts-in, stands-again, took_world, common_by, world-same}

-- how the world continues with what is kept
abbrev pub Goes : Type 0 → Type 0 → Type 0
Goes A X = WorldState → A → X

-- A fold over the world's events of a shell that runs alone: what it keeps of what lines pass on, what it gives where the
-- shell stops, and how it continues after an event, and with the answers that are left.
pub record Fold (A X : Type 0) (k : ℕ) (w : WorldState) : Type 0 where
  pub kept : Common → A
  pub seen : Lone → X
  pub after : Goes A X → A → Response → X
  pub reply : (List Reply → Goes A X) → WorldState → A → List Reply → X
  pub taken : (go : Goes A X) (old : List FrameState) (phase : Phase) (common : Common) (course : Course) (settled : RuleResult) →
      after go (kept common) (turn_taken (standing k w old phase common) k [] (turn_by_rule course settled))
      ≡ go (took_world (standing k w old phase common) k course settled) (kept (common_by k common course settled.rule_state settled.log))
  pub refused : (go : Goes A X) (common : Common) (why : Refusal) → after go (kept common) (Refused why) ≡ seen Unfed
  pub unfed : (go : List Reply → Goes A X) (world : WorldState) (common : Common) → reply go world (kept common) [] ≡ seen Unfed
  pub fed : (go : List Reply → Goes A X) (world : WorldState) (common : Common) (first : Reply) (answers : List Reply) →
      reply go world (kept common) (first ∷ answers) ≡ after (go answers) (kept common) (step_of world (Answer k first))

-- the world continues as the shell does
abbrev pub Same : {A X : Type 0} (k : ℕ) (w : WorldState) → Fold A X k w → Goes A X → Go → Type 0
Same k w fold go on = (frames : List FrameState) (phase : Phase) (common : Common) → Stands k common →
    go (world_of k w frames phase common) (fold.kept common) ≡ fold.seen (on frames phase common)

-- an event after which the code rule makes this of what was passed on
took-rules : {A X : Type 0} (k : ℕ) (w : WorldState) (fold : Fold A X k w) (go : Goes A X) (on : Go) (old : List FrameState) (phase : Phase) (common : Common) (course : Course)
    (rule : RuleState → RuleResult) → Stands k common →
    ((bytes : Bytes) (advanced_frame : List Renamed) (rule_state : RuleState) → rule (front bytes advanced_frame rule_state) ≡ fronted bytes advanced_frame (rule rule_state)) →
    Same k w fold go on →
    fold.after go (fold.kept common) (turn_taken (standing k w old phase common) k [] (turn_by_rule course (rule (rule_state_of course))))
    ≡ fold.seen (go_by k on (common_after_event common course) (rule (common_after_event common course).rule_state))
took-rules k w fold go on old phase common course rule stands fronts same =
    let advanced_frame = moved_objects common.shared (shared_after_event course) course.renamed in
    let settled = rule (rule_state_of course) in
    rw (
      fold.taken go old phase common course settled,
      fronts common.rule_state.printed advanced_frame (rule_state_of course),
      world-same k w old phase common course settled.frames settled.phase settled.rule_state settled.log stands,
    )
    (same settled.frames settled.phase (common_by k common course settled.rule_state settled.log)
    (stands-again k common course (front common.rule_state.printed advanced_frame settled.rule_state) settled.log stands))

-- an event that results in a completion
took-does : {A X : Type 0} (k : ℕ) (w : WorldState) (fold : Fold A X k w) (go : Goes A X) (on : Go) (old : List FrameState) (phase : Phase) (common : Common) (completion : Completion)
    (frames : List FrameState) → Stands k common → Same k w fold go on →
    fold.after go (fold.kept common) (turn_taken (standing k w old phase common) k [] (turn_of_completion completion frames)) ≡ fold.seen (does k on frames common completion)
took-does k w fold go on old phase common completion frames stands same =
    took-rules k w fold go on old phase common (course_of completion) (code_rule_of completion frames) stands
    (λ bytes advanced_frame rule_state. ruled-front bytes advanced_frame completion frames rule_state) same

-- the world's turn of the shell
pub turn-is : (k : ℕ) (w : WorldState) (frames : List FrameState) (phase : Phase) (common : Common) → Stands k common →
    step_of (standing k w frames phase common) (Turn k)
    ≡ turning_response (standing k w frames phase common) k common.rule_state.parts.codes
    (flagged_turning common.flagged no_input frames (start_in k frames phase (common_without_flag common)) phase)
turn-is k w frames phase common stands =
    rw (
      not-over k w frames phase common stands,
      stands-at k w frames phase common stands,
      background k (standing k w frames phase common) (not-first k common stands),
      ap course_without_flag (starts-in k w frames phase common),
    ) refl

-- an answer for it
pub answer-is : (k : ℕ) (w : WorldState) (frames : List FrameState) (phase : Phase) (common : Common) (reply : Reply) → Stands k common →
    step_of (standing k w frames phase common) (Answer k reply)
    ≡ turning_response (standing k w frames phase common) k common.rule_state.parts.codes
    (turning_of_completion no_input frames (answered_in (newest_sink frames) (start_in k frames phase common) phase reply))
answer-is k w frames phase common reply stands =
    rw (
      not-over k w frames phase common stands,
      stands-at k w frames phase common stands,
      background k (standing k w frames phase common) (not-first k common stands),
      starts-in k w frames phase common,
    ) refl

line-same : {A X : Type 0} (k : ℕ) (w : WorldState) (fold : Fold A X k w) (go : Goes A X) (on : Go) (frame : FrameState) (frames : List FrameState) (common : Common)
    (line : Option Text) → Stands k common → Same k w fold go on →
    fold.after go (fold.kept common)
    (turn_taken (standing k w (frame ∷ frames) Ready common) k [] (turn_of_frame frame frames (start_in k (frame ∷ frames) Ready (common_without_flag common)) line))
    ≡ fold.seen (line_event k on frame frames (common_without_flag common) line)
line-same k w fold go on frame frames common None stands same =
    took-does k w fold go on (frame ∷ frames) Ready common (Passes (start_in k (frame ∷ frames) Ready (common_without_flag common))) (frame ∷ frames) stands same
line-same k w fold go on frame frames common (Some line) stands same =
    took-does k w fold go on (frame ∷ frames) Ready common
    (line_completion line (here_of (advanced_frame frame ∷ frames)) (start_in k (frame ∷ frames) Ready (common_without_flag common))) (advanced_frame frame ∷ frames) stands same

-- a turn, which may find the flag
turn-same : {A X : Type 0} (k : ℕ) (w : WorldState) (fold : Fold A X k w) (go : Goes A X) (on : Go) (frames : List FrameState) (common : Common) (phase : Phase) (queue : List (List ℕ))
    (turned : TurnResult) (work : Common → Lone) → Stands k common → Same k w fold go on →
    turning_in_phase no_input frames (start_in k frames phase (common_without_flag common)) phase ≡ Turned queue turned →
    fold.after go (fold.kept common)
    (turning_response (standing k w frames phase common) k common.rule_state.parts.codes (turning_in_phase no_input frames (start_in k frames phase (common_without_flag common)) phase))
    ≡ fold.seen (work (common_without_flag common)) →
    fold.after go (fold.kept common) (step_of (standing k w frames phase common) (Turn k)) ≡ fold.seen (turn_event k on frames common work)
turn-same k w fold go on frames common phase queue turned work stands same takes plain =
    rw (turn-is k w frames phase common stands)
    (elim (cases_Bool (common.flagged && has_script frames)) [
      | inl e ↦ rw (e, takes)
          (took-rules k w fold go on frames phase common (with_bytes_printed break_text (start_in k frames phase (common_without_flag common))) (end_at_break frames) stands
          (λ bytes advanced_frame rule_state. broken-front bytes advanced_frame frames rule_state) same)
      | inr e ↦ rw e plain
    ])

completion-same : {A X : Type 0} (k : ℕ) (w : WorldState) (fold : Fold A X k w) (go : Goes A X) (on : Go) (frames : List FrameState) (phase : Phase) (common : Common)
    (completion : Option Completion) → Stands k common → Same k w fold go on →
    fold.after go (fold.kept common)
    (turning_response (standing k w frames phase common) k common.rule_state.parts.codes (turning_of_completion no_input frames completion))
    ≡ fold.seen (completion_event k on frames common completion)
completion-same k w fold go on frames phase common None stands same = fold.refused go common _
completion-same k w fold go on frames phase common (Some completion) stands same = took-does k w fold go on frames phase common completion frames stands same

reply-same : {A X : Type 0} (k : ℕ) (w : WorldState) (fold : Fold A X k w) (go : List Reply → Goes A X) (on : List Reply → Go) (frames : List FrameState) (phase : Phase)
    (common : Common) (answers : List Reply) → Stands k common →
    ((answers : List Reply) → Same k w fold (go answers) (on answers)) →
    fold.reply go (standing k w frames phase common) (fold.kept common) answers ≡ fold.seen (reply_event k on frames phase common answers)
reply-same k w fold go on frames phase common [] stands same = fold.unfed go (standing k w frames phase common) common
reply-same k w fold go on frames phase common (reply ∷ answers) stands same =
    rw (fold.fed go (standing k w frames phase common) common reply answers, answer-is k w frames phase common reply stands)
    (completion-same k w fold (go answers) (on answers) frames phase common
    (answered_in (newest_sink frames) (start_in k frames phase common) phase reply) stands (same answers))

-- an event of the shell
pub event-same : {A X : Type 0} (k : ℕ) (w : WorldState) (fold : Fold A X k w) (go : List Reply → Goes A X) (on : List Reply → Go) (answers : List Reply)
    (frame : FrameState) (frames : List FrameState) (common : Common) (phase : Phase) →
    Stands k common → ((answers : List Reply) → Same k w fold (go answers) (on answers)) →
    (if is_hosted phase then fold.reply go (standing k w (frame ∷ frames) phase common) (fold.kept common) answers
    else fold.after (go answers) (fold.kept common) (step_of (standing k w (frame ∷ frames) phase common) (Turn k)))
    ≡ fold.seen (event_in k on answers frame frames common phase)
event-same k w fold go on answers frame frames common Ready stands same =
    turn-same k w fold (go answers) (on answers) (frame ∷ frames) common Ready _ _
    (λ now. line_event k (on answers) frame frames now (slice_get frame.lines frame.position)) stands (same answers) refl
    (line-same k w fold (go answers) (on answers) frame frames common (slice_get frame.lines frame.position) stands (same answers))
event-same k w fold go on answers frame frames common (GoingOn parted) stands same =
    turn-same k w fold (go answers) (on answers) (frame ∷ frames) common (GoingOn parted) _ _
    (λ now. does k (on answers) (frame ∷ frames) now (parted_completion parted (here_of (frame ∷ frames)) (start_in k (frame ∷ frames) (GoingOn parted) now))) stands (same answers) refl
    (took-does k w fold (go answers) (on answers) (frame ∷ frames) (GoingOn parted) common _ (frame ∷ frames) stands (same answers))
event-same k w fold go on answers frame frames common (Waiting (ForAnswer asking)) stands same =
    turn-same k w fold (go answers) (on answers) (frame ∷ frames) common (Waiting (ForAnswer asking)) _ _
    (λ now. does k (on answers) (frame ∷ frames) now (answer_completion [] asking (here_of (frame ∷ frames)) (start_in k (frame ∷ frames) (Waiting (ForAnswer asking)) now))) stands (same answers) refl
    (took-does k w fold (go answers) (on answers) (frame ∷ frames) (Waiting (ForAnswer asking)) common _ (frame ∷ frames) stands (same answers))
event-same k w fold go on answers frame frames common (Waiting (ForLines gathering)) stands same =
    turn-same k w fold (go answers) (on answers) (frame ∷ frames) common (Waiting (ForLines gathering)) _ _
    (λ now. does k (on answers) (frame ∷ frames) now (gathered_completion gathering (newest_sink (frame ∷ frames)) (start_in k (frame ∷ frames) (Waiting (ForLines gathering)) now))) stands (same answers) refl
    (took-does k w fold (go answers) (on answers) (frame ∷ frames) (Waiting (ForLines gathering)) common
    (gathered_completion gathering (newest_sink (frame ∷ frames)) (start_in k (frame ∷ frames) (Waiting (ForLines gathering)) (common_without_flag common)))
    (frame ∷ frames) stands (same answers))
event-same k w fold go on answers frame frames common (Waiting (ForStart starting)) stands same =
    reply-same k w fold go on (frame ∷ frames) (Waiting (ForStart starting)) common answers stands same
event-same k w fold go on answers frame frames common (Waiting (ForPiece child)) stands same =
    reply-same k w fold go on (frame ∷ frames) (Waiting (ForPiece child)) common answers stands same
event-same k w fold go on answers frame frames common (Waiting (ForEnd child)) stands same =
    reply-same k w fold go on (frame ∷ frames) (Waiting (ForEnd child)) common answers stands same

-- the world and what was printed, after each event
abbrev execs : (k : ℕ) (w : WorldState) → Fold Bytes Exec k w
execs k w = record {
  kept = λ common. common.rule_state.printed;
  seen = lift k w;
  after = exec_step;
  reply = λ go world printed answers. reply_next go k world printed answers;
  taken = λ go old phase common course settled. refl;
  refused = λ go common why. refl;
  unfed = λ go world common. refl;
  fed = λ go world common first answers. refl;
}

pub alone-exec : (k : ℕ) (w : WorldState) (n : ℕ) (answers : List Reply) → Same k w (execs k w) (exec_alone k n answers) (exec k n answers)
alone-exec k w zero answers [] phase common stands = rw (ended-at k w common stands) refl
alone-exec k w zero answers (frame ∷ frames) phase common stands = rw (stands-at k w (frame ∷ frames) phase common stands) refl
alone-exec k w (suc n) answers [] phase common stands = rw (ended-at k w common stands) refl
alone-exec k w (suc n) answers (frame ∷ frames) phase common stands =
    rw (stands-at k w (frame ∷ frames) phase common stands)
    (event-same k w (execs k w) (exec_alone k n) (exec k n) answers frame frames common phase stands (λ rest. alone-exec k w n rest))
