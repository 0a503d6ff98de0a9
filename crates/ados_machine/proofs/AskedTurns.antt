-- A turn asks a launcher only for a start, and passes its course on.
use Rattle.std.proofs.Common.{◌≡◌, ℕ, List, [], ◌∷◌, Bool, true, false, Option, Some, None, refl, inl, inr, slice_get, ◌&&◌, if◌then◌else◌}
use Rattle.std.proofs.lemmas.Bool.{cases_Bool}
use Rattle.ados_line.specs.Expansion.{expand_raw_line, resume_line}
use Rattle.ados_flow.specs.Gathering.{before_plus}
use Rattle.ados_flow.specs.Frames.{FrameState, advanced_frame}
use Rattle.ados_machine.specs.Phases.{Phase}
use Rattle.ados_machine.specs.Phases as phase
use Rattle.ados_machine.specs.declared.phases.Wait.{Wait}
use Rattle.ados_machine.specs.declared.phases.Wait.TheVariants.{ForAnswer, ForLines, ForStart, ForPiece, ForEnd}
use Rattle.ados_machine.specs.Course.{Course, with_no_device_used, with_bytes_printed}
use Rattle.ados_machine.specs.Completions.{Completion, Passes, Answers, Jumps, Calls, Ticks, Waits}
use Rattle.ados_machine.specs.NewShells.{gathered_completion, joined_completion}
use Rattle.ados_machine.specs.Lines.{with_variables, course_variables, line_completion, parted_completion, answer_completion}
use Rattle.ados_machine.specs.CodeRule.{RuleState, RuleResult}
use Rattle.ados_machine.specs.Apply.{TurnResult, here_of, frames_at_line, rule_state_of, turn_by_rule, turn_of_completion}
use Rattle.ados_machine.specs.Breaks.{break_text, has_script}
use Rattle.ados_machine.specs.declared.refusals.Refusal.TheVariants.{NotReady}
use Rattle.ados_machine.specs.Turning.{turning_at_break, flagged_turning, Input, Turning, Refuses, Ends, Turned, turn_of_frame, turning_at_end, console_turning, ready_turning, input_turning, turning_in_phase}
use Rattle.ados_machine.specs.World.{is_for_input}
use Rattle.ados_machine.proofs.Rests.{broken-rests, IsIdle, Rests, passed-rests, finished-rests, called-rests, ticked-rests}
use Rattle.ados_machine.proofs.Asked.{Never, HandsWhile, Hands, never-hands, joined_by-never, answer-never, expanded-hands}

-- the same of the phase that a turn leaves
abbrev pub HandsIn : Course → Course → Phase → Type 0
HandsIn course now phase.Ready = Unit {0}
HandsIn course now (phase.GoingOn parted) = Unit {0}
HandsIn course now (phase.Waiting wait) = HandsWhile course now wait

abbrev pub TurnHands : Course → TurnResult → Type 0
TurnHands course t = HandsIn course t.course t.phase

idle-hands : (from now : Course) (left : Phase) → IsIdle left → HandsIn from now left
idle-hands from now phase.Ready idle = tt
idle-hands from now (phase.GoingOn parted) idle = tt
idle-hands from now (phase.Waiting wait) idle = absurd idle

rule-hands : (from course : Course) (rule_state : RuleState) (settled : RuleResult) → Rests rule_state settled → TurnHands from (turn_by_rule course settled)
rule-hands from course rule_state settled rests = idle-hands from (turn_by_rule course settled).course settled.phase rests.idle

pub settle-hands : (from : Course) (completion : Completion) (frames : List FrameState) → Hands from completion → TurnHands from (turn_of_completion completion frames)
settle-hands from (Passes course) frames hands = rule-hands from course _ _ (passed-rests frames (rule_state_of course))
settle-hands from (Answers word answer quits course) frames hands =
    rule-hands from course _ _ (finished-rests word answer quits frames (rule_state_of course))
settle-hands from (Jumps word answer line course) frames hands =
    rule-hands from course _ _ (finished-rests word answer false (frames_at_line line frames) (rule_state_of course))
settle-hands from (Calls word output script course) frames hands =
    rule-hands from course _ _ (called-rests word output script frames (rule_state_of course))
settle-hands from (Ticks before command after course) frames hands =
    rule-hands from course _ _ (ticked-rests before command after frames (rule_state_of course))
settle-hands from (Waits wait course) frames hands = hands

-- a turn by the shell's phase
abbrev pub TurningHands : Course → Turning → Type 0
TurningHands course (Turned queue t) = TurnHands course t
TurningHands course (Refuses why) = Unit {0}
TurningHands course Ends = Unit {0}

at_end-hands : (course : Course) (is_ended : Bool) (turning_in_phase : Turning) → TurningHands course turning_in_phase → TurningHands course (turning_at_end is_ended turning_in_phase)
at_end-hands course true turning_in_phase hands = hands
at_end-hands course false turning_in_phase hands = tt

line-hands : (raw : List ℕ) (frames : List FrameState) (course : Course) →
    TurnHands (with_no_device_used course) (turn_of_completion (line_completion raw (here_of frames) course) frames)
line-hands raw frames course =
    settle-hands (with_no_device_used course) (line_completion raw (here_of frames) course) frames
    (expanded-hands (expand_raw_line course.parts.settings.aliases (course_variables course) raw) (here_of frames) (with_variables raw course))

frame-hands : (frame : FrameState) (frames : List FrameState) (course : Course) (line : Option (List ℕ)) →
    TurnHands (with_no_device_used course) (turn_of_frame frame frames course line)
frame-hands frame frames course None = settle-hands (with_no_device_used course) (Passes course) (frame ∷ frames) tt
frame-hands frame frames course (Some line) = line-hands line (advanced_frame frame ∷ frames) course

console-hands : (queue : List (List ℕ)) (is_ended : Bool) (course : Course) →
    TurningHands (with_no_device_used course) (console_turning queue is_ended course)
console-hands [] is_ended course = at_end-hands (with_no_device_used course) is_ended Ends tt
console-hands (line ∷ rest) is_ended course = line-hands line [] course

ready-hands : (input : Input) (frames : List FrameState) (course : Course) → TurningHands (with_no_device_used course) (ready_turning input frames course)
ready-hands input [] course = console-hands input.queue input.is_ended course
ready-hands input (frame ∷ frames) course = frame-hands frame frames course (slice_get frame.lines frame.position)

input-hands : (queue : List (List ℕ)) (is_ended : Bool) (frames : List FrameState) (course : Course) (by_line : List ℕ → Completion) (by_end : Completion) →
    ((line : List ℕ) → Never (by_line line)) → Never by_end → TurningHands course (input_turning queue is_ended frames by_line by_end)
input-hands [] is_ended frames course by_line by_end lines end =
    at_end-hands course is_ended (Turned [] (turn_of_completion by_end frames)) (settle-hands course by_end frames (never-hands course by_end end))
input-hands (line ∷ rest) is_ended frames course by_line by_end lines end =
    settle-hands course (by_line line) frames (never-hands course (by_line line) (lines line))

pub turning-hands : (input : Input) (frames : List FrameState) (course : Course) (now : Phase) →
    TurningHands (with_no_device_used course) (turning_in_phase input frames course now)
turning-hands input frames course phase.Ready = ready-hands input frames course
turning-hands input frames course (phase.GoingOn parted) =
    settle-hands (with_no_device_used course) (parted_completion parted (here_of frames) course) frames
    (expanded-hands (resume_line parted.before parted.output parted.after) (here_of frames) course)
turning-hands input frames course (phase.Waiting (ForAnswer asking)) =
    let here = here_of frames in
    input-hands input.queue input.is_ended frames (with_no_device_used course) (λ line. answer_completion line asking here course) (answer_completion [] asking here course)
    (λ line. answer-never line asking here course) (answer-never [] asking here course)
turning-hands input frames course (phase.Waiting (ForLines gathering)) =
    let sink = (here_of frames).sink in
    input-hands input.queue input.is_ended frames (with_no_device_used course) (λ line. joined_completion gathering line sink course) (gathered_completion gathering sink course)
    (λ line. joined_by-never gathering line sink course (before_plus line)) tt
turning-hands input frames course (phase.Waiting (ForStart starting)) = tt
turning-hands input frames course (phase.Waiting (ForPiece child)) = tt
turning-hands input frames course (phase.Waiting (ForEnd child)) = tt

-- a turn that may find a flag
in_place-hands : (turning_in_phase : Turning) (input : Input) (frames : List FrameState) (from course : Course) → TurningHands from (turning_at_break turning_in_phase input frames course)
in_place-hands (Refuses why) input frames from course = tt
in_place-hands Ends input frames from course = tt
in_place-hands (Turned queue t) input frames from course =
    rule-hands from (with_bytes_printed break_text course) _ _ (broken-rests frames (rule_state_of (with_bytes_printed break_text course)))

pub flagged-hands : (flagged : Bool) (input : Input) (frames : List FrameState) (course : Course) (now : Phase) →
    TurningHands (with_no_device_used course) (flagged_turning flagged input frames course now)
flagged-hands flagged input frames course now =
    elim (cases_Bool (flagged && has_script frames)) [
      | inl e ↦ rw e (in_place-hands (turning_in_phase input frames course now) input frames (with_no_device_used course) course)
      | inr e ↦ rw e (turning-hands input frames course now)
    ]

either-way : (b : Bool) → (if b then Refuses NotReady else Refuses NotReady) ≡ Refuses NotReady
either-way true = refl
either-way false = refl

-- a shell that waits for a launcher takes none
pub flagged-refused : (flagged : Bool) (input : Input) (frames : List FrameState) (course : Course) (wait : Wait) → is_for_input wait ≡ false →
    flagged_turning flagged input frames course (phase.Waiting wait) ≡ Refuses NotReady
flagged-refused flagged input frames course (ForAnswer asking) e = cc
flagged-refused flagged input frames course (ForLines gathering) e = cc
flagged-refused flagged input frames course (ForStart starting) e = either-way (flagged && has_script frames)
flagged-refused flagged input frames course (ForPiece child) e = either-way (flagged && has_script frames)
flagged-refused flagged input frames course (ForEnd child) e = either-way (flagged && has_script frames)
