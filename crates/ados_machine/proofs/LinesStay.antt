-- No event changes the lines of a frame.
use Rattle.std.proofs.Common.{◌≡◌, ◌≢◌, ◌∙◌, sym, ℕ, zero, suc, List, [], ◌∷◌, drop, Bool, false, length, nat_le, Option, Some, None, refl, ap, inl, inr}
use Rattle.std.proofs.lemmas.Bool.{cases_Bool, cases_eq}
use Rattle.ados_text.specs.Text.{Text}
use Rattle.ados_text.specs.declared.codes.Code.{Code}
use Rattle.ados_text.specs.declared.codes.TheConstants.Result2.{TOO_MANY_LEVELS}
use Rattle.ados_find.specs.declared.codes.Codes.{Codes}
use Rattle.ados_find.specs.declared.outcomes.Breaking.{Breaking}
use Rattle.ados_find.specs.declared.outcomes.Renamed.{Renamed}
use Rattle.ados_find.specs.declared.targets.Target.{Target}
use Rattle.ados_find.specs.Codes.{fail_codes}
use Rattle.ados_flow.specs.declared.called.Called.{Called}
use Rattle.ados_flow.specs.declared.kinds.FrameKind.{FrameKind}
use Rattle.ados_flow.specs.declared.kinds.FrameKind.TheVariants.{Script, RunCommands, Tick}
use Rattle.ados_flow.specs.Frames.{FrameState, frame_limit, new_frame, is_over, is_ended, caller_word, limit_above_frames, script_count, last_codes}
use Rattle.ados_machine.specs.declared.events.Event.{Event}
use Rattle.ados_machine.specs.declared.events.BreakKind.{BreakKind}
use Rattle.ados_machine.specs.Answers.{answered_in}
use Rattle.ados_machine.specs.Apply.{TurnResult, frames_at_line, rule_state_of, turn_of_completion}
use Rattle.ados_machine.specs.Breaks.{break_text, kept_after_break, kind_breaks}
use Rattle.ados_machine.specs.Called.{lines_in, LinesStay, FramesKeepTheirLines}
use Rattle.ados_machine.specs.Carrying.{carried_or_same}
use Rattle.ados_machine.specs.CodeRule.{RuleState, RuleResult, with_answer, with_fault_line, with_limit, after_end, after_break, finish, pass_line, end_at_break}
use Rattle.ados_machine.specs.Completions.{Completion, Passes, Answers, Jumps, Calls, Ticks, Waits}
use Rattle.ados_machine.specs.Course.{Course, with_bytes_printed}
use Rattle.ados_machine.specs.Shells.{ShellState}
use Rattle.ados_machine.specs.Sinks.{newest_sink}
use Rattle.ados_machine.specs.Step.{Response, Refused, Accepted, shell_after_turn, moved_at_turn, turning_response, break_response, start, course_without_flag, step_of}
use Rattle.ados_machine.specs.Trace.{shell_frames}
use Rattle.ados_machine.specs.Turning.{Turning, Refuses, Ends, Turned, turn_at_break}
use Rattle.ados_machine.specs.World.{WorldState, numbered_shell, input_of}
use Rattle.ados_machine.proofs.Shells.{found, shells_after, found-left, found-left_other, left-same, found-set_same, found-set_other, found-broken, broken-frames, broken_for, runs_pos}
use Rattle.ados_machine.proofs.StepCases.{of-step}
use Rattle.ados_machine.proofs.TurnCases.{TurnIs, flagged-is, replied-is}

-- of these frames the newest have ended
abbrev Drops : List FrameState → List FrameState → Type 0
Drops before after = (n : ℕ) × (lines_in after ≡ drop n (lines_in before))

one-more : (frame : FrameState) (before after : List FrameState) → Drops before after → Drops (frame ∷ before) after
one-more frame before after drops = (suc drops.0, drops.1)

end-drops : (kind : FrameKind) (further : RuleResult) (frames : List FrameState) (rule_state : RuleState) → Drops frames further.frames →
    Drops frames (after_end kind further frames rule_state).frames
end-drops (Script name command) further frames rule_state drops = drops
end-drops RunCommands further frames rule_state drops = (0, refl)
end-drops (Tick before after) further frames rule_state drops = (0, refl)

finish-drops : (word : Text) (answered : Codes) (quits : Bool) (frames : List FrameState) (rule_state : RuleState) →
    Drops frames (finish word answered quits frames rule_state).frames
finish-drops word answered quits [] rule_state = (0, refl)
finish-drops word answered quits (frame ∷ frames) rule_state =
    let done = with_answer word answered rule_state in
    let below = with_limit (limit_above_frames frames frame.limit) done in
    let further = finish (caller_word frame.kind) answered false frames below in
    elim (cases_Bool (is_ended quits answered rule_state.parts.limit frame)) [
      | inl e ↦ rw e (one-more frame frames _ (end-drops frame.kind further frames done (finish-drops (caller_word frame.kind) answered false frames below)))
      | inr e ↦ rw e (0, refl)
    ]

passed-drops : (frames : List FrameState) (rule_state : RuleState) → Drops frames (pass_line frames rule_state).frames
passed-drops [] rule_state = (0, refl)
passed-drops (frame ∷ frames) rule_state =
    let below = with_limit (limit_above_frames frames frame.limit) rule_state in
    let further = finish (caller_word frame.kind) (last_codes frame.last) false frames below in
    elim (cases_Bool (is_over frame)) [
      | inl e ↦ rw e (one-more frame frames _ (end-drops frame.kind further frames rule_state (finish-drops (caller_word frame.kind) (last_codes frame.last) false frames below)))
      | inr e ↦ rw e (0, refl)
    ]

after_break-drops : (scripts : ℕ) (kind : FrameKind) (limit : Code) (further : RuleResult) (frames : List FrameState) (rule_state : RuleState) → Drops frames further.frames →
    Drops frames (after_break scripts kind limit further frames rule_state).frames
after_break-drops zero kind limit further frames rule_state drops = finish-drops (caller_word kind) _ false frames (with_limit (limit_above_frames frames limit) rule_state)
after_break-drops (suc scripts) kind limit further frames rule_state drops = drops

broken-drops : (frames : List FrameState) (rule_state : RuleState) → Drops frames (end_at_break frames rule_state).frames
broken-drops [] rule_state = (0, refl)
broken-drops (frame ∷ frames) rule_state =
    let now = record rule_state { kept = kept_after_break frame.kind rule_state.kept } in
    one-more frame frames _ (after_break-drops (script_count frames) frame.kind frame.limit (end_at_break frames now) frames rule_state (broken-drops frames now))

-- a turn
abbrev KeepsLines : List FrameState → TurnResult → Type 0
KeepsLines frames t = LinesStay (lines_in frames) (lines_in t.frames)

-- a frame more, which may have ended at once
pushed : (frame : FrameState) (frames after : List FrameState) (n : ℕ) → lines_in after ≡ drop n (lines_in (frame ∷ frames)) → LinesStay (lines_in frames) (lines_in after)
pushed frame frames after zero is = inr ((frame.kind, frame.lines), is)
pushed frame frames after (suc n) is = inl (n, is)

jump-lines : (line : ℕ) (frames : List FrameState) → lines_in (frames_at_line line frames) ≡ lines_in frames
jump-lines line [] = refl
jump-lines line (frame ∷ frames) = refl

called-lines : (word : Text) (output : Option Target) (script : Called) (course : Course) (frames : List FrameState) → KeepsLines frames (turn_of_completion (Calls word output script course) frames)
called-lines word output script course frames =
    let frame = new_frame (Script script.name word) script.script course.parts.limit output in
    let passed = passed-drops (frame ∷ frames) (rule_state_of course) in
    elim (cases_Bool (nat_le frame_limit (length frames))) [
      | inl e ↦ rw e (inl (finish-drops word (fail_codes TOO_MANY_LEVELS) false frames (with_fault_line word TOO_MANY_LEVELS (rule_state_of course))))
      | inr e ↦ rw e (pushed frame frames _ passed.0 passed.1)
    ]

settle-lines : (completion : Completion) (frames : List FrameState) → KeepsLines frames (turn_of_completion completion frames)
settle-lines (Passes course) frames = inl (passed-drops frames (rule_state_of course))
settle-lines (Answers word answered quits course) frames = inl (finish-drops word answered quits frames (with_fault_line word answered.result2 (rule_state_of course)))
settle-lines (Jumps word answered line course) frames =
    let drops = finish-drops word answered false (frames_at_line line frames) (with_fault_line word answered.result2 (rule_state_of course)) in
    inl (drops.0, drops.1 ∙ ap (drop drops.0) (jump-lines line frames))
settle-lines (Calls word output script course) frames = called-lines word output script course frames
settle-lines (Ticks before command after course) frames = inr ((Tick before after, command ∷ []), refl)
settle-lines (Waits wait course) frames = inl (0, refl)

break-lines : (frames : List FrameState) (course : Course) → KeepsLines frames (turn_at_break frames course)
break-lines frames course = inl (broken-drops frames (rule_state_of (with_bytes_printed break_text course)))

-- an event
abbrev KeepsAll : WorldState → Response → Type 0
KeepsAll w (Refused why) = Unit {0}
KeepsAll w (Accepted world out items) = (j : ℕ) (old now : ShellState) →
    numbered_shell w j ≡ Some old → numbered_shell world j ≡ Some now → LinesStay (lines_in old.frames) (lines_in now.frames)

same-lines : (old : ShellState) (o : Option ShellState) (now : ShellState) → shell_frames o ≡ old.frames → o ≡ Some now → LinesStay (lines_in old.frames) (lines_in now.frames)
same-lines old o now same is = inl (0, ap lines_in (ap shell_frames (sym is) ∙ same))

others-frames : (shells : List (Option ShellState)) (k : ℕ) (shell : ShellState) (moved : List Renamed) (t : TurnResult) (j : ℕ) (other : ShellState) →
    found shells k ≡ Some shell → j ≢ k → found shells j ≡ Some other → shell_frames (found (shells_after shells k moved t) j) ≡ other.frames
others-frames shells k shell moved t j other is differ there =
    ap shell_frames (found-left_other shells k shell moved t j other is differ there)
    ∙ (broken-frames (broken_for t.course.breaking j) (Some (carried_or_same moved other)) ∙ frames-same moved other)
  where
    frames-same : (moved : List Renamed) (shell : ShellState) → (carried_or_same moved shell).frames ≡ shell.frames
    frames-same [] shell = refl
    frames-same (renamed ∷ more) shell = refl

some-same : (o : Option ShellState) (a b : ShellState) → o ≡ Some a → o ≡ Some b → a ≡ b
some-same o a b e f = cc

own-lines : (k : ℕ) (moved : List Renamed) (shell old now : ShellState) (t : TurnResult) → shell ≡ old → KeepsLines shell.frames t → shell_after_turn k moved t ≡ Some now →
    LinesStay (lines_in old.frames) (lines_in now.frames)
own-lines k moved shell old now t same keeps left = rw (sym same, left-same (λ s. s.frames) (λ moved shell. refl) k moved t now left) keeps

applied-lines : (w : WorldState) (k : ℕ) (shell : ShellState) (turning : Turning) → numbered_shell w k ≡ Some shell → TurnIs KeepsLines shell.frames turning →
    KeepsAll w (turning_response w k shell.parts.codes turning)
applied-lines w k shell (Refuses why) is keeps = tt
applied-lines w k shell Ends is keeps = λ j old now before after.
    elim (cases_eq j k) [
      | inl same ↦ (let gone = found-set_same w.shells k shell None is in absurd (none-some now (sym gone ∙ (rw same at after))))
      | inr differ ↦ same-lines old _ now (ap shell_frames (found-set_other w.shells k None j differ (runs_pos w.shells k shell is) ∙ before)) after
    ]
  where
    none-some : (now : ShellState) → None ≡ Some now → ⊥
    none-some now e = cc
applied-lines w k shell (Turned queue t) is keeps = λ j old now before after.
    let moved = moved_at_turn w t in
    elim (cases_eq j k) [
      | inl same ↦ own-lines k moved shell old now t (some-same (numbered_shell w k) shell old is (rw same at before)) keeps
          (sym (found-left w.shells k shell moved t is) ∙ (rw same at after))
      | inr differ ↦ same-lines old _ now (others-frames w.shells k shell moved t j old is differ before) after
    ]

broken-lines : (w : WorldState) (k : ℕ) (kind : BreakKind) (o : Option ShellState) → KeepsAll w (break_response w k kind o)
broken-lines w k kind None = tt
broken-lines w k kind (Some shell) = λ j old now before after.
    let breaking : Option Breaking = Some (record { shell = k; breaks = kind_breaks kind }) in
    same-lines old _ now (ap shell_frames (found-broken breaking w.shells j) ∙ (broken-frames (broken_for breaking j) (found w.shells j) ∙ ap shell_frames before)) after

step-lines : (w : WorldState) (event : Event) → KeepsAll w (step_of w event)
step-lines w event = of-step w (λ event response. KeepsAll w response) (record {
  refused = λ event why. tt;
  typed = λ line. (λ j old now before after. same-lines old _ now (ap shell_frames before) after);
  ended = λ j old now before after. same-lines old _ now (ap shell_frames before) after;
  turned = λ k shell is. applied-lines w k shell _ is (flagged-is KeepsLines settle-lines (λ frame frames t keeps. keeps) break-lines shell.flagged (input_of w k) shell.frames (course_without_flag (start w shell)) shell.phase);
  answered = λ k reply shell is. applied-lines w k shell _ is
      (replied-is KeepsLines settle-lines (λ frame frames t keeps. keeps) (input_of w k) shell.frames (answered_in (newest_sink shell.frames) (start w shell) shell.phase reply));
  broken = λ k kind shell is. broken-lines w k kind (Some shell);
}) event

pub frames-keep : FramesKeepTheirLines
frames-keep w event world out items k old now is before after =
    let keeps : KeepsAll w (Accepted world out items) = rw is at (step-lines w event) in
    keeps k old now before after
