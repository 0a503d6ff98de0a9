-- What a failed start does to the frames: the answer is finished, and the shell continues or ends.
use Rattle.std.proofs.Common.{◌≡◌, ℕ, List, [], ◌∷◌, Bool, true, false, Option, Some, None, refl, inl, inr, ◌||◌, ◌&&◌}
use Rattle.std.proofs.lemmas.Bool.{cases_Bool}
use Rattle.ados_text.specs.declared.codes.Result2.{Result2}
use Rattle.ados_find.specs.declared.codes.Codes.{Codes}
use Rattle.ados_find.specs.Codes.{fail_codes}
use Rattle.ados_flow.specs.declared.kinds.FrameKind.{FrameKind}
use Rattle.ados_flow.specs.declared.kinds.FrameKind.TheVariants.{Script, RunCommands, Tick}
use Rattle.ados_flow.specs.Frames.{FrameState, is_ended, is_over, is_script, caller_word, limit_above_frames, new_record}
use Rattle.ados_machine.specs.declared.answers.Answer.{Answer as Reply}
use Rattle.ados_machine.specs.declared.answers.Answer.TheVariants.{Started, NotFound, Denied, Memory, Other, «Bytes» as Piece, End, PipeFault, Exit, Signal, WaitFault}
use Rattle.ados_machine.specs.Phases.{Phase, Ready, GoingOn, Waiting}
use Rattle.ados_machine.specs.declared.phases.Wait.{Wait}
use Rattle.ados_machine.specs.declared.phases.Wait.TheVariants.{ForStart, ForPiece, ForEnd}
use Rattle.ados_machine.specs.Shells.{ShellState}
use Rattle.ados_machine.specs.Course.{Course, shared_after_event}
use Rattle.ados_machine.specs.Completions.{Completion, refusal_completion}
use Rattle.ados_machine.specs.CodeRule.{RuleState, RuleResult, with_fault_line, with_answer, with_limit, after_end, finish}
use Rattle.ados_machine.specs.Apply.{TurnResult, rule_state_of, turn_of_completion}
use Rattle.ados_machine.specs.Answers.{answered_completion, answered_in}
use Rattle.ados_machine.specs.Sinks.{Sink}
use Rattle.ados_machine.specs.Step.{shell_of_turn}
use Rattle.ados_machine.specs.Starts.{IsFailure, IsAfterEnd, HasAnswered, KeepsSettings}

-- the shell that the code rule leaves
abbrev pub settled_shell : Bool → RuleResult → ShellState
settled_shell flagged settled =
    record { frames = settled.frames; phase = settled.phase; parts = settled.rule_state.parts; kept = settled.rule_state.kept; flagged = flagged }

-- what the code rule changes
pub record Rules (flagged : Bool) (frames : List FrameState) (rule_state : RuleState) (settled : RuleResult) : Type 0 where
  pub parts : KeepsSettings rule_state.parts settled.rule_state.parts
  pub answered : HasAnswered frames rule_state.kept (settled_shell flagged settled)

-- what it changes after the end of a frame
record EndRules (flagged : Bool) (kind : FrameKind) (frames : List FrameState) (rule_state : RuleState) (settled : RuleResult) : Type 0 where
  parts : KeepsSettings rule_state.parts settled.rule_state.parts
  after_last_end : IsAfterEnd kind (HasAnswered frames rule_state.kept (settled_shell flagged settled)) frames rule_state.kept (settled_shell flagged settled)

end-rules : (flagged : Bool) (kind : FrameKind) (further : RuleResult) (frames : List FrameState) (rule_state : RuleState) → Rules flagged frames rule_state further →
    EndRules flagged kind frames rule_state (after_end kind further frames rule_state)
end-rules flagged (Script name command) further frames rule_state rules = record { parts = rules.parts; after_last_end = rules.answered }
end-rules flagged RunCommands further frames rule_state rules = record { parts = refl; after_last_end = (refl, refl, refl) }
end-rules flagged (Tick before after) further frames rule_state rules = record { parts = refl; after_last_end = (refl, refl, refl) }

-- a frame that ends is a script, or has no line left
ends-may : (script over reached : Bool) → (over || (script && reached)) ≡ true → (script || over) ≡ true
ends-may true over reached e = refl
ends-may false true reached e = refl
ends-may false false reached e = e

finish-rules : (flagged : Bool) (word : List ℕ) (answer : Codes) (quits : Bool) (frames : List FrameState) (rule_state : RuleState) →
    Rules flagged frames rule_state (finish word answer quits frames rule_state)
finish-rules flagged word answer quits [] rule_state = record { parts = refl; answered = (refl, refl, refl) }
finish-rules flagged word answer quits (frame ∷ frames) rule_state =
    let done = with_answer word answer rule_state in
    let below = with_limit (limit_above_frames frames frame.limit) done in
    let further = finish (caller_word frame.kind) answer false frames below in
    let more = finish-rules flagged (caller_word frame.kind) answer false frames below in
    let same : Rules flagged frames done further = record { parts = more.parts; answered = more.answered } in
    elim (cases_Bool (is_ended quits answer rule_state.parts.limit frame)) [
      | inl e ↦ rw e
          (let end = end-rules flagged frame.kind further frames done same in
          record { parts = end.parts; answered = inr (ends-may (is_script frame.kind) (is_over frame) _ e, end.after_last_end) })
      | inr e ↦ rw e (record { parts = refl; answered = inl (new_record (frame ∷ frames) answer rule_state.parts.limit, (refl, refl, refl)) })
    ]

-- after a failure an event passes on what it began with, except for the codes
pub record Keeps (frames : List FrameState) (course : Course) (t : TurnResult) : Type 0 where
  pub shared : shared_after_event t.course ≡ shared_after_event course
  pub renamed : t.course.renamed ≡ course.renamed
  pub breaking : t.course.breaking ≡ course.breaking
  pub flagged : t.course.flagged ≡ course.flagged
  pub begun : t.course.begun ≡ course.begun
  pub parts : KeepsSettings course.parts t.course.parts
  pub answered : HasAnswered frames course.kept (shell_of_turn t)

refused-keeps : (word : List ℕ) (fault : Result2) (frames : List FrameState) (course : Course) →
    Keeps frames course (turn_of_completion (refusal_completion word fault course) frames)
refused-keeps word fault frames course =
    let rules = finish-rules course.flagged word (fail_codes fault) false frames (with_fault_line word fault (rule_state_of course)) in
    record { shared = refl; renamed = refl; breaking = refl; flagged = refl; begun = refl; parts = rules.parts; answered = rules.answered }

-- a failure is taken only for a start, and finishes its command
abbrev pub OnlyFinishes : List FrameState → Course → Option Completion → Type 0
OnlyFinishes frames course None = Unit {0}
OnlyFinishes frames course (Some completion) = Keeps frames course (turn_of_completion completion frames)

wait-finishes : (frames : List FrameState) (sink : Sink) (course : Course) (wait : Wait) (reply : Reply) → IsFailure reply →
    OnlyFinishes frames course (answered_completion sink course wait reply)
wait-finishes frames sink course (ForStart starting) NotFound h = refused-keeps starting.word _ frames course
wait-finishes frames sink course (ForStart starting) Denied h = refused-keeps starting.word _ frames course
wait-finishes frames sink course (ForStart starting) Memory h = refused-keeps starting.word _ frames course
wait-finishes frames sink course (ForStart starting) Other h = refused-keeps starting.word _ frames course
wait-finishes frames sink course (ForStart starting) Started h = absurd h
wait-finishes frames sink course (ForPiece child) (Piece bytes) h = absurd h
wait-finishes frames sink course (ForPiece child) End h = absurd h
wait-finishes frames sink course (ForPiece child) PipeFault h = absurd h
wait-finishes frames sink course (ForEnd child) (Exit status) h = absurd h
wait-finishes frames sink course (ForEnd child) Signal h = absurd h
wait-finishes frames sink course (ForEnd child) WaitFault h = absurd h
wait-finishes frames sink course wait reply h = tt

pub failure-finishes : (frames : List FrameState) (sink : Sink) (course : Course) (phase : Phase) (reply : Reply) → IsFailure reply →
    OnlyFinishes frames course (answered_in sink course phase reply)
failure-finishes frames sink course Ready reply h = tt
failure-finishes frames sink course (GoingOn parted) reply h = tt
failure-finishes frames sink course (Waiting wait) reply h = wait-finishes frames sink course wait reply h
