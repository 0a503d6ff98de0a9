-- A turn by what its shell does next, and what holds of each turn by what holds of each completion.
use Rattle.std.proofs.Common.{◌≡◌, List, [], ◌∷◌, Bool, true, false, ◌&&◌, Option, Some, None, refl, inl, inr, slice_get}
use Rattle.std.proofs.lemmas.Bool.{cases_Bool}
use Rattle.ados_text.specs.Text.{Text}
use Rattle.ados_flow.specs.Frames.{FrameState, advanced_frame}
use Rattle.ados_machine.specs.declared.phases.Asking.{Asking}
use Rattle.ados_machine.specs.declared.phases.Child.{Child}
use Rattle.ados_machine.specs.declared.phases.Gathering.{Gathering}
use Rattle.ados_machine.specs.declared.phases.Parted.{Parted}
use Rattle.ados_machine.specs.declared.phases.Starting.{Starting}
use Rattle.ados_machine.specs.declared.phases.Wait.TheVariants.{ForAnswer, ForLines, ForStart, ForPiece, ForEnd}
use Rattle.ados_machine.specs.declared.refusals.Refusal.TheVariants.{NotReady}
use Rattle.ados_machine.specs.Breaks.{has_script}
use Rattle.ados_machine.specs.Completions.{Completion, Passes}
use Rattle.ados_machine.specs.Course.{Course}
use Rattle.ados_machine.specs.Lines.{answer_completion, line_completion, parted_completion}
use Rattle.ados_machine.specs.NewShells.{gathered_completion, joined_completion}
use Rattle.ados_machine.specs.Phases.{Phase, Ready, GoingOn, Waiting}
use Rattle.ados_machine.specs.Apply.{TurnResult, here_of, turn_of_completion}
use Rattle.ados_machine.specs.Turning.{Input, Turning, Refuses, Ends, Turned, console_turning, input_turning, ready_turning, turn_of_frame, turning_at_end, turning_in_phase, turn_at_break, turning_at_break, flagged_turning, turning_of_completion}

pub each-turning : (P : Phase → Turning → Type 0) (input : Input) (frames : List FrameState) (course : Course) →
    P Ready (ready_turning input frames course) →
    ((parted : Parted) (completion : Completion) → P (GoingOn parted) (Turned input.queue (turn_of_completion completion frames))) →
    ((asking : Asking) (by_line : Text → Completion) (by_end : Completion) → P (Waiting (ForAnswer asking)) (input_turning input.queue input.is_ended frames by_line by_end)) →
    ((gathering : Gathering) (by_line : Text → Completion) (by_end : Completion) → P (Waiting (ForLines gathering)) (input_turning input.queue input.is_ended frames by_line by_end)) →
    ((starting : Starting) → P (Waiting (ForStart starting)) (Refuses NotReady)) →
    ((child : Child) → P (Waiting (ForPiece child)) (Refuses NotReady)) →
    ((child : Child) → P (Waiting (ForEnd child)) (Refuses NotReady)) →
    (phase : Phase) → P phase (turning_in_phase input frames course phase)
each-turning P input frames course ready goes_on answer lines start piece end Ready = ready
each-turning P input frames course ready goes_on answer lines start piece end (GoingOn parted) = goes_on parted (parted_completion parted (here_of frames) course)
each-turning P input frames course ready goes_on answer lines start piece end (Waiting (ForAnswer asking)) =
    answer asking (λ line. answer_completion line asking (here_of frames) course) (answer_completion [] asking (here_of frames) course)
each-turning P input frames course ready goes_on answer lines start piece end (Waiting (ForLines gathering)) =
    lines gathering (λ line. joined_completion gathering line (here_of frames).sink course) (gathered_completion gathering (here_of frames).sink course)
each-turning P input frames course ready goes_on answer lines start piece end (Waiting (ForStart starting)) = start starting
each-turning P input frames course ready goes_on answer lines start piece end (Waiting (ForPiece child)) = piece child
each-turning P input frames course ready goes_on answer lines start piece end (Waiting (ForEnd child)) = end child

-- a turn of a shell with these frames is like this; it ends only if there are no frames
abbrev pub TurnIs : (List FrameState → TurnResult → Type 0) → List FrameState → Turning → Type 0
TurnIs P frames (Refuses why) = Unit {0}
TurnIs P frames Ends = frames ≡ []
TurnIs P frames (Turned queue t) = P frames t

module _ (P : List FrameState → TurnResult → Type 0) (settles : (completion : Completion) (frames : List FrameState) → P frames (turn_of_completion completion frames))
    (advances : (frame : FrameState) (frames : List FrameState) (t : TurnResult) → P (advanced_frame frame ∷ frames) t → P (frame ∷ frames) t) where
  frame-is : (frame : FrameState) (frames : List FrameState) (course : Course) (line : Option Text) → P (frame ∷ frames) (turn_of_frame frame frames course line)
  frame-is frame frames course None = settles (Passes course) (frame ∷ frames)
  frame-is frame frames course (Some line) = advances frame frames _ (settles (line_completion line (here_of (advanced_frame frame ∷ frames)) course) (advanced_frame frame ∷ frames))

  at_end-is : (frames : List FrameState) (is_ended : Bool) (turning : Turning) → TurnIs P frames turning → TurnIs P frames (turning_at_end is_ended turning)
  at_end-is frames true turning is = is
  at_end-is frames false turning is = tt

  console-is : (queue : List Text) (is_ended : Bool) (course : Course) → TurnIs P [] (console_turning queue is_ended course)
  console-is [] is_ended course = at_end-is [] is_ended Ends refl
  console-is (line ∷ rest) is_ended course = settles (line_completion line (here_of []) course) []

  ready-is : (input : Input) (frames : List FrameState) (course : Course) → TurnIs P frames (ready_turning input frames course)
  ready-is input [] course = console-is input.queue input.is_ended course
  ready-is input (frame ∷ frames) course = frame-is frame frames course (slice_get frame.lines frame.position)

  input-is : (queue : List Text) (is_ended : Bool) (frames : List FrameState) (by_line : Text → Completion) (by_end : Completion) →
      TurnIs P frames (input_turning queue is_ended frames by_line by_end)
  input-is [] is_ended frames by_line by_end = at_end-is frames is_ended (Turned [] (turn_of_completion by_end frames)) (settles by_end frames)
  input-is (line ∷ rest) is_ended frames by_line by_end = settles (by_line line) frames

  pub turning-is : (input : Input) (frames : List FrameState) (course : Course) (phase : Phase) → TurnIs P frames (turning_in_phase input frames course phase)
  turning-is input frames course =
      each-turning (λ phase. TurnIs P frames) input frames course (ready-is input frames course) (λ parted completion. settles completion frames)
      (λ asking. input-is input.queue input.is_ended frames) (λ gathering. input-is input.queue input.is_ended frames) (λ starting. tt) (λ child. tt) (λ child. tt)

  at_break-is : ((frames : List FrameState) (course : Course) → P frames (turn_at_break frames course)) →
      (turning : Turning) (input : Input) (frames : List FrameState) (course : Course) → TurnIs P frames turning → TurnIs P frames (turning_at_break turning input frames course)
  at_break-is breaks (Refuses why) input frames course is = tt
  at_break-is breaks Ends input frames course is = is
  at_break-is breaks (Turned queue t) input frames course is = breaks frames course

  -- so does one that may find a flag, if that at a break is like this
  pub flagged-is : ((frames : List FrameState) (course : Course) → P frames (turn_at_break frames course)) →
      (flagged : Bool) (input : Input) (frames : List FrameState) (course : Course) (phase : Phase) → TurnIs P frames (flagged_turning flagged input frames course phase)
  flagged-is breaks flagged input frames course phase =
      elim (cases_Bool (flagged && has_script frames)) [
        | inl e ↦ rw e (at_break-is breaks (turning_in_phase input frames course phase) input frames course (turning-is input frames course phase))
        | inr e ↦ rw e (turning-is input frames course phase)
      ]

  -- and so does what an answer results in
  pub replied-is : (input : Input) (frames : List FrameState) (completion : Option Completion) → TurnIs P frames (turning_of_completion input frames completion)
  replied-is input frames None = tt
  replied-is input frames (Some completion) = settles completion frames
