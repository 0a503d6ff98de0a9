-- A resident entry stays in use from the start of a program to the answer that ends it.
use Rattle.std.proofs.Common.{◌≡◌, ◌∙◌, ℕ, List, Bool, Option, Some, None, Result, Ok, Err, is_some, refl}
use Rattle.std.specs.Prelude.{option_map}
use Rattle.ados_text.specs.Text.{Bytes, Text}
use Rattle.ados_text.specs.declared.codes.Result2.{Result2}
use Rattle.ados_find.specs.Codes.{went_well}
use Rattle.ados_flow.specs.Frames.{FrameState}
use Rattle.ados_machine.specs.declared.answers.Answer.{Answer as Reply}
use Rattle.ados_machine.specs.declared.answers.Answer.TheVariants.{Started}
use Rattle.ados_machine.specs.declared.phases.Child.{Child}
use Rattle.ados_machine.specs.Phases.{Phase}
use Rattle.ados_machine.specs.Phases as phase
use Rattle.ados_machine.specs.declared.phases.Starting.{Starting}
use Rattle.ados_machine.specs.declared.phases.Wait.TheVariants.{ForAnswer, ForLines, ForStart, ForPiece, ForEnd}
use Rattle.ados_machine.specs.Answers.{child_of, next_wait, with_break, started_completion, child_after_piece, output_fault, piece_completion, answered_completion}
use Rattle.ados_machine.specs.Course.{Course, put}
use Rattle.ados_machine.specs.InUse.{entry_seen, EntriesStayInUse, IdleShellsUseNoEntry}
use Rattle.ados_machine.specs.Opening.{OpenedOutput, line_output}
use Rattle.ados_machine.specs.Requests.{request_of}
use Rattle.ados_machine.specs.Shells.{ShellState, seen_of, entry_while, phase_entry}
use Rattle.ados_machine.specs.Sinks.{Sink, sink_or}
use Rattle.ados_machine.specs.World.{numbered_shell, request_of_shell}
use Rattle.ados_machine.proofs.Lasting.{Watch, SeenAfter, seen_by, is_held, watched-stays}
use Rattle.ados_machine.proofs.Marks.{break-same, marked-same, next-same, piece-same}

-- the entry from which a shell runs in a phase, whatever its frames are
abbrev entry_above : List FrameState → Phase → Option Text
entry_above frames now = phase_entry now

-- a shell in a phase asks for something, whatever its number is
abbrev asks_in : Phase → Bool
asks_in now = is_some (request_of 0 now)

-- an answer: if its completion waits on, it waits with the same entry
next-entry : (child : Child) → entry_while (next_wait child) ≡ child.entry
next-entry child = next-same entry_while child child.entry (λ e. refl) (λ e. refl)

break-entry : (child : Child) → (with_break child).entry ≡ child.entry
break-entry child = break-same (λ c. c.entry) child (λ fault. refl)

started-entry : (frames : List FrameState) (starting : Starting) (course : Course) (opened : Result OpenedOutput Result2) →
    SeenAfter entry_above frames starting.entry (Some (started_completion starting course opened))
started-entry frames starting course (Err fault) = next-entry (child_of starting None (Some fault))
started-entry frames starting course (Ok opened) = next-entry (child_of starting opened.target None)

put-entry : (child : Child) (fault : Option Result2) → (child_after_piece child fault).entry ≡ child.entry
put-entry child fault = piece-same (λ c. c.entry) child fault (λ fault. refl)

piece-entry : (frames : List FrameState) (child : Child) (bytes : Bytes) (sink : Sink) (course : Course) (fault : Option Result2) →
    SeenAfter entry_above frames child.entry (Some (piece_completion child bytes sink course fault))
piece-entry frames child bytes sink course (Some fault) = next-entry (with_break child) ∙ break-entry child
piece-entry frames child bytes sink course None =
    let fault = output_fault (put (sink_or child.output sink) bytes went_well course).codes in
    next-entry (child_after_piece (with_break child) fault) ∙ (put-entry (with_break child) fault ∙ break-entry child)

start-entry : (frames : List FrameState) (sink : Sink) (course : Course) (starting : Starting) (answer : Reply) →
    SeenAfter entry_above frames starting.entry (answered_completion sink course (ForStart starting) answer)
start-entry frames sink course starting Started = started-entry frames starting course (line_output course starting.output)
start-entry frames sink course starting answer = tt

abbrev entries : Watch (Option Text)
entries = record {
  nothing = None;
  look = entry_above;
  holds = asks_in;
  marked = λ frames. marked-same (entry_above frames) (λ starting. refl) (λ child. refl);
  free = (refl, λ parted. refl, λ asking. refl, λ gathering. refl);
  starts = λ frames sink course starting answer held. start-entry frames sink course starting answer;
  pieces = λ frames sink course child bytes held. piece-entry frames child bytes sink course child.fault;
  ends = λ frames child held. break-entry child;
  pipe_faults = λ frames child held. break-entry child;
}

-- what is seen, in the words of the law
entry-same : (o : Option ShellState) → entry_seen (option_map seen_of o) ≡ seen_by entries o
entry-same None = refl
entry-same (Some shell) = refl

any-number : (n : ℕ) (now : Phase) → is_some (request_of n now) ≡ asks_in now
any-number n phase.Ready = refl
any-number n (phase.GoingOn parted) = refl
any-number n (phase.Waiting (ForAnswer asking)) = refl
any-number n (phase.Waiting (ForLines gathering)) = refl
any-number n (phase.Waiting (ForStart starting)) = refl
any-number n (phase.Waiting (ForPiece child)) = refl
any-number n (phase.Waiting (ForEnd child)) = refl

asks-same : (o : Option ShellState) → is_some (request_of_shell o) ≡ is_held entries o
asks-same None = refl
asks-same (Some shell) = any-number shell.parts.number shell.phase

pub entries-stay : EntriesStayInUse
entries-stay = watched-stays entries (λ o. is_some (request_of_shell o)) (λ o. entry_seen (option_map seen_of o)) asks-same entry-same

-- if nothing is asked for
phase-idle : (n : ℕ) (now : Phase) → request_of n now ≡ None → phase_entry now ≡ None
phase-idle n phase.Ready idle = refl
phase-idle n (phase.GoingOn parted) idle = refl
phase-idle n (phase.Waiting (ForAnswer asking)) idle = refl
phase-idle n (phase.Waiting (ForLines gathering)) idle = refl
phase-idle n (phase.Waiting (ForStart starting)) idle = cc
phase-idle n (phase.Waiting (ForPiece child)) idle = cc
phase-idle n (phase.Waiting (ForEnd child)) idle = cc

shell-idle : (o : Option ShellState) → request_of_shell o ≡ None → entry_seen (option_map seen_of o) ≡ None
shell-idle None idle = refl
shell-idle (Some shell) idle = phase-idle shell.parts.number shell.phase idle

pub idle-no-entry : IdleShellsUseNoEntry
idle-no-entry w k idle = shell-idle (numbered_shell w k) idle
