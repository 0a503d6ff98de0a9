-- What a program's command opened stays open until the answer that ends the program.
use Rattle.std.proofs.Common.{◌≡◌, ◌∙◌, sym, ℕ, List, [], ◌++◌, Bool, true, false, Option, Some, None, Result, Ok, refl, ap, inl, inr}
use Rattle.std.specs.Prelude.{option_map}
use Rattle.std.proofs.lemmas.Bool.{cases_Bool}
use Rattle.ados_text.specs.Text.{Bytes}
use Rattle.ados_text.specs.declared.codes.Result2.{Result2}
use Rattle.ados_ram.specs.Place.{Place}
use Rattle.ados_find.specs.Codes.{went_well}
use Rattle.ados_find.specs.Targets.{open_places}
use Rattle.ados_flow.specs.Frames.{FrameState}
use Rattle.ados_machine.specs.declared.answers.Answer.TheVariants.{Started}
use Rattle.ados_machine.specs.declared.events.Event.TheVariants.{Answer}
use Rattle.ados_machine.specs.declared.phases.Child.{Child}
use Rattle.ados_machine.specs.Phases.{Phase}
use Rattle.ados_machine.specs.Phases as phase
use Rattle.ados_machine.specs.declared.phases.Starting.{Starting}
use Rattle.ados_machine.specs.declared.phases.Wait.{Wait}
use Rattle.ados_machine.specs.declared.phases.Wait.TheVariants.{ForStart}
use Rattle.ados_machine.specs.Answers.{child_of, next_wait, with_break, started_completion, child_after_piece, output_fault, piece_completion, answered_in}
use Rattle.ados_machine.specs.Children.{child_during, child_of_shell}
use Rattle.ados_machine.specs.Course.{Course, put, with_devices_used}
use Rattle.ados_machine.specs.Completions.{Waits}
use Rattle.ados_machine.specs.InUse.{outputs_seen, outputs_held, is_running, runs_program, OutputsStayOpen, StartsOpenOutputs}
use Rattle.ados_machine.specs.Opening.{OpenedOutput, line_output, output_devices}
use Rattle.ados_machine.specs.Apply.{turn_of_completion}
use Rattle.ados_machine.specs.Shells.{ShellState, seen_of}
use Rattle.ados_machine.specs.Sinks.{Sink, newest_sink, sink_or, frame_outputs, held_while, held_in_phase}
use Rattle.ados_machine.specs.Step.{Response, Refused, Accepted, shell_after_turn, moved_at_turn, turn_taken, start, turning_response, answer_response, step_of}
use Rattle.ados_machine.specs.Turning.{turning_of_completion}
use Rattle.ados_machine.specs.World.{WorldState, numbered_shell, is_over, input_of}
use Rattle.ados_machine.proofs.Lasting.{Watch, SeenAfter, seen_by, is_held, waits-keeps, watched-stays}
use Rattle.ados_machine.proofs.Marks.{break-same, marked-same, next-same, piece-same}
use Rattle.ados_machine.proofs.Shells.{found, found-left, shells_after}

-- the outputs that a shell holds above these frames, in a phase
abbrev held_above : List FrameState → Phase → List Place
held_above frames now = frame_outputs frames ++ held_in_phase now

never : false ≡ true → ⊥
never e = cc

-- the program of a shell in a phase runs
abbrev runs_in : Phase → Bool
runs_in now = is_running (child_during now)

-- an answer that does not end a program keeps its output
next-held : (child : Child) → held_while (next_wait child) ≡ open_places child.output
next-held child = next-same held_while child (open_places child.output) (λ e. refl) (λ e. refl)

break-held : (child : Child) → open_places (with_break child).output ≡ open_places child.output
break-held child = break-same (λ c. open_places c.output) child (λ fault. refl)

put-held : (child : Child) (fault : Option Result2) → open_places (child_after_piece child fault).output ≡ open_places child.output
put-held child fault = piece-same (λ c. open_places c.output) child fault (λ fault. refl)

piece-held : (frames : List FrameState) (child : Child) (bytes : Bytes) (sink : Sink) (course : Course) (fault : Option Result2) →
    SeenAfter held_above frames (frame_outputs frames ++ open_places child.output) (Some (piece_completion child bytes sink course fault))
piece-held frames child bytes sink course (Some fault) = ap (λ l. frame_outputs frames ++ l) (next-held (with_break child) ∙ break-held child)
piece-held frames child bytes sink course None =
    let fault = output_fault (put (sink_or child.output sink) bytes went_well course).codes in
    ap (λ l. frame_outputs frames ++ l) (next-held (child_after_piece (with_break child) fault) ∙ (put-held (with_break child) fault ∙ break-held child))

abbrev held_outputs : Watch (List Place)
held_outputs = record {
  nothing = [];
  look = held_above;
  holds = runs_in;
  marked = λ frames. marked-same (held_above frames) (λ starting. refl) (λ child. refl);
  free = (refl, λ parted. refl, λ asking. refl, λ gathering. refl);
  starts = λ frames sink course starting answer held. absurd (never held);
  pieces = λ frames sink course child bytes held. piece-held frames child bytes sink course child.fault;
  ends = λ frames child held. ap (λ l. frame_outputs frames ++ l) (break-held child);
  pipe_faults = λ frames child held. ap (λ l. frame_outputs frames ++ l) (break-held child);
}

-- what is seen, in the words of the law
outputs-same : (o : Option ShellState) → outputs_seen (option_map seen_of o) ≡ seen_by held_outputs o
outputs-same None = refl
outputs-same (Some shell) = refl

runs-same : (o : Option ShellState) → is_running (child_of_shell o) ≡ is_held held_outputs o
runs-same None = refl
runs-same (Some shell) = refl

pub outputs-stay : OutputsStayOpen
outputs-stay = watched-stays held_outputs (λ o. is_running (child_of_shell o)) (λ o. outputs_seen (option_map seen_of o)) runs-same outputs-same

-- a shell whose program runs after an answer is seen to hold these
abbrev HoldsAfter : ℕ → List Place → Response → Type 0
HoldsAfter k outputs (Refused why) = Unit {0}
HoldsAfter k outputs (Accepted world out items) = runs_program world k ≡ true → outputs_held world k ≡ outputs

waits-hold : (w : WorldState) (k : ℕ) (shell : ShellState) (queue : List (List ℕ)) (wait : Wait) (course : Course) (outputs : List Place) → numbered_shell w k ≡ Some shell →
    held_above shell.frames (phase.Waiting wait) ≡ outputs → HoldsAfter k outputs (turn_taken w k queue (turn_of_completion (Waits wait course) shell.frames))
waits-hold w k shell queue wait course outputs is same = λ runs.
    let t = turn_of_completion (Waits wait course) shell.frames in
    let moved = moved_at_turn w t in
    let after = found (shells_after w.shells k moved t) k in
    let there : after ≡ shell_after_turn k moved t = found-left w.shells k shell moved t is in
    outputs-same after ∙ (ap (seen_by held_outputs) there
    ∙ waits-keeps held_outputs k moved outputs wait course shell.frames same (ap (is_held held_outputs) (sym there) ∙ (sym (runs-same after) ∙ runs)))

by-opening : (w : WorldState) (k : ℕ) (shell : ShellState) (starting : Starting) (opened : OpenedOutput) (result : Result OpenedOutput Result2) → numbered_shell w k ≡ Some shell →
    result ≡ Ok opened →
    HoldsAfter k (frame_outputs shell.frames ++ open_places opened.target)
    (turning_response w k shell.parts.codes (turning_of_completion (input_of w k) shell.frames (Some (started_completion starting (start w shell) result))))
by-opening w k shell starting opened result is e =
    rw e
    (waits-hold w k shell (input_of w k).queue (next_wait (child_of starting opened.target None))
    (with_devices_used (output_devices starting.output) (record (start w shell) { shared = opened.shared })) (frame_outputs shell.frames ++ open_places opened.target) is
    (ap (λ l. frame_outputs shell.frames ++ l) (next-held (child_of starting opened.target None))))

by-phase : (w : WorldState) (k : ℕ) (shell : ShellState) (starting : Starting) (opened : OpenedOutput) (now : Phase) → numbered_shell w k ≡ Some shell →
    now ≡ phase.Waiting (ForStart starting) → line_output (start w shell) starting.output ≡ Ok opened →
    HoldsAfter k (frame_outputs shell.frames ++ open_places opened.target)
    (turning_response w k shell.parts.codes (turning_of_completion (input_of w k) shell.frames (answered_in (newest_sink shell.frames) (start w shell) now Started)))
by-phase w k shell starting opened now is waits opens =
    rw waits (by-opening w k shell starting opened (line_output (start w shell) starting.output) is opens)

by-place : (w : WorldState) (k : ℕ) (shell : ShellState) (starting : Starting) (opened : OpenedOutput) (o : Option ShellState) → numbered_shell w k ≡ Some shell → o ≡ Some shell →
    shell.phase ≡ phase.Waiting (ForStart starting) → line_output (start w shell) starting.output ≡ Ok opened →
    HoldsAfter k (frame_outputs shell.frames ++ open_places opened.target) (answer_response w k Started o)
by-place w k shell starting opened o is e waits opens = rw e (by-phase w k shell starting opened shell.phase is waits opens)

started-holds : (w : WorldState) (k : ℕ) (shell : ShellState) (starting : Starting) (opened : OpenedOutput) → numbered_shell w k ≡ Some shell →
    shell.phase ≡ phase.Waiting (ForStart starting) → line_output (start w shell) starting.output ≡ Ok opened →
    HoldsAfter k (frame_outputs shell.frames ++ open_places opened.target) (step_of w (Answer k Started))
started-holds w k shell starting opened is waits opens =
    elim (cases_Bool (is_over w)) [
      | inl e ↦ rw e tt
      | inr e ↦ rw e (by-place w k shell starting opened (numbered_shell w k) is is waits opens)
    ]

pub starts-open : StartsOpenOutputs
starts-open w k shell starting opened world out items here waits opens is runs =
    let holds : HoldsAfter k (frame_outputs shell.frames ++ open_places opened.target) (Accepted world out items) = rw is at (started-holds w k shell starting opened here waits opens) in
    holds runs
