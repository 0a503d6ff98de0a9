-- A program's entry is in use from the turn that asks for its start, and its first fault stays.
use Rattle.std.proofs.Common.{◌≡◌, ◌∙◌, sym, ℕ, List, [], ◌∷◌, Bool, true, false, Option, Some, None, Result, Ok, Err, is_some, refl, ap, inl, inr}
use Rattle.std.specs.Prelude.{option_map}
use Rattle.std.specs.Option.{option_or}
use Rattle.std.proofs.lemmas.Bool.{cases_Bool, cond_both}
use Rattle.ados_text.specs.Text.{Bytes, Text}
use Rattle.ados_text.specs.declared.codes.Result2.{Result2}
use Rattle.ados_text.specs.declared.codes.TheConstants.Result2.{BREAK, PIPE_FAULT, NOT_IMPLEMENTED, UNMATCHED_QUOTES}
use Rattle.ados_items.specs.Items.{words_of}
use Rattle.ados_line.specs.declared.lines.Line.{Line}
use Rattle.ados_find.specs.declared.outcomes.Renamed.{Renamed}
use Rattle.ados_find.specs.declared.search.Found.TheVariants as found
use Rattle.ados_find.specs.Codes.{fail_codes}
use Rattle.ados_flow.specs.Frames.{FrameState}
use Rattle.ados_machine.specs.declared.events.Event.TheVariants.{Turn}
use Rattle.ados_machine.specs.declared.phases.Child.{Child}
use Rattle.ados_machine.specs.Phases.{Phase}
use Rattle.ados_machine.specs.Phases as phase
use Rattle.ados_machine.specs.Answers.{next_wait, with_break, with_fault, child_at_end, piece_completion, is_piece}
use Rattle.ados_find.specs.declared.search.Found.{Found}
use Rattle.ados_resident.specs.declared.programs.Program.{Program}
use Rattle.ados_resident.specs.declared.programs.Program.TheVariants.{Disk, Host}
use Rattle.ados_machine.specs.declared.requests.Request.TheVariants.{Start}
use Rattle.ados_machine.specs.Apply.{here_of, TurnResult, rule_state_of, turn_of_completion}
use Rattle.ados_machine.specs.Carrying.{carried_or_same}
use Rattle.ados_machine.specs.Completions.{Here, Answers}
use Rattle.ados_machine.specs.Course.{Course}
use Rattle.ados_machine.specs.Hosted.{start_completion, tested_completion, host_without_input, host_completion}
use Rattle.ados_machine.specs.InUse.{entry_seen}
use Rattle.ados_machine.specs.Lines.{with_search_used, found_completion, program_completion}
use Rattle.ados_machine.specs.Next.{stands_for, frames_at}
use Rattle.ados_machine.specs.Opening.{OpenedOutput, line_output}
use Rattle.ados_machine.specs.Programs.{host_program, program_found, StartsAskForTheirProgram, StartsUseTheirEntry, fault_while, fault_in, fault_of_shell, FirstFaultsStay, PiecesArePrinted}
use Rattle.ados_machine.specs.Requests.{request_of}
use Rattle.ados_machine.specs.Shells.{ShellState, seen_of, phase_entry}
use Rattle.ados_machine.specs.Sinks.{Sink}
use Rattle.ados_machine.specs.Step.{Accepted, shell_of_turn, is_done, shell_after_turn, moved_at_turn, turn_taken, start, course_without_flag, step_of}
use Rattle.ados_machine.specs.World.{numbered_shell, request_of_shell}
use Rattle.ados_machine.proofs.GivenLemmas.{idle-request}
use Rattle.ados_machine.proofs.Loops.{runs-not-over}
use Rattle.ados_machine.proofs.Lasting.{Watch, SeenAfter, seen_by, is_held, watched-stays}
use Rattle.ados_machine.proofs.Marks.{marked-same, next-same}
use Rattle.ados_machine.proofs.NextLemmas.{turns}
use Rattle.ados_machine.proofs.Rests.{finished-rests}
use Rattle.ados_machine.proofs.Shells.{found, found-left, shells_after}

never : false ≡ true → ⊥
never e = cc

-- a turn that waits for a launcher runs from this entry
abbrev RunsFrom : Text → TurnResult → Type 0
RunsFrom name t = is_some (request_of t.course.parts.number t.phase) ≡ true → phase_entry t.phase ≡ Some name

refused-runs : (name word : Text) (fault : Result2) (course : Course) (frames : List FrameState) → RunsFrom name (turn_of_completion (Answers word (fail_codes fault) false course) frames)
refused-runs name word fault course frames = λ asks.
    let t = turn_of_completion (Answers word (fail_codes fault) false course) frames in
    absurd (never (ap is_some (sym (idle-request t.course.parts.number t.phase (finished-rests word (fail_codes fault) false frames (rule_state_of course)).idle)) ∙ asks))

start-runs : (name program : Text) (line : Line) (course : Course) (words : Option (List Text)) (frames : List FrameState) →
    RunsFrom name (turn_of_completion (start_completion (Some name) program line course words) frames)
start-runs name program line course None frames = refused-runs name line.command UNMATCHED_QUOTES course frames
start-runs name program line course (Some words) frames = λ asks. refl

tested-runs : (name program : Text) (line : Line) (course : Course) (opened : Result OpenedOutput Result2) (frames : List FrameState) →
    RunsFrom name (turn_of_completion (tested_completion (Some name) program line course opened) frames)
tested-runs name program line course (Err fault) frames = refused-runs name line.command fault course frames
tested-runs name program line course (Ok opened) frames = start-runs name program line course (words_of line.args) frames

host-runs : (name program : Text) (line : Line) (course : Course) (input : Option Text) (frames : List FrameState) →
    RunsFrom name (turn_of_completion (host_without_input (Some name) program line course input) frames)
host-runs name program line course (Some input) frames = refused-runs name line.command NOT_IMPLEMENTED course frames
host-runs name program line course None frames = tested-runs name program line course (line_output course line.output) frames

-- and so does what it leaves of its shell
carried-runs-from : (name : Text) (moved : List Renamed) (t : TurnResult) → RunsFrom name t →
    is_some (request_of_shell (Some (carried_or_same moved (shell_of_turn t)))) ≡ true →
    entry_seen (option_map seen_of (Some (carried_or_same moved (shell_of_turn t)))) ≡ Some name
carried-runs-from name [] t runs = λ asks. runs asks
carried-runs-from name (renamed ∷ more) t runs = λ asks. runs asks

left-runs-from : (name : Text) (k : ℕ) (moved : List Renamed) (t : TurnResult) → RunsFrom name t →
    is_some (request_of_shell (shell_after_turn k moved t)) ≡ true → entry_seen (option_map seen_of (shell_after_turn k moved t)) ≡ Some name
left-runs-from name k moved t runs =
    elim (cases_Bool (is_done k t.frames)) [
      | inl d ↦ rw d (λ asks. absurd (never asks))
      | inr d ↦ rw d (carried-runs-from name moved t runs)
    ]

pub starts-use-their-entry : StartsUseTheirEntry
starts-use-their-entry w k shell line entry program world out items takes stands hosted accepted asks =
    let turn = turns w k shell _ takes in
    let course : Course = with_search_used line.command (record (course_without_flag (start w shell)) { used = turn.used }) in
    let t = turn_of_completion (host_completion (Some entry.name) program line course) (frames_at shell) in
    let does : step_of w (Turn k) ≡ turn_taken w k turn.queue t = rw (turn.does, stands, hosted) refl in
    let same : turn_taken w k turn.queue t ≡ Accepted world out items = sym does ∙ accepted in
    let shells : world.shells ≡ shells_after w.shells k (moved_at_turn w t) t = cc in
    let there : numbered_shell world k ≡ shell_after_turn k (moved_at_turn w t) t =
    ap (λ s. found s k) shells ∙ found-left w.shells k shell (moved_at_turn w t) t takes.runs in
    ap (λ o. entry_seen (option_map seen_of o)) there
    ∙ left-runs-from entry.name k (moved_at_turn w t) t (host-runs entry.name program line course line.input (frames_at shell))
    (ap (λ o. is_some (request_of_shell o)) (sym there) ∙ asks)

-- what is asked for
by-program : (entry : Option Text) (found_program : Program) (program : Text) (line : Line) (here : Here) (course : Course) → host_program found_program ≡ Some program →
    program_completion entry found_program line here course ≡ host_completion entry program line course
by-program entry (Disk command) program line here course is = cc
by-program entry (Host other) program line here course is = let same : other ≡ program = cc in rw same refl

abbrev HostDoes : Found → Text → Line → Here → Course → Type 0
HostDoes word program line here course = (entry : Option Text) × (found_completion word line here course ≡ host_completion entry program line course)

by-found : (word : Found) (program : Text) (line : Line) (here : Here) (course : Course) → program_found word ≡ Some program → HostDoes word program line here course
by-found (found.Internal command) program line here course is = cc
by-found (found.Resident entry) program line here course is = (Some entry.name, by-program (Some entry.name) entry.program program line here course is)
by-found (found.File file) program line here course is = (None, by-program None file.program program line here course is)
by-found (found.Script place) program line here course is = cc
by-found (found.Directory place) program line here course is = cc
by-found (found.NotExecutable fault) program line here course is = cc
by-found found.Unknown program line here course is = cc

host-asks : (entry : Option Text) (program : Text) (line : Line) (course : Course) (frames : List FrameState) (words : List Text) →
    line.input ≡ None → line.output ≡ None → words_of line.args ≡ Some words →
    (let t = turn_of_completion (host_completion entry program line course) frames in
    request_of t.course.parts.number t.phase ≡ Some (Start (record { shell = course.parts.number; program = program; args = words })))
host-asks entry program line course frames words no_input no_output split = rw (no_input, no_output, split) refl

pub starts-ask : StartsAskForTheirProgram
starts-ask w k shell line program words world out items takes stands no_input no_output split accepted =
    let turn = turns w k shell _ takes in
    let course : Course = with_search_used line.command (record (course_without_flag (start w shell)) { used = turn.used }) in
    let host = by-found (stands_for w shell line.command) program line (here_of (frames_at shell)) course stands in
    let t = turn_of_completion (host_completion host.0 program line course) (frames_at shell) in
    let does : step_of w (Turn k) ≡ turn_taken w k turn.queue t = rw (turn.does, host.1) refl in
    let same : turn_taken w k turn.queue t ≡ Accepted world out items = sym does ∙ accepted in
    let asked : out.request ≡ request_of t.course.parts.number t.phase = cc in
    asked ∙ host-asks host.0 program line course (frames_at shell) words no_input no_output split

-- the first fault
abbrev fault_above : List FrameState → Phase → Option Result2
fault_above frames now = fault_in now

abbrev faulty : Phase → Bool
faulty now = is_some (fault_in now)

next-fault : (child : Child) → fault_while (next_wait child) ≡ child.fault
next-fault child = next-same fault_while child child.fault (λ e. refl) (λ e. refl)

-- one more fault does not matter
more-fault : (child : Child) (fault : Result2) → is_some child.fault ≡ true → (with_fault child fault).fault ≡ child.fault
more-fault child fault some = of child.fault some
  where
    of : (first : Option Result2) → is_some first ≡ true → option_or first (Some fault) ≡ first
    of None e = cc
    of (Some f) e = refl

break-fault : (child : Child) → is_some child.fault ≡ true → (with_break child).fault ≡ child.fault
break-fault child some = cond_both child.marked (with_fault child BREAK) child (λ now. now.fault ≡ child.fault) (λ e. more-fault child BREAK some) (λ e. refl)

-- of a program that has one a piece is dropped
piece-fault : (frames : List FrameState) (child : Child) (bytes : Bytes) (sink : Sink) (course : Course) (fault : Option Result2) → child.fault ≡ fault → is_some fault ≡ true →
    SeenAfter fault_above frames child.fault (Some (piece_completion child bytes sink course fault))
piece-fault frames child bytes sink course (Some fault) is some = next-fault (with_break child) ∙ break-fault child (ap is_some is)
piece-fault frames child bytes sink course None is some = absurd (never some)

pipe-fault : (child : Child) → is_some child.fault ≡ true → (with_fault (child_at_end child) PIPE_FAULT).fault ≡ child.fault
pipe-fault child some = more-fault (child_at_end child) PIPE_FAULT (ap is_some (break-fault child some) ∙ some) ∙ break-fault child some

abbrev first_faults : Watch (Option Result2)
first_faults = record {
  nothing = None;
  look = fault_above;
  holds = faulty;
  marked = λ frames. marked-same (fault_above frames) (λ starting. refl) (λ child. refl);
  free = (refl, λ parted. refl, λ asking. refl, λ gathering. refl);
  starts = λ frames sink course starting answer held. absurd (never held);
  pieces = λ frames sink course child bytes held. piece-fault frames child bytes sink course child.fault refl held;
  ends = λ frames child held. break-fault child held;
  pipe_faults = λ frames child held. pipe-fault child held;
}

-- what is seen, in the words of the law
faults-same : (o : Option ShellState) → fault_of_shell o ≡ seen_by first_faults o
faults-same None = refl
faults-same (Some shell) = refl

faulty-same : (o : Option ShellState) → is_some (fault_of_shell o) ≡ is_held first_faults o
faulty-same None = refl
faulty-same (Some shell) = refl

pub first-faults-stay : FirstFaultsStay
first-faults-stay = watched-stays first_faults (λ o. is_some (fault_of_shell o)) fault_of_shell faulty-same faults-same

pub pieces-printed : PiecesArePrinted
pieces-printed w k shell child bytes world out items awaits plain well console accepted =
    let same = rw (runs-not-over w k shell awaits.runs, awaits.runs, awaits.waits, console) at accepted in
    elim (cases_Bool (is_piece bytes)) [
      | inl e ↦ (let taken = rw (e, well, plain) at same in cc)
      | inr e ↦ (let refused = rw e at same in cc)
    ]
