-- The shell that Run makes begins where its maker is.
use Rattle.std.proofs.Common.{◌-◌, ◌≡◌, ◌∙◌, sym, ℕ, List, [], ◌∷◌, false, drop, Option, Some, None, refl, ap}
use Rattle.std.specs.List.{slice_set}
use Rattle.ados_text.specs.Text.{Text}
use Rattle.ados_line.specs.declared.lines.Line.{Line}
use Rattle.ados_find.specs.Settings.{copied_settings}
use Rattle.ados_flow.specs.Gathering.{before_plus, has_no_command, run_gathering}
use Rattle.ados_machine.specs.declared.events.Event.TheVariants.{Turn}
use Rattle.ados_machine.specs.declared.outs.Out.{Out}
use Rattle.ados_machine.specs.Apply.{TurnResult, here_of, turn_of_completion}
use Rattle.ados_machine.specs.Begun.{ShellsBeginByTheirMakers}
use Rattle.ados_machine.specs.Completions.{Completion, FrameLines, Here, course_of}
use Rattle.ados_machine.specs.Course.{Course, with_devices_used}
use Rattle.ados_machine.specs.Items.{TraceItem}
use Rattle.ados_machine.specs.Lines.{with_search_used}
use Rattle.ados_machine.specs.NewShells.{run_at, run_completion}
use Rattle.ados_machine.specs.Next.{frames_at}
use Rattle.ados_machine.specs.Numbers.{free_number}
use Rattle.ados_machine.specs.Opening.{output_devices}
use Rattle.ados_machine.specs.Shells.{ShellState, ShellStart, begun_shell}
use Rattle.ados_machine.specs.Sinks.{Console}
use Rattle.ados_machine.specs.Step.{Accepted, other_shells_after_event, moved_at_turn, turn_taken, shell_after_turn, start, course_without_flag, step_of}
use Rattle.ados_machine.specs.Uses.{devices_named}
use Rattle.ados_machine.specs.World.{WorldState, numbered_shell}
use Rattle.ados_machine.proofs.Alike.{free-seen}
use Rattle.ados_machine.proofs.Moves.{placed-at}
use Rattle.ados_machine.proofs.NextLemmas.{turns}
use Rattle.ados_machine.proofs.Shells.{found, found-set_other, free-number, runs_pos, shells_after}

-- a text that does not continue is one command, and takes no further line
gathered : (text : Text) (lines : List Text) → before_plus text ≡ None → run_gathering 31 text lines ≡ record { commands = text ∷ []; taken = 0 }
gathered text [] ends = rw ends refl
gathered text (line ∷ lines) ends = rw ends refl

-- what makes the shell of a number
abbrev start_by : ℕ → Text → Course → ShellStart
start_by number text course = record {
  directory = course.parts.directory;
  settings = copied_settings number course.parts.settings;
  commands = text ∷ [];
  output = None;
}

-- a completion at which a shell begins, and nothing else happens to other shells
record Makes (begun : ShellStart) (completion : Completion) : Type 0 where
  begins : (course_of completion).begun ≡ Some begun
  renames : (course_of completion).renamed ≡ []
  breaks : (course_of completion).breaking ≡ None

made : (number : ℕ) (word text : Text) (course : Course) (frame : Option FrameLines) → free_number course.seen ≡ Some number → before_plus text ≡ None → course.renamed ≡ [] → course.breaking ≡ None →
    Makes (start_by number text course) (run_at word None text Console course frame)
made number word text course None free ends renames breaks = rw (ends, free) (record { begins = refl; renames = renames; breaks = breaks })
made number word text course (Some frame) free ends renames breaks =
    rw (gathered text (drop frame.position frame.lines) ends, free) (record { begins = refl; renames = renames; breaks = breaks })

run-makes : (number : ℕ) (line : Line) (here : Here) (course : Course) → line.input ≡ None → line.output ≡ None → has_no_command line.args ≡ false → before_plus line.args ≡ None →
    here.sink ≡ Console → free_number course.seen ≡ Some number → course.renamed ≡ [] → course.breaking ≡ None →
    Makes (start_by number line.args course) (run_completion line here course)
run-makes number line here course no_input no_output command ends console free renames breaks =
    rw (no_input, no_output, command, console)
    (made number line.command line.args (with_devices_used (output_devices None) (with_devices_used (devices_named None) course)) here.frame_lines free ends renames breaks)

-- the shell that begins is at its number after the event
there : (w : WorldState) (k : ℕ) (shell : ShellState) (queue : List Text) (t : TurnResult) (number : ℕ) (begun : ShellStart) (world : WorldState) (out : Out) (items : List (ℕ × TraceItem)) →
    numbered_shell w k ≡ Some shell → free_number w.shells ≡ Some number → t.course.begun ≡ Some begun → t.course.renamed ≡ [] → t.course.breaking ≡ None →
    turn_taken w k queue t ≡ Accepted world out items → numbered_shell world number ≡ Some (begun_shell number begun)
there w k shell queue t number begun world out items runs free begins renames breaks same =
    let is_free = rw free at (free-number w.shells) in
    let placed = placed-at w.shells number is_free.0 (Some (begun_shell number begun)) is_free.1 is_free.2 in
    let shells : world.shells ≡ shells_after w.shells k (moved_at_turn w t) t = cc in
    let moved : moved_at_turn w t ≡ [] = rw renames refl in
    let others : other_shells_after_event w.shells (moved_at_turn w t) t.course ≡ slice_set w.shells (number - 1) (Some (begun_shell number begun)) = rw (moved, begins, breaks, free) refl in
    ap (λ s. found s number) shells
    ∙ (found-set_other (other_shells_after_event w.shells (moved_at_turn w t) t.course) k (shell_after_turn k (moved_at_turn w t) t) number (λ e. never e placed.1) (runs_pos w.shells k shell runs)
    ∙ (ap (λ s. found s number) others ∙ placed.0))
  where
    never : number ≡ k → found w.shells number ≡ None → ⊥
    never e none = cc

pub shells-begin : ShellsBeginByTheirMakers
shells-begin w k shell line number world out items takes console free accepted =
    let turn = turns w k shell _ takes.takes in
    let course : Course = with_search_used line.command (record (course_without_flag (start w shell)) { used = turn.used }) in
    let completion = run_completion line (here_of (frames_at shell)) course in
    let makes = run-makes number line (here_of (frames_at shell)) course takes.no_input takes.no_output takes.command takes.ends console (free-seen w.shells ∙ free) refl refl in
    let t = turn_of_completion completion (frames_at shell) in
    let does : step_of w (Turn k) ≡ turn_taken w k turn.queue t = rw (turn.does, takes.is) refl in
    let begun = there w k shell turn.queue t number (start_by number line.args course) world out items takes.takes.runs free makes.begins makes.renames makes.breaks (sym does ∙ accepted) in
    record { directory = rw begun refl; settings = rw begun refl; frames = rw begun refl }
