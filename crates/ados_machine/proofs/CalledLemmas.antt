-- A script begins with its lines, and goes on from one to the next.
use Rattle.std.proofs.Common.{◌-◌, ◌==◌, ◌||◌, ◌≡◌, ◌∙◌, sym, ℕ, List, [], ◌∷◌, Bool, true, false, not, ◌&&◌, length, nat_le, Some, None, Ok, refl, ap, arith}
use Rattle.std.proofs.lemmas.Bool.{lt-leb}
use Rattle.std.specs.Fmt.{decimal}
use Rattle.ados_text.specs.Lines.{lines_of}
use Rattle.ados_text.specs.Text.{Text, Bytes}
use Rattle.ados_text.specs.declared.codes.Code.{Code}
use Rattle.ados_line.specs.declared.lines.Line.{Line}
use Rattle.ados_ram.specs.FileOperations.{read_result}
use Rattle.ados_ram.specs.Place.{Place}
use Rattle.ados_ram.specs.Written.{full_path}
use Rattle.ados_subst.specs.Scripts.{script_of}
use Rattle.ados_find.specs.declared.codes.Codes.{Codes}
use Rattle.ados_find.specs.declared.outcomes.Renamed.{Renamed}
use Rattle.ados_find.specs.Shared.{SharedState}
use Rattle.ados_find.specs.Views.{View}
use Rattle.ados_flow.specs.Actions as flow
use Rattle.ados_flow.specs.CodeRule.{is_reached}
use Rattle.ados_flow.specs.declared.called.Called.{Called}
use Rattle.ados_flow.specs.declared.kinds.FrameKind.{FrameKind}
use Rattle.ados_flow.specs.declared.kinds.FrameKind.TheVariants.{Script, RunCommands, Tick}
use Rattle.ados_flow.specs.Execute.{script_row}
use Rattle.ados_flow.specs.Frames.{FrameState, frame_limit, is_over, is_script, new_frame}
use Rattle.ados_resident.specs.declared.commands.Builtin.{Builtin}
use Rattle.ados_machine.specs.declared.events.Event.TheVariants.{Turn}
use Rattle.ados_machine.specs.Apply.{TurnResult, here_of, turn_of_completion}
use Rattle.ados_machine.specs.Called.{ScriptsBeginWithTheirLines, CalledScriptsBeginWithTheirLines, FramesGoOn, JumpsLeadToTheirLine}
use Rattle.ados_machine.specs.Carrying.{carried_or_same}
use Rattle.ados_machine.specs.Completions.{Answers, Calls, Jumps, Here}
use Rattle.ados_machine.specs.declared.outs.Out.{Out}
use Rattle.ados_machine.specs.Course.{Course, with_devices_used, put}
use Rattle.ados_machine.specs.Items.{TraceItem}
use Rattle.ados_machine.specs.Lines.{with_effect, with_search_used, with_argument_devices, builtin_completion, script_completion, put_completion, nameless_view, view_of}
use Rattle.ados_machine.specs.Commands.{action_of}
use Rattle.ados_machine.specs.Next.{stands_for, frames_at, recorded}
use Rattle.ados_machine.specs.Opening.{output_devices}
use Rattle.ados_machine.specs.Plain.{IsPlain, limit_after}
use Rattle.ados_machine.specs.Shells.{ShellState}
use Rattle.ados_machine.specs.Sinks.{newest_sink}
use Rattle.ados_machine.specs.Step.{Accepted, shell_of_turn, shell_after_turn, moved_at_turn, turn_taken, start, course_without_flag, step_of}
use Rattle.ados_machine.specs.Trace.{shell_frames}
use Rattle.ados_machine.specs.Uses.{devices_named}
use Rattle.ados_machine.specs.World.{WorldState, numbered_shell, has_frame}
use Rattle.ados_machine.proofs.NextLemmas.{turns}
use Rattle.ados_machine.proofs.PlainLemmas.{by-found, effect-turns, put-limit, changed-limit}
use Rattle.ados_machine.proofs.Shells.{found, found-left, shells_after}

-- what a turn leaves of a shell that runs a frame
carried-frames : (moved : List Renamed) (shell : ShellState) → (carried_or_same moved shell).frames ≡ shell.frames
carried-frames [] shell = refl
carried-frames (renamed ∷ more) shell = refl

and-false : (b : Bool) → (b && false) ≡ false
and-false true = refl
and-false false = refl

left-frames : (k : ℕ) (moved : List Renamed) (t : TurnResult) → has_frame t.frames ≡ true → shell_frames (shell_after_turn k moved t) ≡ t.frames
left-frames k moved t some = rw (some, and-false (not (k == 1))) (carried-frames moved (shell_of_turn t))

-- the frames after a turn that leaves one
turn-frames : (w : WorldState) (k : ℕ) (shell : ShellState) (queue : List Text) (t : TurnResult) (world : WorldState) (out : Out) (items : List (ℕ × TraceItem)) (frame : FrameState) (frames : List FrameState) →
    numbered_shell w k ≡ Some shell → t.frames ≡ frame ∷ frames → turn_taken w k queue t ≡ Accepted world out items → shell_frames (numbered_shell world k) ≡ frame ∷ frames
turn-frames w k shell queue t world out items frame frames runs are same =
    let shells : world.shells ≡ shells_after w.shells k (moved_at_turn w t) t = cc in
    ap (λ s. shell_frames (found s k)) shells ∙ (ap shell_frames (found-left w.shells k shell (moved_at_turn w t) t runs)
    ∙ (left-frames k (moved_at_turn w t) t (ap has_frame are) ∙ are))

-- a script with a line is called
call-frames : (word name first : Text) (further : List Text) (course : Course) (frames : List FrameState) → nat_le frame_limit (length frames) ≡ false →
    (turn_of_completion (Calls word None (record { name = name; script = first ∷ further }) course) frames).frames
    ≡ new_frame (Script name word) (first ∷ further) course.parts.limit None ∷ frames
call-frames word name first further course frames free = rw (free, lt-leb (length (first ∷ further)) 0 (omega arith)) refl

called-by : (shared : SharedState) (view : View) (args : Text) (place : Place) (bytes : Bytes) (lines : List Text) → read_result shared.files view.busy.outputs place ≡ Ok bytes →
    script_of (lines_of bytes) args (decimal view.parts.number) ≡ Ok lines →
    script_row shared view args place ≡ flow.Calls (record { name = full_path shared.files place; script = lines })
unfolding script_row
called-by shared view args place bytes lines read made = rw (read, made) refl

-- the course in which a plain line's command is at work
abbrev at_work_in : Course → Course
at_work_in course = with_devices_used (output_devices None) (with_devices_used (devices_named None) course)

script-completes : (place : Place) (line : Line) (here : Here) (course : Course) (script : Called) → line.input ≡ None → line.output ≡ None →
    script_row course.shared (nameless_view None (at_work_in course)) line.args place ≡ flow.Calls script →
    script_completion place line here course ≡ Calls line.command None script (at_work_in course)
script-completes place line here course script no_input no_output is = rw (no_input, no_output, is) refl

builtin-calls : (builtin : Builtin) (line : Line) (here : Here) (course : Course) (script : Called) → IsPlain course.shared.dialect builtin line →
    action_of builtin course.shared here.script_line (view_of line.command None course) line.args ≡ flow.Calls script →
    builtin_completion builtin line here course ≡ Calls line.command None script (with_argument_devices builtin line (at_work_in course))
builtin-calls builtin line here course script plain is = rw (plain.no_input, plain.no_prompt, plain.no_output, is) refl

pub scripts-begin : ScriptsBeginWithTheirLines
scripts-begin w k shell line place bytes first further world out items takes stands no_input no_output read made free accepted =
    let turn = turns w k shell _ takes in
    let course : Course = with_search_used line.command (record (course_without_flag (start w shell)) { used = turn.used }) in
    let at_work = at_work_in course in
    let name = full_path w.shared.files place in
    let called : Called = record { name = name; script = first ∷ further } in
    let completes = script-completes place line (here_of (frames_at shell)) course called no_input no_output
    (called-by w.shared (nameless_view None at_work) line.args place bytes (first ∷ further) read made) in
    let t = turn_of_completion (Calls line.command None called at_work) (frames_at shell) in
    let does : step_of w (Turn k) ≡ turn_taken w k turn.queue t = rw (turn.does, stands, completes) refl in
    turn-frames w k shell turn.queue t world out items _ _ takes.runs (call-frames line.command name first further at_work (frames_at shell) free) (sym does ∙ accepted)

pub called-scripts-begin : CalledScriptsBeginWithTheirLines
called-scripts-begin w k shell line builtin name first further world out items takes calls free accepted =
    let turn = turns w k shell _ takes.takes in
    let course : Course = with_search_used line.command (record (course_without_flag (start w shell)) { used = turn.used }) in
    let at_work = with_argument_devices builtin line (at_work_in course) in
    let called : Called = record { name = name; script = first ∷ further } in
    let completes = builtin-calls builtin line (here_of (frames_at shell)) course called takes.plain calls in
    let t = turn_of_completion (Calls line.command None called at_work) (frames_at shell) in
    let does : step_of w (Turn k) ≡ turn_taken w k turn.queue t =
    rw (turn.does, by-found (stands_for w shell line.command) builtin line (here_of (frames_at shell)) course takes.is, completes) refl in
    turn-frames w k shell turn.queue t world out items _ _ takes.takes.runs (call-frames line.command name first further at_work (frames_at shell) free) (sym does ∙ accepted)

-- a command that does not end its frame
on-frames : (kind : FrameKind) (reached : Bool) → reached ≡ false → (is_script kind && (false || reached)) ≡ false
on-frames (Script name command) reached is = is
on-frames RunCommands reached is = refl
on-frames (Tick before after) reached is = refl

effect-frames : (word : Text) (answered : Codes) (course : Course) (limit : Code) (frame : FrameState) (frames now : List FrameState) → now ≡ frame ∷ frames → course.parts.limit ≡ limit →
    is_over frame ≡ false → is_reached limit answered.code ≡ false →
    (turn_of_completion (Answers word answered false course) now).frames ≡ record frame { last = Some (recorded (frame ∷ frames) answered limit) } ∷ frames
effect-frames word answered course limit frame frames now are is over below =
    rw (are, is, over, on-frames frame.kind (is_reached limit answered.code) below) refl

pub frames-go-on : FramesGoOn
frames-go-on w k shell line effect frame frames world out items takes where_to are over below accepted =
    let turn = effect-turns w k shell line effect takes in
    let course : Course = with_effect effect (record (course_without_flag (start w shell)) { used = turn.used }) in
    let done = put (newest_sink (frames_at shell)) effect.output effect.codes course in
    let same = put-limit (newest_sink (frames_at shell)) effect.output effect.codes course where_to in
    let limit : done.course.parts.limit ≡ limit_after effect.change shell.parts.limit = ap (λ parts. parts.limit) same.1 ∙ changed-limit effect.change shell.parts in
    let t = turn_of_completion (put_completion line.command done) (frames_at shell) in
    let codes_are : done.codes ≡ effect.codes = same.0 in
    let t_frames : t.frames ≡ record frame { last = Some (recorded (frame ∷ frames) effect.codes (limit_after effect.change shell.parts.limit)) } ∷ frames =
    rw codes_are (effect-frames line.command effect.codes done.course (limit_after effect.change shell.parts.limit) frame frames (frames_at shell) are limit over below) in
    turn-frames w k shell turn.queue t world out items _ _ takes.command.takes.runs t_frames (sym turn.does ∙ accepted)

-- a command that jumps
builtin-jumps : (builtin : Builtin) (line : Line) (here : Here) (course : Course) (to : ℕ) (codes : Codes) → IsPlain course.shared.dialect builtin line →
    action_of builtin course.shared here.script_line (view_of line.command None course) line.args ≡ flow.Jumps to codes →
    builtin_completion builtin line here course ≡ Jumps line.command codes to (with_argument_devices builtin line (at_work_in course))
builtin-jumps builtin line here course to codes plain is = rw (plain.no_input, plain.no_prompt, plain.no_output, is) refl

jump-frames : (word : Text) (answered : Codes) (to : ℕ) (course : Course) (frame : FrameState) (frames now : List FrameState) → now ≡ frame ∷ frames →
    nat_le (length frame.lines) (to - 1) ≡ false → is_reached course.parts.limit answered.code ≡ false →
    (turn_of_completion (Jumps word answered to course) now).frames
    ≡ record frame { position = to - 1; last = Some (recorded (frame ∷ frames) answered course.parts.limit) } ∷ frames
jump-frames word answered to course frame frames now are over below =
    rw (are, over, on-frames frame.kind (is_reached course.parts.limit answered.code) below) refl

pub jumps-lead : JumpsLeadToTheirLine
jumps-lead w k shell line builtin to codes frame frames world out items takes jumps are over below accepted =
    let turn = turns w k shell _ takes.takes in
    let course : Course = with_search_used line.command (record (course_without_flag (start w shell)) { used = turn.used }) in
    let at_work = with_argument_devices builtin line (at_work_in course) in
    let completes = builtin-jumps builtin line (here_of (frames_at shell)) course to codes takes.plain jumps in
    let t = turn_of_completion (Jumps line.command codes to at_work) (frames_at shell) in
    let does : step_of w (Turn k) ≡ turn_taken w k turn.queue t =
    rw (turn.does, by-found (stands_for w shell line.command) builtin line (here_of (frames_at shell)) course takes.is, completes) refl in
    turn-frames w k shell turn.queue t world out items _ _ takes.takes.runs (jump-frames line.command codes to at_work frame frames (frames_at shell) are over below) (sym does ∙ accepted)
