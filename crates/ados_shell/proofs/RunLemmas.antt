-- A Run, and the shell that begins.
use Rattle.std.proofs.Common.{◌≡◌, ◌∙◌, ◌+◌, ◌-◌, ◌≤◌, List, Option, Some, None, Ok, Bool, ℕ, suc, ap, drop, length, map, nat_le, subst, sym}
use Rattle.std.proofs.Math.Nat.{min-eq_left}
use Rattle.std.specs.Prelude.{if◌then◌else◌}
use Rattle.std.specs.Option.{option_map}
use Rattle.ados_text.specs.Text.{Text}
use Rattle.ados_find.specs.Codes.{went_well}
use Rattle.ados_find.specs.declared.codes.Codes.{Codes}
use Rattle.ados_find.specs.declared.targets.Target.{Target}
use Rattle.ados_flow.specs.Gathering.{before_plus, run_gathering, number_line, run_limit}
use Rattle.ados_flow.specs.declared.gathering.Gathered.{Gathered}
use Rattle.ados_flow.proofs.GatheringLemmas.{front_stays}
use Rattle.ados_text.specs.Text.{IsText, to_ascii}
use Rattle.ados_machine.specs.declared.phases.Gathering.{Gathering}
use Rattle.ados_machine.specs.declared.phases.Wait.TheVariants.{ForLines}
use Rattle.ados_machine.specs.Completions.{FrameLines, Jumps, Waits}
use Rattle.ados_machine.specs.Course.{Course, put}
use Rattle.ados_machine.specs.NewShells.{begun_put, frame_run, gathered_completion, joined_or_waiting, joined_completion, new_shell, run_at, with_command}
use Rattle.ados_machine.specs.Numbers.{free_number}
use Rattle.ados_machine.specs.Apply.{here_of}
use Rattle.ados_machine.specs.Sinks.{Sink, newest_sink, sink_or}
use Rattle.ados_machine.specs.World.{seen_shells}
use Rattle.ados_shell.specs.declared.scenes.Scene.{Scene}
use Rattle.ados_shell.specs.declared.drafts.Draft.{Draft}
use Rattle.ados_shell.specs.Drafts.{HasBegun, IsApplied, course_of, here_in}
use Rattle.ados_shell.specs.Completions.{HasEnded, line_after, lines_left}
use Rattle.ados_shell.specs.declared.completions.Completion.TheVariants.{Took}
use Rattle.ados_shell.specs.Outputs.{IsPut}
use Rattle.ados_shell.specs.Stacks.{drafted_frames}

-- a shell was drafted that is to begin, and its number was put out
pub begun-put : (scene : Scene) (before mid after : Draft) (codes : Codes) (number : ℕ) (commands : List Text) (output : Option Target)
    → free_number (seen_shells scene.shells.now) ≡ Some number
    → HasBegun scene before mid number commands output
    → IsPut scene mid after codes (put (sink_or output (here_in scene mid).sink) (number_line number) went_well (course_of scene mid))
    → IsPut scene before after codes (new_shell commands output (here_in scene before).sink (course_of scene before))
begun-put scene before mid after codes number commands output n b g =
    let sink = (here_in scene before).sink in
    let done : put (sink_or output (here_in scene mid).sink) (number_line number) went_well (course_of scene mid) ≡ new_shell commands output sink (course_of scene before) =
    ap (λ x. put (sink_or output (newest_sink (drafted_frames scene.shell.now x))) (number_line number) went_well (course_of scene mid)) b.frames
    ∙ ap (λ x. put (sink_or output sink) (number_line number) went_well x) b.course
    ∙ ap (λ x. begun_put x commands output sink (course_of scene before)) (sym n) in
    record {
      frames = g.frames ∙ b.frames;
      codes_are = g.codes_are ∙ ap (λ x. x.codes) done;
      course = g.course ∙ ap (λ x. x.course) done;
      reports = g.reports ∙ b.reports;
    }

-- the text before the last `+` of a line, as the code has it
pub front-is : (text front command : Text) → IsText text → before_plus text ≡ Some front → command ≡ map to_ascii front → command ≡ front
front-is text front command t e c = c ∙ front_stays text front t e

-- a Run that gathers makes its shell if it is full, and else waits again
pub joins : (scene : Scene) (before after : Draft) (gathering : Gathering) (line command : Text) (sink : Sink) (is_full : Bool)
    → before_plus line ≡ Some command → nat_le (run_limit - 1) (length gathering.commands) ≡ is_full
    → IsApplied scene before after (if is_full then gathered_completion (with_command command gathering) sink (course_of scene before)
    else Waits (ForLines (with_command command gathering)) (course_of scene before))
    → IsApplied scene before after (joined_completion gathering line sink (course_of scene before))
joins scene before after gathering line command sink is_full e b g =
    let course = course_of scene before in
    let P : Option Text → Type 0 = λ o. IsApplied scene before after (joined_or_waiting gathering line sink course o) in
    let Q : Bool → Type 0 = λ x. IsApplied scene before after
    (if x then gathered_completion (with_command command gathering) sink course else Waits (ForLines (with_command command gathering)) course) in
    subst P (sym e) (subst Q (sym b) g)

abbrev all_of : Text → FrameLines → Gathered
all_of text frame = run_gathering (run_limit - 1) text (drop frame.position frame.lines)

-- the line at which its frame goes on
jumped : (word text : Text) (codes : Codes) (all : Gathered) (output : Option Target) (sink : Sink) (course left : Course) (frame : Option FrameLines)
    → option_map (all_of text) frame ≡ Some all → all.taken ≤ lines_left frame
    → codes ≡ (new_shell all.commands output sink course).codes → left ≡ (new_shell all.commands output sink course).course
    → Jumps word codes (line_after all.taken frame) left ≡ run_at word output text sink course frame
jumped word text codes all output sink course left None e w k l = absurd cc
jumped word text codes all output sink course left (Some frame) e w k l =
    let same : all_of text frame ≡ all = cc in
    ap (λ x. Jumps word codes (suc (frame.position + x)) left) (min-eq_left w)
    ∙ ap (λ x. Jumps word x (suc (frame.position + all.taken)) left) k
    ∙ ap (λ x. Jumps word (new_shell all.commands output sink course).codes (suc (frame.position + all.taken)) x) l
    ∙ ap (λ x. frame_run word output frame.position sink course x) (sym same)

-- in a frame a Run takes more lines, and makes its shell
pub run-ends : (scene : Scene) (before after : Draft) (word text : Text) (codes : Codes) (all : Gathered) (output : Option Target)
    → option_map (all_of text) (here_in scene before).frame_lines ≡ Some all
    → all.taken ≤ lines_left (here_in scene before).frame_lines
    → IsPut scene before after codes (new_shell all.commands output (here_in scene before).sink (course_of scene before))
    → HasEnded scene before after word (Ok (Took codes all.taken))
    (run_at word output text (here_in scene before).sink (course_of scene before) (here_in scene before).frame_lines)
run-ends scene before after word text codes all output e w p = record {
  frames = p.frames;
  reports = p.reports;
  completion_is = ap (λ x. Jumps word codes (line_after all.taken (here_of (drafted_frames scene.shell.now x)).frame_lines) (course_of scene after)) p.frames
      ∙ jumped word text codes all output (here_in scene before).sink (course_of scene before) (course_of scene after) _ e w p.codes_are p.course;
}
