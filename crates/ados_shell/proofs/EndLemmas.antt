-- How a line ends: what comes before its end keeps the frames, and nothing is reported.
use Rattle.std.proofs.Common.{◌≡◌, ◌∙◌, List, Option, Result, Ok, Err, false, ap, subst}
use Rattle.ados_text.specs.Text.{Text}
use Rattle.ados_text.specs.declared.codes.Result2.{Result2}
use Rattle.ados_text.specs.declared.stops.Stop.{Stop}
use Rattle.ados_text.specs.declared.stops.Stop.TheVariants.{Refused, NoMemory}
use Rattle.ados_find.specs.declared.codes.Codes.{Codes}
use Rattle.ados_find.specs.declared.targets.Target.{Target}
use Rattle.ados_line.specs.declared.lines.Line.{Line}
use Rattle.ados_line.specs.declared.lines.Redirection.{Redirection}
use Rattle.ados_flow.specs.Actions.{Action}
use Rattle.ados_resident.specs.declared.commands.Builtin.{Builtin}
use Rattle.ados_machine.specs.Course.{Course, Put}
use Rattle.ados_machine.specs.Completions as machine
use Rattle.ados_machine.specs.Completions.{Here, completion_after_input, completion_after_output}
use Rattle.ados_machine.specs.Lines.{action_completion, action_in, put_completion, with_argument_devices, work_completion}
use Rattle.ados_machine.specs.Opening.{OpenedOutput, line_output}
use Rattle.ados_machine.specs.Prompts.{input_lines}
use Rattle.ados_machine.specs.Apply.{here_of, turn_of_completion}
use Rattle.ados_shell.specs.declared.completions.Completion.{Completion}
use Rattle.ados_shell.specs.declared.completions.Completion.TheVariants.{Answered}
use Rattle.ados_shell.specs.declared.scenes.Scene.{Scene}
use Rattle.ados_shell.specs.declared.drafts.Draft.{Draft}
use Rattle.ados_shell.specs.Completions.{Concludes, Ends, HasEnded}
use Rattle.ados_shell.specs.Drafts.{IsApplied, course_of, frames_of, here_in}
use Rattle.ados_shell.specs.Inputs.{HasRead}
use Rattle.ados_shell.specs.Outputs.{HasOpened, IsOpened, IsPut}
use Rattle.ados_shell.specs.declared.outputs.Opened.{Opened}
use Rattle.ados_shell.specs.declared.outputs.Opened.TheVariants.{Nothing, Nil, File}
use Rattle.ados_items.specs.Items.{words_of}
use Rattle.ados_machine.specs.Hosted.{start_completion, tested_completion}
use Rattle.ados_shell.specs.Stacks.{drafted_frames}
use Rattle.ados_shell.specs.Uses.{HasUsed}
use Rattle.ados_shell.proofs.TurnLemmas.{goes-same}

-- a line ended after this
pub ends-after : (scene : Scene) (before mid after : Draft) (word : Text) (ended : Result Completion Stop) (given whole : machine.Completion)
    → mid.shell.frames ≡ before.shell.frames → mid.reports.items ≡ before.reports.items → given ≡ whole
    → HasEnded scene mid after word ended given → HasEnded scene before after word ended whole
ends-after scene before mid after word (Ok completion) given whole f r e h = record { frames = h.frames ∙ f; reports = h.reports ∙ r; completion_is = h.completion_is ∙ e }
ends-after scene before mid after word (Err (Refused fault)) given whole f r e h = record { frames = h.frames ∙ f; reports = h.reports ∙ r; completion_is = h.completion_is ∙ e }
ends-after scene before mid after word (Err NoMemory) given whole f r e h = tt

-- and a turn goes on by that
pub ends-lead : (scene : Scene) (before mid after : Draft) (completion given : machine.Completion)
    → Ends before mid completion given → IsApplied scene mid after completion → IsApplied scene before after given
ends-lead scene before mid after completion given e g =
    goes-same scene before mid after _ _ e.reports
    (ap (λ x. turn_of_completion completion (drafted_frames scene.shell.now x)) e.frames ∙ ap (λ x. turn_of_completion x (frames_of scene before)) e.completion_is)
    g

pub concluded : (scene : Scene) (before mid after : Draft) (word : Text) (ended : Result Completion Stop) (given : machine.Completion)
    → HasEnded scene before mid word ended given → Concludes scene mid after word ended → IsApplied scene before after given
concluded scene before mid after word (Ok completion) given h g = ends-lead scene before mid after _ given h g
concluded scene before mid after word (Err (Refused fault)) given h g = ends-lead scene before mid after _ given h g
concluded scene before mid after word (Err NoMemory) given h g = absurd g

-- devices were used on the way
pub used-ends : (scene : Scene) (before mid after : Draft) (word : Text) (ended : Result Completion Stop) (work : Here → Course → machine.Completion) (course : Course)
    → HasUsed scene before mid course
    → HasEnded scene mid after word ended (work (here_in scene mid) (course_of scene mid))
    → HasEnded scene before after word ended (work (here_in scene before) course)
used-ends scene before mid after word ended work course u h =
    ends-after scene before mid after word ended _ _ u.frames u.reports
    (ap (λ x. work (here_of (drafted_frames scene.shell.now x)) (course_of scene mid)) u.frames ∙ ap (work (here_in scene before)) u.course_is) h

read-ends : (scene : Scene) (before mid after : Draft) (word : Text) (work : Here → Option (List Text) → Course → machine.Completion) (lines : Option (List Text)) (input : Option Text) (read : Result (Option (List Text)) Result2) (ended : Result Completion Stop)
    → HasRead scene before mid input (Ok lines) read
    → HasEnded scene mid after word ended (work (here_in scene mid) lines (course_of scene mid))
    → HasEnded scene before after word ended (completion_after_input word (work (here_in scene before)) (course_of scene before) input read)
read-ends scene before mid after word work lines input (Ok given) ended h g =
    used-ends scene before mid after word ended (λ here course. work here given course) _ h.used
    (subst (λ l. HasEnded scene mid after word ended (work (here_in scene mid) l (course_of scene mid))) h.lines_are g)
read-ends scene before mid after word work lines input (Err fault) ended h g = absurd h

-- the input of a line, which was lent, was read
pub input-ends : {lent : Option Text} (scene : Scene) (before mid after : Draft) (word : Text) (work : Here → Option (List Text) → Course → machine.Completion) (lines : Option (List Text)) (input : Option Text) (ended : Result Completion Stop)
    → lent ≡ input → HasRead scene before mid lent (Ok lines) (input_lines (course_of scene before) lent)
    → HasEnded scene mid after word ended (work (here_in scene mid) lines (course_of scene mid))
    → HasEnded scene before after word ended (completion_after_input word (work (here_in scene before)) (course_of scene before) input (input_lines (course_of scene before) input))
input-ends scene before mid after word work lines input ended e h g =
    read-ends scene before mid after word work lines input (input_lines (course_of scene before) input) ended (subst (λ i. HasRead scene before mid i (Ok lines) (input_lines (course_of scene before) i)) e h) g

opened-ends : (scene : Scene) (before mid after : Draft) (word : Text) (work : Here → Option Target → Course → machine.Completion) (target : Option Target) (output : Option Redirection) (opened : Result OpenedOutput Result2) (ended : Result Completion Stop)
    → HasOpened scene before mid output (Ok target) opened
    → HasEnded scene mid after word ended (work (here_in scene mid) target (course_of scene mid))
    → HasEnded scene before after word ended (completion_after_output word (work (here_in scene before)) (course_of scene before) output opened)
opened-ends scene before mid after word work target output (Ok opened) ended h g =
    ends-after scene before mid after word ended _ _ h.frames h.reports
    (ap (λ x. work (here_of (drafted_frames scene.shell.now x)) target (course_of scene mid)) h.frames
    ∙ ap (λ x. work (here_in scene before) x (course_of scene mid)) h.target_is
    ∙ ap (work (here_in scene before) opened.target) h.course_is) g
opened-ends scene before mid after word work target output (Err fault) ended h g = absurd h

-- the output of a line, which was lent, was opened
pub output-ends : {lent : Option Redirection} (scene : Scene) (before mid after : Draft) (word : Text) (work : Here → Option Target → Course → machine.Completion) (target : Option Target) (output : Option Redirection) (ended : Result Completion Stop)
    → lent ≡ output → HasOpened scene before mid lent (Ok target) (line_output (course_of scene before) lent)
    → HasEnded scene mid after word ended (work (here_in scene mid) target (course_of scene mid))
    → HasEnded scene before after word ended (completion_after_output word (work (here_in scene before)) (course_of scene before) output (line_output (course_of scene before) output))
output-ends scene before mid after word work target output ended e h g =
    opened-ends scene before mid after word work target output (line_output (course_of scene before) output) ended (subst (λ o. HasOpened scene before mid o (Ok target) (line_output (course_of scene before) o)) e h) g

-- the arguments of a command used devices, and its row runs
pub work-ends : (scene : Scene) (before mid after : Draft) (builtin : Builtin) (line : Line) (target : Option Target) (input : Option (List Text)) (action : Action) (ended : Result Completion Stop)
    → HasUsed scene before mid (with_argument_devices builtin line (course_of scene before))
    → action ≡ action_in builtin line target (here_in scene before) (course_of scene before)
    → HasEnded scene mid after line.command ended (action_completion line.command target input action (here_in scene mid) (course_of scene mid))
    → HasEnded scene before after line.command ended (work_completion builtin line target input (here_in scene before) (course_of scene before))
work-ends scene before mid after builtin line target input action ended u e h =
    subst (λ a. HasEnded scene before after line.command ended (action_completion line.command target input a (here_in scene before) (with_argument_devices builtin line (course_of scene before)))) e
    (used-ends scene before mid after line.command ended (λ here course. action_completion line.command target input action here course) _ u h)

-- output was put, and the command returns
pub put-ends : (scene : Scene) (before after : Draft) (word : Text) (codes : Codes) (done : Put)
    → IsPut scene before after codes done
    → HasEnded scene before after word (Ok (Answered codes false)) (put_completion word done)
put-ends scene before after word codes done p = record {
  frames = p.frames;
  reports = p.reports;
  completion_is = ap (λ k. machine.Answers word k false (course_of scene after)) p.codes_are ∙ ap (machine.Answers word done.codes false) p.course;
}

-- the output of a program of the host was tested
pub tested-ends : (scene : Scene) (before after : Draft) (entry : Option Text) (program : Text) (line : Line) (opened : Opened) (read : Result OpenedOutput Result2) (ended : Result Completion Stop)
    → IsOpened (course_of scene before).shared (Ok opened) read
    → HasEnded scene before after line.command ended (start_completion entry program line (course_of scene before) (words_of line.args))
    → HasEnded scene before after line.command ended (tested_completion entry program line (course_of scene before) read)
tested-ends scene before after entry program line opened (Ok other) ended h g = g
tested-ends scene before after entry program line Nothing (Err fault) ended h g = absurd h
tested-ends scene before after entry program line Nil (Err fault) ended h g = absurd h
tested-ends scene before after entry program line (File shared place) (Err fault) ended h g = absurd h
