-- Outputs that are opened, and what is put there.
use Rattle.std.specs.Prelude.{◌≡◌, Option, Some, None, Result, Ok, Err}
use Rattle.ados_text.specs.declared.codes.Result2.{Result2}
use Rattle.ados_text.specs.declared.stops.Stop.{Stop}
use Rattle.ados_text.specs.declared.stops.Stop.TheVariants.{Refused, NoMemory}
use Rattle.ados_line.specs.declared.lines.Redirection.{Redirection}
use Rattle.ados_find.specs.declared.codes.Codes.{Codes}
use Rattle.ados_find.specs.Effects.{Effect}
use Rattle.ados_find.specs.Shared.{SharedState, with_files}
use Rattle.ados_ram.specs.Files.{Files}
use Rattle.ados_find.specs.declared.targets.Target.{Target}
use Rattle.ados_find.specs.declared.targets.Target.TheVariants.{Nil as Null, At}
use Rattle.ados_machine.specs.Course as course
use Rattle.ados_machine.specs.Course.{Course, with_devices_used}
use Rattle.ados_machine.specs.Completions.{Here}
use Rattle.ados_machine.specs.Lines.{with_effect}
use Rattle.ados_machine.specs.Opening as line
use Rattle.ados_machine.specs.Sinks.{sink_or}
use Rattle.ados_shell.specs.declared.outputs.Opened.{Opened}
use Rattle.ados_shell.specs.declared.outputs.Opened.TheVariants.{Nothing, Nil, File}
use Rattle.ados_shell.specs.declared.scenes.Scene.{Scene}
use Rattle.ados_shell.specs.declared.drafts.Draft.{Draft}
use Rattle.ados_shell.specs.Drafts.{course_of}

-- the code opened an output, from this shared state, with the result that the machine has: a file, with a new shared state, or another
-- output, for which nothing changes; or an allocation failed
abbrev pub IsOpened : SharedState → Result Opened Stop → Result line.OpenedOutput Result2 → Type 0
IsOpened shared (Ok Nothing) (Ok opened) = opened ≡ record { shared = shared; target = None }
IsOpened shared (Ok Nil) (Ok opened) = opened ≡ record { shared = shared; target = Some Null }
IsOpened shared (Ok (File new place)) (Ok opened) = opened ≡ record { shared = new; target = Some (At place) }
IsOpened shared (Err (Refused fault)) (Err other) = fault ≡ other
IsOpened shared (Err NoMemory) opened = Unit {0}
IsOpened shared _ _ = ⊥

-- between two drafts an output was opened: it leads where the machine says, and the second has this course
pub record OpensOutput (scene : Scene) (before after : Draft) (target : Option Target) (opened : line.OpenedOutput) (course : Course) : Type 0 where
  pub frames : after.shell.frames ≡ before.shell.frames
  pub target_is : target ≡ opened.target
  pub course_is : course_of scene after ≡ course
  pub setting : after.shell.setting ≡ before.shell.setting
  pub reports : after.reports.items ≡ before.reports.items

-- the course of an event after this output was opened
abbrev pub opened_course : Course → line.OpenedOutput → Course
opened_course course opened = record course { shared = opened.shared }

-- between two drafts the output of a line was opened, with the result that the machine has; if it was refused, nothing changed; or an
-- allocation failed
abbrev pub HasHeld : Scene → Draft → Draft → Result (Option Target) Stop → Result line.OpenedOutput Result2 → Type 0
HasHeld scene before after (Ok target) (Ok opened) = OpensOutput scene before after target opened (opened_course (course_of scene before) opened)
HasHeld scene before after (Err (Refused fault)) (Err other) = (fault ≡ other) × (after ≡ before)
HasHeld scene before after (Err NoMemory) opened = Unit {0}
HasHeld scene before after _ _ = ⊥

-- between two drafts the output of a line was opened, if the line names one, with the result that the machine has, and its device is used;
-- if it was refused, nothing changed; or an allocation failed
abbrev pub HasOpened : Scene → Draft → Draft → Option Redirection → Result (Option Target) Stop → Result line.OpenedOutput Result2 → Type 0
HasOpened scene before after output (Ok target) (Ok opened) =
    OpensOutput scene before after target opened (with_devices_used (line.output_devices output) (opened_course (course_of scene before) opened))
HasOpened scene before after output (Err (Refused fault)) (Err other) = (fault ≡ other) × (after ≡ before)
HasOpened scene before after output (Err NoMemory) opened = Unit {0}
HasOpened scene before after output _ _ = ⊥

-- between two drafts output was put out as the machine says, and the command returns these codes then
pub record IsPut (scene : Scene) (before after : Draft) (codes : Codes) (done : course.Put) : Type 0 where
  pub frames : after.shell.frames ≡ before.shell.frames
  pub codes_are : codes ≡ done.codes
  pub course : course_of scene after ≡ done.course
  pub reports : after.reports.items ≡ before.reports.items

-- what a command with this effect leaves, by the machine: the effect, and its output, which goes to this target, or else where the frame's
-- goes
abbrev pub effect_put : Option Target → Effect → Here → Course → course.Put
effect_put target effect here before = course.put (sink_or target here.sink) effect.output effect.codes (with_effect effect before)

-- between two drafts the files were replaced by these, and nothing else was done
pub record HoldsFiles (scene : Scene) (before after : Draft) (files : Files) : Type 0 where
  pub frames : after.shell.frames ≡ before.shell.frames
  pub course : course_of scene after ≡ record (course_of scene before) { shared = with_files (course_of scene before).shared files }
  pub reports : after.reports.items ≡ before.reports.items
