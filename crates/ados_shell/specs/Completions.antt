-- How a line ends, as a turn has it before its frames are changed.
use Rattle.std.specs.Prelude.{◌≡◌, ℕ, suc, ◌+◌, min, length, drop, Option, Some, None, Result, Ok, Err}
use Rattle.ados_text.specs.Text.{Text}
use Rattle.ados_text.specs.declared.stops.Stop.{Stop}
use Rattle.ados_text.specs.declared.stops.Stop.TheVariants.{Refused, NoMemory}
use Rattle.ados_machine.specs.Completions as machine
use Rattle.ados_machine.specs.Completions.{FrameLines}
use Rattle.ados_machine.specs.Course.{Course}
use Rattle.ados_shell.specs.declared.completions.Completion.{Completion}
use Rattle.ados_shell.specs.declared.completions.Completion.TheVariants.{Answered, Jumped, Took, Called, Waits}
use Rattle.ados_shell.specs.declared.scenes.Scene.{Scene}
use Rattle.ados_shell.specs.declared.drafts.Draft.{Draft}
use Rattle.ados_shell.specs.Drafts.{IsApplied, course_of, here_in}

-- how many lines of a frame are left to take; of the console, which has no frame, none
abbrev pub lines_left : Option FrameLines → ℕ
lines_left None = 0
lines_left (Some frame) = length (drop frame.position frame.lines)

-- the line of a frame, counted from 1, after this many more were taken, or all that are left; None: the console
abbrev pub line_after : ℕ → Option FrameLines → ℕ
line_after taken None = taken
line_after taken (Some frame) = suc (frame.position + min taken (lines_left (Some frame)))

-- what the machine calls the code's completion of a command of this word, in a frame with these lines, if it is in one, with this course
abbrev pub completion_of : Text → Completion → Option FrameLines → Course → machine.Completion
completion_of word (Answered codes quits) frame course = machine.Answers word codes quits course
completion_of word (Jumped codes line) frame course = machine.Jumps word codes line course
completion_of word (Took codes taken) frame course = machine.Jumps word codes (line_after taken frame) course
completion_of word (Called call) frame course = machine.Calls word call.value.output call.value.script course
completion_of word (Waits wait) frame course = machine.Waits wait.value course

-- a line ended between two drafts by this completion, which is the machine's; its frames are not changed yet, and nothing was reported
pub record Ends (before after : Draft) (completion given : machine.Completion) : Type 0 where
  pub frames : after.shell.frames ≡ before.shell.frames
  pub reports : after.reports.items ≡ before.reports.items
  pub completion_is : completion ≡ given

-- a line of a command of this word ended between two drafts by a completion, or was refused, as the machine's completion says; or an
-- allocation failed
abbrev pub HasEnded : Scene → Draft → Draft → Text → Result Completion Stop → machine.Completion → Type 0
HasEnded scene before after word (Ok completion) given = Ends before after (completion_of word completion (here_in scene after).frame_lines (course_of scene after)) given
HasEnded scene before after word (Err (Refused fault)) given = Ends before after (machine.refusal_completion word fault (course_of scene after)) given
HasEnded scene before after word (Err NoMemory) given = Unit {0}

-- a turn went on between two drafts by how the line of a command of this word ended: by a completion, or by a refusal
abbrev pub Concludes : Scene → Draft → Draft → Text → Result Completion Stop → Type 0
Concludes scene before after word (Ok completion) = IsApplied scene before after (completion_of word completion (here_in scene before).frame_lines (course_of scene before))
Concludes scene before after word (Err (Refused fault)) = IsApplied scene before after (machine.refusal_completion word fault (course_of scene before))
Concludes scene before after word (Err NoMemory) = ⊥
