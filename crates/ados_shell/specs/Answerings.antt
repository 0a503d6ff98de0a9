-- What a launcher's answer to a shell results in.
use Rattle.std.specs.Prelude.{◌≡◌, List, Option, Some, None}
use Rattle.ados_text.specs.Text.{Text}
use Rattle.ados_machine.specs.declared.answers.Answer.{Answer}
use Rattle.ados_machine.specs.declared.refusals.Refusal.TheVariants as refusal
use Rattle.ados_machine.specs.Completions.{Completion}
use Rattle.ados_machine.specs.Turning as machine
use Rattle.ados_shell.specs.declared.answers.Answering.{Answering}
use Rattle.ados_shell.specs.declared.answers.Answering.TheVariants.{WrongAnswer, Goes}
use Rattle.ados_shell.specs.declared.scenes.Scene.{Scene}
use Rattle.ados_shell.specs.declared.drafts.Draft.{Draft}
use Rattle.ados_shell.specs.Drafts.{IsDrafted, IsApplied, event_start}
use Rattle.ados_shell.specs.Turnings.{TurnMayFailToAllocate}

-- what a launcher's answer to the scene's shell results in by the machine, with this input
abbrev pub scene_answering : Scene → machine.Input → Answer → machine.Turning
scene_answering scene input answer = machine.turning_of_answer input scene.shell.now.frames (event_start scene) scene.shell.now.phase answer

-- what the code made of an answer, with its draft, is what the machine says: the shell does not wait for the answer, or goes on by it;
-- these lines of its input wait on
abbrev pub IsAnswering : Scene → List Text → Answering → Draft → machine.Turning → Type 0
IsAnswering scene queue WrongAnswer draft (machine.Refuses why) = why ≡ refusal.WrongAnswer
IsAnswering scene queue Goes draft (machine.Turned rest turned) = (rest ≡ queue) × IsDrafted scene draft turned
IsAnswering scene queue _ draft _ = ⊥

-- what the code made of an answer to the scene's shell, with its draft, is what the machine says, whatever the shell's input
abbrev pub GivesReply : Scene → Answer → Answering → Draft → Type 0
GivesReply scene answer answering draft = (input : machine.Input) → IsAnswering scene input.queue answering draft (scene_answering scene input answer)

-- the machine goes on by this answer to the scene's shell, so that an allocation may fail
abbrev pub TakesReply : Scene → Answer → Type 0
TakesReply scene answer = (input : machine.Input) → TurnMayFailToAllocate (scene_answering scene input answer)

-- a turn went on from one draft to another by what an answer does, if it does something; otherwise the answer was a wrong one
abbrev pub IsReplied : Scene → Draft → Draft → Answering → Option Completion → Type 0
IsReplied scene before after WrongAnswer None = Unit {0}
IsReplied scene before after Goes (Some completion) = IsApplied scene before after completion
IsReplied scene before after _ _ = ⊥
