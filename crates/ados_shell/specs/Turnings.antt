-- What a turn of a shell results in.
use Rattle.std.specs.Prelude.{◌≡◌, List, [], ◌∷◌, Option, Some, None, drop, slice_get}
use Rattle.std.specs.Option.{option_copied}
use Rattle.ados_text.specs.Text.{Text}
use Rattle.ados_machine.specs.declared.refusals.Refusal.TheVariants as refusal
use Rattle.ados_machine.specs.Phases.{Phase}
use Rattle.ados_flow.specs.Frames.{FrameState}
use Rattle.ados_machine.specs.Turning as machine
use Rattle.ados_shell.specs.declared.scenes.Input.{Input}
use Rattle.ados_shell.specs.declared.scenes.Scene.{Scene}
use Rattle.ados_shell.specs.declared.drafts.Draft.{Draft}
use Rattle.ados_shell.specs.declared.turnings.TurnKind.{TurnKind}
use Rattle.ados_shell.specs.declared.turnings.TurnKind.TheVariants.{NotReady, Ends, Goes, Takes}
use Rattle.ados_shell.specs.Drafts.{IsDrafted, turn_start}

-- the line is the first of those that wait, or there is none as no line waits
abbrev pub IsFirst : Option Text → List Text → Type 0
IsFirst None queue = queue ≡ []
IsFirst (Some line) queue = queue ≡ line ∷ drop 1 queue

-- a shell's input as the machine has it, when these lines wait
abbrev pub waiting_input : Input → List Text → machine.Input
waiting_input input queue = record { queue = queue; is_ended = input.is_ended }

-- the machine's turn of the scene's shell, when these lines wait: a flag that it finds ends the shell's scripts
abbrev pub scene_turning : Scene → Input → List Text → machine.Turning
scene_turning scene input queue =
    machine.flagged_turning scene.shell.now.flagged (waiting_input input queue) scene.shell.now.frames (turn_start scene) scene.shell.now.phase

-- the machine's turn of the scene's shell in this phase, when these lines wait, if it finds no flag
abbrev pub plain_turning : Scene → Input → Phase → List Text → machine.Turning
plain_turning scene input phase queue = machine.turning_in_phase (waiting_input input queue) scene.shell.now.frames (turn_start scene) phase

-- what the code made of a turn, with its draft, is what the machine says: it leaves these lines waiting, or takes the first of them
abbrev pub IsTurning : Scene → List Text → TurnKind → Draft → machine.Turning → Type 0
IsTurning scene queue NotReady draft (machine.Refuses why) = why ≡ refusal.NotReady
IsTurning scene queue Ends draft machine.Ends = Unit {0}
IsTurning scene queue Goes draft (machine.Turned rest turned) = (rest ≡ queue) × IsDrafted scene draft turned
IsTurning scene queue Takes draft (machine.Turned rest turned) = (line : Text) × (queue ≡ line ∷ rest) × IsDrafted scene draft turned
IsTurning scene queue _ draft _ = ⊥

-- the machine's turn of the scene's shell, when these lines wait, if it is in the phase Ready and runs no frame
abbrev pub console_turning : Scene → Input → List Text → machine.Turning
console_turning scene input queue = machine.console_turning queue input.is_ended (turn_start scene)

-- what the code made of a turn, with its draft, is what the machine says, whatever lines wait after the first; `turning` is the machine's
-- turn by the lines that wait
abbrev pub GivesTurning : Scene → Input → (List Text → machine.Turning) → TurnKind → Draft → Type 0
GivesTurning scene input turning turn draft =
    (queue : List Text) → IsFirst (option_copied input.line) queue → IsTurning scene queue turn draft (turning queue)

-- the next line of the newest of these frames, if there is one
abbrev pub next_frame_line : List FrameState → Option Text
next_frame_line [] = None
next_frame_line (frame ∷ frames) = slice_get frame.lines frame.position

-- the draft holds what the next line of the newest of these frames leaves, if there is a frame
abbrev pub IsScriptDrafted : Scene → Draft → List FrameState → Type 0
IsScriptDrafted scene draft [] = Unit {0}
IsScriptDrafted scene draft (frame ∷ frames) =
    IsDrafted scene draft (machine.turn_of_frame frame frames (turn_start scene) (slice_get frame.lines frame.position))

-- an allocation may fail at an event that has this result: a refusal and a shell's end allocate nothing
abbrev pub TurnMayFailToAllocate : machine.Turning → Type 0
TurnMayFailToAllocate (machine.Refuses why) = ⊥
TurnMayFailToAllocate machine.Ends = ⊥
TurnMayFailToAllocate (machine.Turned rest turned) = Unit {0}

-- an allocation may fail at a turn, as the machine goes on at it, whatever lines wait after the first; `turning` is the machine's turn by
-- the lines that wait
abbrev pub MayLackMemory : Input → (List Text → machine.Turning) → Type 0
MayLackMemory input turning = (queue : List Text) → IsFirst (option_copied input.line) queue → TurnMayFailToAllocate (turning queue)
