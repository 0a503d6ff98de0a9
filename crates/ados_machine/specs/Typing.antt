-- Typing: which typed lines are taken in.
use Rattle.std.specs.Prelude.{◌≡◌, ◌≤◌, ◌<◌, [], ◌∷◌, ◌++◌, length, false, None}
use Rattle.ados_text.specs.Text.{Text}
use Rattle.ados_line.specs.Cut.{line_limit}
use Rattle.ados_machine.specs.declared.events.Event.TheVariants.{Typed}
use Rattle.ados_machine.specs.declared.refusals.Refusal.TheVariants.{QueueFull}
use Rattle.ados_machine.specs.Step.{Refused, Accepted, event_out, step_of}
use Rattle.ados_machine.specs.World.{WorldState, is_over}

-- while less than 256 lines wait, a typed line that is not too long comes after them, and nothing else happens
abbrev pub LinesAreTakenIn : Type 0
LinesAreTakenIn = (w : WorldState) (line : Text) →
    is_over w ≡ false → w.input_ended ≡ false → length w.queue < 256 → length line ≤ line_limit →
    step_of w (Typed line) ≡ Accepted (record w { queue = w.queue ++ line ∷ [] }) (event_out [] None []) []

-- while 256 lines wait, no typed line is taken in
abbrev pub FullQueuesTakeNoLine : Type 0
FullQueuesTakeNoLine = (w : WorldState) (line : Text) →
    is_over w ≡ false → w.input_ended ≡ false → 256 ≤ length w.queue → step_of w (Typed line) ≡ Refused QueueFull
