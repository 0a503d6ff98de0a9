-- What a run takes: events, each with what it gave, and lines that are too long for the machine.
use Rattle.std.specs.Prelude.{◌≡◌, ℕ, List, [], ◌∷◌, ◌++◌, None, Result, Ok, map, codes}
use Rattle.ados_text.specs.Text.{to_ascii}
use Rattle.ados_machine.specs.declared.events.Event.{Event}
use Rattle.ados_machine.specs.declared.events.Event.TheVariants.{Typed, EndOfInput, Turn, Answer, Break}
use Rattle.ados_machine.specs.declared.outs.Out.{Out}
use Rattle.ados_machine.specs.declared.refusals.Refusal.{Refusal}
use Rattle.ados_machine.specs.World.{WorldState}
use Rattle.ados_machine.specs.Step.{event_out, step_of}
use Rattle.ados_machine.specs.Runs.{IsResponse, resulting_world}
use Rattle.ados_launch.specs.declared.lines.LineKind.TheVariants.{End, Short, Long}
use Rattle.ados_launch.specs.Lines.{line_of, rest_of, kind_of}

-- an event that the machine accepts, with what it gives, or a long line, which is not an event
pub data TakenItem : Type 0 where
  Given : (event : Event) (out : Out) → TakenItem
  LongLine : TakenItem

-- the events of what was taken
abbrev pub taken_events : List TakenItem → List Event
taken_events [] = []
taken_events (Given event out ∷ taken) = event ∷ taken_events taken
taken_events (LongLine ∷ taken) = taken_events taken

-- what the machine answered to the events of what was taken: each was accepted
abbrev pub taken_outs : List TakenItem → List (Result Out Refusal)
taken_outs [] = []
taken_outs (Given event out ∷ taken) = Ok out ∷ taken_outs taken
taken_outs (LongLine ∷ taken) = taken_outs taken

-- what is written instead of a line that the machine does not take
abbrev pub long_line_text : List ℕ
long_line_text = codes "Line too long" ++ 10 ∷ []

-- what an item that was taken gave: what its event gave, or the text that is written for a long line
abbrev pub output_of : TakenItem → Out
output_of (Given event out) = out
output_of LongLine = event_out long_line_text None []

-- what is written for an item that was taken
abbrev pub bytes_of : TakenItem → List ℕ
bytes_of item = (output_of item).bytes

-- what is written for all that was taken, in order
abbrev pub written_bytes : List TakenItem → List ℕ
written_bytes [] = []
written_bytes (item ∷ taken) = bytes_of item ++ written_bytes taken

-- the world after an item was taken; a long line leaves it unchanged
abbrev pub world_after_item : WorldState → TakenItem → WorldState
world_after_item w (Given event out) = resulting_world w (Ok out) (step_of w event)
world_after_item w LongLine = w

-- in this world the machine accepts the event of an item, and gives exactly what the item says
abbrev pub IsAccepted : WorldState → TakenItem → Type 0
IsAccepted w (Given event out) = IsResponse event (Ok out) (step_of w event)
IsAccepted w LongLine = Unit {0}

-- the bytes of a line as text: `?` for each byte above ASCII
abbrev pub text_of : List ℕ → List ℕ
text_of line = map to_ascii line

-- an item is what comes next in these bytes: a line is typed as text, at their end the input ends, a long line is passed over; a turn, an
-- answer and a break read nothing
abbrev pub IsNext : List ℕ → TakenItem → Type 0
IsNext bytes (Given (Typed line) out) = (kind_of bytes ≡ Short) × (line ≡ text_of (line_of bytes))
IsNext bytes (Given EndOfInput out) = kind_of bytes ≡ End
IsNext bytes (Given (Turn k) out) = Unit {0}
IsNext bytes (Given (Answer k reply) out) = Unit {0}
IsNext bytes (Given (Break k kind) out) = Unit {0}
IsNext bytes LongLine = kind_of bytes ≡ Long

-- an item is a line of the reader, or the end of its input
abbrev pub IsOfReader : TakenItem → Type 0
IsOfReader (Given (Typed line) out) = Unit {0}
IsOfReader (Given EndOfInput out) = Unit {0}
IsOfReader (Given (Turn k) out) = ⊥
IsOfReader (Given (Answer k reply) out) = ⊥
IsOfReader (Given (Break k kind) out) = ⊥
IsOfReader LongLine = Unit {0}

-- what is left of these bytes after an item was taken
abbrev pub rest_after_item : List ℕ → TakenItem → List ℕ
rest_after_item bytes (Given (Typed line) out) = rest_of bytes
rest_after_item bytes (Given EndOfInput out) = rest_of bytes
rest_after_item bytes (Given (Turn k) out) = bytes
rest_after_item bytes (Given (Answer k reply) out) = bytes
rest_after_item bytes (Given (Break k kind) out) = bytes
rest_after_item bytes LongLine = rest_of bytes

-- the lines of these items are those of the bytes, in their order
abbrev pub AreRead : List ℕ → List TakenItem → Type 0
AreRead bytes [] = Unit {0}
AreRead bytes (item ∷ taken) = IsNext bytes item × AreRead (rest_after_item bytes item) taken

-- what is left of these bytes after all of these items were taken
abbrev pub rest_after_items : List ℕ → List TakenItem → List ℕ
rest_after_items bytes [] = bytes
rest_after_items bytes (item ∷ taken) = rest_after_items (rest_after_item bytes item) taken
