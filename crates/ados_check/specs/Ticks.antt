-- The texts between back-ticks in a line, and the line around them.
use Rattle.std.specs.Prelude.{ℕ, ◌+◌, ◌==◌, ◌&&◌, ◌||◌, List, [], ◌∷◌, ◌++◌, Bool, false, not, Option, Some, None, is_some, if◌then◌else◌}
use Rattle.std.specs.Option.{option_map}
use Rattle.ados_text.specs.Text.{Bytes}
use Rattle.ados_check.specs.declared.ticks.Before.{Before}
use Rattle.ados_check.specs.declared.ticks.Ticked.{Ticked}

-- a byte is a back-tick that no star escapes
abbrev pub is_tick : Before → ℕ → Bool
is_tick before c = c == 96 && not before.is_starred

-- where the text begins that is open after a back-tick at a place: behind it, unless it closes a text
abbrev pub opened_by : ℕ → Option ℕ → Option ℕ
opened_by place None = Some (place + 1)
opened_by place (Some from) = None

-- what stands before the next byte, given what stands before a byte at a place
abbrev pub after_byte : Before → ℕ → ℕ → Before
after_byte before place c = record { opened = if is_tick before c then opened_by place before.opened else before.opened; is_starred = c == 42 && not before.is_starred }

-- the text that a byte at a place closes
abbrev pub closed_at : Before → ℕ → ℕ → Option Ticked
closed_at before place c = if is_tick before c then option_map (λ from. record { from = from; to = place }) before.opened else None

-- what a byte becomes in the line around the texts between back-ticks: `_` in the place of a back-tick and of all between two
abbrev pub around_byte : Before → ℕ → ℕ
around_byte before c = if is_some before.opened || is_tick before c then 95 else c

-- what stands before the first byte of a line
abbrev pub start : Before
start = record { opened = None; is_starred = false }

-- a text between back-ticks alone in a list; without one (none) the list is empty
abbrev pub one_or_none : Option Ticked → List Ticked
one_or_none None = []
one_or_none (Some text) = text ∷ []

-- the texts between back-ticks that are closed in a line from a place on
abbrev pub ticked_from : Before → ℕ → Bytes → List Ticked
ticked_from before place [] = []
ticked_from before place (c ∷ cs) = one_or_none (closed_at before place c) ++ ticked_from (after_byte before place c) (place + 1) cs

-- the line around the texts between back-ticks, from a place on
abbrev pub around_from : Before → ℕ → Bytes → Bytes
around_from before place [] = []
around_from before place (c ∷ cs) = around_byte before c ∷ around_from (after_byte before place c) (place + 1) cs

-- the texts between back-ticks in a line, in order
abbrev pub texts_in_ticks : Bytes → List Ticked
texts_in_ticks line = ticked_from start 0 line

-- a line with one word in the place of each text between back-ticks
abbrev pub around : Bytes → Bytes
around line = around_from start 0 line
