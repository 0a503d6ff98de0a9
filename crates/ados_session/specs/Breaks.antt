-- The breaks that a recording writes.
use Rattle.std.specs.Prelude.{ℕ, nat_le, Bool, true, ◌&&◌, List, [], ◌∷◌, Option, Some, None, codes, if◌then◌else◌}
use Rattle.std.specs.Option.{option_map_or}
use Rattle.std.specs.Str.{bytes_eq}
use Rattle.ados_text.specs.Text.{Text}
use Rattle.ados_machine.specs.declared.events.BreakAt.{BreakAt}
use Rattle.ados_machine.specs.declared.events.BreakKind.{BreakKind}
use Rattle.ados_machine.specs.declared.events.BreakKind.TheVariants.{C, D}
use Rattle.ados_session.specs.Parts.{split_at_space, unsigned_number}

-- the number, if there is one and it is from 1 to `most`
abbrev pub number_up_to : ℕ → Option ℕ → Option ℕ
number_up_to most (Some n) = if nat_le 1 n && nat_le n most then Some n else None
number_up_to most None = None

-- the number that digits write, if it is from 1 to `most`
abbrev pub bounded_number : ℕ → Text → Option ℕ
bounded_number most digits = number_up_to most (unsigned_number digits)

-- the kind of break that a word names, if it names one
abbrev pub kind_of : Text → Option BreakKind
kind_of word = if bytes_eq word (codes "C") then Some C else (if bytes_eq word (codes "D") then Some D else None)

-- the break at an event, of a shell and of a kind, if there are all three
abbrev pub break_of_parts : Option ℕ → Option ℕ → Option BreakKind → Option BreakAt
break_of_parts (Some event) (Some shell) (Some kind) = Some (record { event = event; shell = shell; kind = kind })
break_of_parts event shell kind = None

-- the break that a text writes, by the first of its words, the number of an event, and the rest: that of a shell, and the kind
abbrev pub break_after_number : Text → Text → Option BreakAt
break_after_number event rest = option_map_or (λ p. break_of_parts (bounded_number 1_000_000_000 event) (bounded_number 20 p.0) (kind_of p.1)) (split_at_space rest) None

-- the break that a text writes with three words, if it writes one: the number of an event, that of a shell, and the kind
abbrev pub break_of : Text → Option BreakAt
break_of text = option_map_or (λ p. break_after_number p.0 p.1) (split_at_space text) None

-- the numbers of these breaks' events do not decrease, and none is below `least`
abbrev pub rise_from : ℕ → List BreakAt → Bool
rise_from least [] = true
rise_from least (at ∷ breaks) = nat_le least at.event && rise_from at.event breaks

-- the numbers of these breaks' events do not decrease
abbrev pub are_rising : List BreakAt → Bool
are_rising breaks = rise_from 0 breaks

-- the number of the event of the last of these breaks, or `least` if there is none
abbrev pub last_event : ℕ → List BreakAt → ℕ
last_event least [] = least
last_event least (at ∷ breaks) = last_event at.event breaks
