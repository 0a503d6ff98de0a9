-- What holds above a line of a script.
use Rattle.std.specs.Prelude.{[], Option, None, unwrap_or}
use Rattle.ados_text.specs.Text.{Text}
use Rattle.ados_subst.specs.declared.above.Above.{Above}
use Rattle.ados_subst.specs.declared.slots.Slot.{Slot}
use Rattle.ados_subst.specs.Marks.{first_marks}
use Rattle.ados_subst.specs.Slots.{find_slot}

-- what holds above the first line
abbrev pub initial_above : Above
initial_above = record { marks = first_marks; slots = None }

-- the option with a name; above the template there is none
abbrev pub named_slot : Above → Text → Option Slot
named_slot above name = find_slot (unwrap_or above.slots []) name
