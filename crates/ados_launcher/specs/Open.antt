-- Open: which children are open, in a table by their numbers.
use Rattle.std.specs.Prelude.{◌≡◌, ℕ, List, Bool, true, false, get_or, replicate, slice_set}
use Rattle.ados_machine.specs.declared.answers.Answer.{Answer}
use Rattle.ados_machine.specs.declared.answers.Answer.TheVariants.{Started}
use Rattle.ados_launcher.specs.declared.calls.Call.{Call}
use Rattle.ados_launcher.specs.Lifecycles.{is_open, lifecycle_for_state, state_of}

-- the table, by number, in which no child is open
abbrev pub no_open_children : List Bool
no_open_children = replicate 21 false

-- a child is open after a start with this answer; the Bool says whether it was open before
abbrev pub is_open_after_start : Answer → Bool → Bool
is_open_after_start Started was_open = true
is_open_after_start answer was_open = was_open

-- the table of open children, by number, after a start of child k with this answer
abbrev pub next_open_table : ℕ → Answer → List Bool → List Bool
next_open_table k answer table = slice_set table k (is_open_after_start answer (get_or table k false))

-- by number, a child is open in the table exactly if it is by the list of calls
abbrev pub AreOpen : List Bool → List Call → Type 0
AreOpen table calls = (k : ℕ) → get_or table k false ≡ is_open (lifecycle_for_state (state_of k calls))
