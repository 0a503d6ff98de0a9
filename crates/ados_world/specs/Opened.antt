-- Opening a shell for a line: the refusals, and the world after it.
use Rattle.std.specs.Prelude.{◌≡◌, ℕ, [], ◌∷◌, length, nat_lt, Option, Some, None, Result, Ok, Err, if◌then◌else◌}
use Rattle.ados_text.specs.Text.{Text}
use Rattle.ados_text.specs.declared.lines.TheConstants.{LINE_BYTES}
use Rattle.ados_machine.specs.declared.refusals.Refusal.{Refusal}
use Rattle.ados_machine.specs.declared.refusals.Refusal.TheVariants.{Over, LineTooLong, NoMemory}
use Rattle.ados_machine.specs.LoneShell.{world_with_opened}
use Rattle.ados_machine.specs.World.{WorldState, is_over}

-- why no shell is opened for a line in a world: no shell is left, or the line is too long
abbrev pub opening_fault : WorldState → Text → Option Refusal
opening_fault w line = if is_over w then Some Over else (if nat_lt LINE_BYTES (length line) then Some LineTooLong else None)

-- the result of opening a shell is a refusal by this fault, if there is one; if there is none, `NoMemory` is possible where a number is
-- free
abbrev pub Refuses : Result (Option ℕ) Refusal → Option Refusal → Option ℕ → Type 0
Refuses (Ok number) fault free = fault ≡ None
Refuses (Err why) (Some fault) free = why ≡ fault
Refuses (Err why) None (Some number) = why ≡ NoMemory
Refuses (Err why) None None = ⊥

-- the world after a shell was opened for a line, with this result: it is unchanged after a refusal, and if no number is free
abbrev pub world_after_opening : WorldState → Text → Result (Option ℕ) Refusal → WorldState
world_after_opening w line (Ok (Some k)) = world_with_opened w k (line ∷ [])
world_after_opening w line _ = w
