-- Which shells are due: what the words of a table say, and the first number from one on.
use Rattle.std.specs.Prelude.{◌≡◌, ◌≤◌, ◌-◌, ◌==◌, ℕ, List, [], Bool, true, Option, is_some}
use Rattle.std.specs.Int.{bit_at}
use Rattle.std.specs.List.{find, range_with_len}
use Rattle.ados_machine.specs.Shells.{ShellState}
use Rattle.ados_machine.specs.World.{at_number, can_turn, option_flatten, request_of_shell}
use Rattle.ados_world.specs.declared.due.DueShells.{DueShells}

-- the first number from this one on, up to 20, of which `is_so` holds
abbrev pub first_number : ℕ → (ℕ → Bool) → Option ℕ
first_number from is_so = find is_so (range_with_len from (21 - from))

-- the bit of number k is set in a word
abbrev pub is_set : ℕ → ℕ → Bool
is_set word k = bit_at word k == 1

-- a shell, if it is there, takes a turn once its input has a line or an end
abbrev pub takes_turns : Option ShellState → Bool
takes_turns shell = can_turn (record { queue = []; is_ended = true }) shell

-- a shell, if it is there, asked a launcher for something, and waits for it
abbrev pub asks_now : Option ShellState → Bool
asks_now shell = is_some (request_of_shell shell)

-- the words of a table say of each number what its shell says: whether it takes turns, and whether it asks a launcher for something
pub record Tells (due : DueShells) (shells : List (Option ShellState)) : Type 0 where
  pub turning : (k : ℕ) → k ≤ 20 → is_set due.turning k ≡ takes_turns (option_flatten (at_number shells k))
  pub pending : (k : ℕ) → k ≤ 20 → is_set due.pending k ≡ asks_now (option_flatten (at_number shells k))
