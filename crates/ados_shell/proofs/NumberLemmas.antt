-- The numbers of shells: what is seen of a shell is at the shell's number.
use Rattle.std.proofs.Common.{◌≡◌, ℕ, suc, List, [], ◌∷◌, Option, Some, None, refl}
use Rattle.ados_machine.specs.Numbers.{first_free_number, free_number}
use Rattle.ados_machine.specs.Shells.{ShellState}
use Rattle.ados_machine.specs.World.{seen_shells}

from-seen : (n : ℕ) (shells : List (Option ShellState)) → first_free_number n (seen_shells shells) ≡ first_free_number n shells
from-seen n [] = refl
from-seen n (None ∷ shells) = refl
from-seen n (Some shell ∷ shells) = from-seen (suc n) shells

pub free_seen : (shells : List (Option ShellState)) → free_number (seen_shells shells) ≡ free_number shells
free_seen [] = refl
free_seen (first ∷ shells) = from-seen 2 shells
