-- Lines of a dump, one after the other.
use Rattle.std.proofs.Common.{◌≡◌, ℕ, suc, ◌+◌, ◌*◌, ◌++◌, take, drop, refl}
use Rattle.ados_text.specs.Text.{Bytes}
use Rattle.ados_files.specs.Dumps.{hex_line, hex_lines}

pub one_line_more : (count rest number : ℕ) (first behind bytes : Bytes) → count ≡ suc rest → first ≡ take 16 bytes → behind ≡ drop 16 bytes →
    hex_line (number * 16) first ++ hex_lines rest (number + 1) behind ≡ hex_lines count number bytes
one_line_more count rest number first behind bytes e f g = rw e (rw f (rw g refl))
