-- Findings that speak of a carriage return at the end of a line: one is kept that refuses it.
use Rattle.std.specs.Prelude.{ℕ, ◌==◌, ◌||◌, Bool, not, List, Option, Some, None}
use Rattle.std.specs.List.{filter, find}
use Rattle.std.specs.Option.{option_map}
use Rattle.ados_check.specs.declared.findings.Finding.{Finding}
use Rattle.ados_check.specs.Problems.{refuses_return, speaks_of_return}

-- a finding is of this line, or does not speak of a carriage return
abbrev pub is_kept : ℕ → Finding → Bool
is_kept line one = one.line == line || not (speaks_of_return one.problem)

-- findings of which only those of this line speak of a carriage return; without a line (none) all stay
abbrev pub with_return_of : Option ℕ → List Finding → List Finding
with_return_of None found = found
with_return_of (Some line) found = filter (is_kept line) found

-- findings in which only one line speaks of a carriage return, the first that must not be run for it; all stay if there is no such line
abbrev pub merged : List Finding → List Finding
merged found = with_return_of (option_map (λ one. one.line) (find (λ one. refuses_return one.problem) found)) found
