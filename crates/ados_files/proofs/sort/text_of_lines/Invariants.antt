use Rattle.std.proofs.Common.{◌≡◌, ◌++◌, drop}
use Rattle.ados_files.specs.Sort.{text_of_lines}
use Rattle.ados_files.proofs.sort.text_of_lines.Given as goal

abbrev pub invariant-loop-line : goal.invariant-loop-line
invariant-loop-line l = l.text.items ++ text_of_lines (drop l.line-index l.lines) ≡ text_of_lines l.lines
