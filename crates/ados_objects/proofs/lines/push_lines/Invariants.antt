use Rattle.std.proofs.Common.{◌≡◌, ◌++◌, drop}
use Rattle.ados_objects.specs.Lines.{entry_lines}
use Rattle.ados_objects.proofs.lines.push_lines.Given as goal

abbrev pub invariant-loop-place : goal.invariant-loop-place
invariant-loop-place g l =
    l.output.items ++ entry_lines (g.L.Line.line l.line) l.ram (drop l.place-index l.places)
    ≡ l.initial.output.items ++ entry_lines (g.L.Line.line l.line) l.ram l.places
