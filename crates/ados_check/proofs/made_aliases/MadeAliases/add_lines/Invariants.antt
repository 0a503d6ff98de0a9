use Rattle.std.proofs.Common.{take}
use Rattle.ados_check.specs.Aliases.{HasLines}
use Rattle.ados_check.proofs.made_aliases.MadeAliases.add_lines.Given as goal

abbrev pub invariant-loop-line : goal.invariant-loop-line
invariant-loop-line l = HasLines l.initial.self l.self (take l.line-index l.lines)
