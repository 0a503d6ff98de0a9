use Rattle.std.proofs.Common.{◌≡◌, ◌++◌, drop}
use Rattle.ados_machine.specs.Questions.{inquiry}
use Rattle.ados_shell.proofs.questions.inquire.Given as goal

-- the remaining lines answer as all do, after what was printed
abbrev pub invariant-loop-line : goal.invariant-loop-line
invariant-loop-line l = record {
  answered : (inquiry l.prompt (drop l.line-index l.lines)).answered ≡ (inquiry l.prompt l.lines).answered;
  printed : l.printed.items ++ (inquiry l.prompt (drop l.line-index l.lines)).printed ≡ l.fn.printed.items ++ (inquiry l.prompt l.lines).printed;
}
