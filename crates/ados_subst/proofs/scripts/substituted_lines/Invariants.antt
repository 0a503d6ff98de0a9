use Rattle.std.proofs.Common.{◌≡◌, ◌+◌, drop}
use Rattle.ados_subst.specs.Above.{initial_above}
use Rattle.ados_subst.specs.Scripts.{substituted_lines}
use Rattle.ados_subst.proofs.ScriptLemmas.{with_lines}
use Rattle.ados_subst.proofs.scripts.substituted_lines.Given as goal

abbrev pub invariant-loop-place : goal.invariant-loop-place
invariant-loop-place l =
    substituted_lines l.args l.process initial_above 1 l.lines
    ≡ with_lines l.texts (substituted_lines l.args l.process l.above (l.place + 1) (drop l.place l.lines))
