use Rattle.std.proofs.Common.{◌≡◌, drop}
use Rattle.ados_readargs.specs.Meanings.{trimmed_end}
use Rattle.ados_readargs.proofs.keywords.trimmed_len.Given as goal

abbrev pub invariant-loop-place : goal.invariant-loop-place
invariant-loop-place l = trimmed_end 0 0 l.line ≡ trimmed_end l.end l.place (drop l.place l.line)
