use Rattle.std.proofs.Common.{◌≡◌, drop}
use Rattle.ados_check.specs.ReleaseTwo.{first_named}
use Rattle.ados_check.proofs.release_two.first_named.Given as goal

abbrev pub invariant-loop-name : goal.invariant-loop-name
invariant-loop-name l = first_named (λ name. name.now) l.word l.names ≡ first_named (λ name. name.now) l.word (drop l.name-index l.names)
