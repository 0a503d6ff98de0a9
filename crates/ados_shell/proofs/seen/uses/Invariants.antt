use Rattle.std.proofs.Common.{◌≡◌, ◌++◌, drop}
use Rattle.ados_machine.specs.Course.{uses_of}
use Rattle.ados_machine.specs.World.{seen_shells}
use Rattle.ados_shell.proofs.seen.uses.Given as goal

abbrev pub invariant-loop-shell : goal.invariant-loop-shell
invariant-loop-shell l = l.uses ++ uses_of (seen_shells (drop l.shell-index l.shells)) ≡ uses_of (seen_shells l.shells)
