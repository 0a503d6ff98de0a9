use Rattle.std.proofs.Common.{◌≡◌, ◌++◌, drop, map}
use Rattle.ados_machine.specs.Lines.{name_seen}
use Rattle.ados_machine.specs.World.{seen_shells}
use Rattle.ados_shell.proofs.seen.names.Given as goal

abbrev pub invariant-loop-shell : goal.invariant-loop-shell
invariant-loop-shell l = l.names.items ++ map name_seen (seen_shells (drop l.shell-index l.shells)) ≡ map name_seen (seen_shells l.shells)
