use Rattle.std.proofs.Common.{◌≡◌, ◌++◌, drop}
use Rattle.std.specs.Option.{option_copied}
use Rattle.ados_find.specs.Targets.{open_places}
use Rattle.ados_machine.specs.Course.{outputs_of}
use Rattle.ados_machine.specs.World.{seen_shells}
use Rattle.ados_shell.proofs.seen.outputs.Given as goal

abbrev pub invariant-loop-shell : goal.invariant-loop-shell
invariant-loop-shell l = l.places.items ++ outputs_of (seen_shells (drop l.shell-index l.shells)) ≡ open_places (option_copied l.target) ++ outputs_of (seen_shells l.shells)
