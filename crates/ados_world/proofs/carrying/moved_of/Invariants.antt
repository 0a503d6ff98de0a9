use Rattle.std.proofs.Common.{◌≡◌, ◌++◌, drop}
use Rattle.ados_machine.specs.Carrying.{moved_objects}
use Rattle.ados_world.proofs.carrying.moved_of.Given as goal

abbrev pub invariant-loop-object : goal.invariant-loop-object
invariant-loop-object l = l.moved.items ++ moved_objects l.old l.new (drop l.object-index l.renamed) ≡ moved_objects l.old l.new l.renamed
