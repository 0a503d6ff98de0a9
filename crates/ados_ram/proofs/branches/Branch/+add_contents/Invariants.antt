use Rattle.std.proofs.Common.{◌≡◌, ◌++◌, [], length, drop}
use Rattle.ados_ram.specs.Contents.{contents}
use Rattle.ados_ram.specs.Tree.{flatten, places_of_ways}
use Rattle.ados_ram.proofs.branches.Branch.+add_contents.Given as goal

abbrev pub decreases-add_contents : goal.decreases-add_contents
decreases-add_contents l = length l.self.now.1

abbrev pub invariant-loop-kid : goal.invariant-loop-kid
invariant-loop-kid l = l.places.items ++ places_of_ways l.place (contents [] (flatten (drop l.kid-index l.kid-items))) ≡ l.initial.places.items ++ places_of_ways l.place (contents [] (flatten l.kid-items))
