use Rattle.std.proofs.Common.{◌≡◌, ◌≤◌, ◌+◌, length}
use Rattle.ados_files.specs.Hits.{hit_lines, hits_of, numbered_lines, search_lines, with_hits}
use Rattle.ados_files.specs.SortOrder.{plain_lines}
use Rattle.ados_files.proofs.hits.search_lines.Given as goal

abbrev pub invariant-loop-rest : goal.invariant-loop-rest
invariant-loop-rest l =
    (with_hits l.searching.numbered (hits_of l.hits) (hit_lines l.searching.wanted (numbered_lines l.number (plain_lines l.rest)))
    ≡ search_lines l.searching (hits_of l.fn.hits) (plain_lines l.bytes))
    × (l.number + length l.rest ≤ length l.bytes + 1)

abbrev pub decreases-loop-rest : goal.decreases-loop-rest
decreases-loop-rest l = length l.rest
