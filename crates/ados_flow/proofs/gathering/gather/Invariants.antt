use Rattle.std.proofs.Common.{◌≡◌, ◌<◌, length, ◌-◌, ◌+◌}
use Rattle.ados_flow.specs.Gathering.{run_gathering, run_limit}
use Rattle.ados_flow.proofs.GatheringLemmas.{led}
use Rattle.ados_flow.proofs.gathering.gather.Given as goal

-- what is gathered so far, and then what the rest gathers; the lines that are left are those not taken
abbrev pub invariant-loop-line : goal.invariant-loop-line
invariant-loop-line l =
    (led l.commands (run_gathering (31 - length l.commands) l.last l.rest) ≡ run_gathering 31 l.text l.lines)
    × (length l.commands + length l.rest ≡ length l.lines)
    × (length l.commands < run_limit)

abbrev pub decreases-loop-line : goal.decreases-loop-line
decreases-loop-line l = length l.rest
