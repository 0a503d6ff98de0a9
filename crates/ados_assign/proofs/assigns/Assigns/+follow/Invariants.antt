use Rattle.std.proofs.Common.{◌+◌, ◌*◌}
use Rattle.ados_assign.proofs.assigns.Assigns.+follow.Given as goal

-- a text's path is resolved, which may lead to another text, one level deeper
abbrev pub decreases-follow_by : goal.decreases-follow_by
decreases-follow_by l = 3 * l.levels

abbrev pub decreases-walk_by : goal.decreases-walk_by
decreases-walk_by l = 3 * l.levels + 1

abbrev pub decreases-resolve_by : goal.decreases-resolve_by
decreases-resolve_by l = 3 * l.levels + 2
