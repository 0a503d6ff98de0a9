use Rattle.std.proofs.Common.{◌≡◌, ℕ, ◌<◌}
use Rattle.ados_pattern.specs.Table.{is_set}
use Rattle.ados_pattern.proofs.Middles.{led_before}
use Rattle.ados_pattern.proofs.tables.through.Given as goal

abbrev pub invariant-loop-group : goal.invariant-loop-group
invariant-loop-group l = (b : ℕ) → b < 64 → is_set l.word b ≡ led_before l.first l.start l.rest l.limit l.group b
