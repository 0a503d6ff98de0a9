use Rattle.std.proofs.Common.{◌≡◌, ◌||◌}
use Rattle.std.specs.List.{list_any}
use Rattle.ados_text.specs.Text.{Bytes}
use Rattle.ados_share.specs.Around.{lets_go}
use Rattle.ados_share.specs.Records.{has_key}
use Rattle.ados_share.proofs.mirror.Mirror.hold_back.Given as goal

-- what is left and what of the rest is let go are all that is let go
abbrev pub invariant-loop-key : goal.invariant-loop-key
invariant-loop-key l = (q : Bytes) → (has_key l.departures.by_key q || list_any (lets_go l.bytes l.self.records q) l.key-iterator) ≡ list_any (lets_go l.bytes l.self.records q) l.fn.departures.by_key.entries
