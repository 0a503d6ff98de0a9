use Rattle.std.proofs.Common.{◌≡◌, ◌||◌}
use Rattle.std.specs.List.{list_any}
use Rattle.ados_text.specs.Text.{Bytes}
use Rattle.ados_share.specs.Records.{has_key, has_left}
use Rattle.ados_share.proofs.mirror.Mirror.known_departures.Given as goal

-- what is planned and what is left to be looked at are all that has left
abbrev pub invariant-loop-key : goal.invariant-loop-key
invariant-loop-key l = (q : Bytes) → (has_key l.departures.by_key q || list_any (has_left l.files q) l.key-iterator) ≡ list_any (has_left l.files q) l.self.records.entries
