use Rattle.std.proofs.Common.{◌≡◌, ◌||◌}
use Rattle.std.specs.List.{list_any}
use Rattle.ados_text.specs.Text.{Bytes}
use Rattle.ados_share.specs.Changes.{has_changed}
use Rattle.ados_share.specs.Records.{has_key}
use Rattle.ados_share.proofs.mirror.Mirror.changes.Given as goal

-- what is planned and what is left to be looked at are all that may have changed
abbrev pub invariant-loop-key : goal.invariant-loop-key
invariant-loop-key l = (q : Bytes) → (has_key l.changes q || list_any (has_changed l.files l.self.records q) l.key-iterator) ≡ list_any (has_changed l.files l.self.records q) l.look.seen.entries
