use Rattle.std.proofs.Common.{◌≡◌, ◌||◌}
use Rattle.std.specs.BTreeMap.{keys}
use Rattle.std.specs.List.{list_any}
use Rattle.ados_text.specs.Text.{Bytes}
use Rattle.ados_share.specs.Changes.{is_gone}
use Rattle.ados_share.specs.Records.{has_key}
use Rattle.ados_share.proofs.mirror.Mirror.add_gone.Given as goal

-- what is planned and what is left to be looked at are what was planned before and all that are gone
abbrev pub invariant-loop-key : goal.invariant-loop-key
invariant-loop-key l = (q : Bytes) → (has_key l.changes q || list_any (is_gone l.look q) l.key-iterator) ≡ (has_key l.initial.changes q || list_any (is_gone l.look q) (keys l.self.records))
