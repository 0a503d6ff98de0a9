use Rattle.std.proofs.Common.{◌≡◌, map}
use Rattle.std.specs.List.{list_any}
use Rattle.std.specs.BTreeMap.{get_by_text}
use Rattle.ados_share.specs.Backups.{followed}
use Rattle.ados_share.specs.Moves.{gave_way}
use Rattle.ados_share.proofs.mirror.Mirror.followed_elsewhere.Given as goal

-- one of those that are left gave way if one of all did
abbrev pub invariant-loop-destination : goal.invariant-loop-destination
invariant-loop-destination l =
    list_any gave_way (map (λ one. one.now) l.destination-iterator.rest.items)
    ≡ list_any gave_way (followed l.self.backups.deleted.items (get_by_text l.self.records l.key) (get_by_text l.self.moves.by_key l.key))
