use Rattle.std.proofs.Common.{◌≡◌, ◌++◌, drop}
use Rattle.std.specs.List.{flat_map}
use Rattle.ados_check.specs.DeviceNews.{assigned_at}
use Rattle.ados_check.proofs.device_news.assigned_devices.Given as goal

abbrev pub invariant-loop-line : goal.invariant-loop-line
invariant-loop-line l = flat_map (assigned_at l.dialect) l.lines ≡ l.devices.items ++ flat_map (assigned_at l.dialect) (drop l.line-index l.lines)
