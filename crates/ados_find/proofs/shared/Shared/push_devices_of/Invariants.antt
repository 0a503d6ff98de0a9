use Rattle.std.proofs.Common.{◌≡◌, ◌++◌, drop}
use Rattle.std.specs.List.{flat_map}
use Rattle.ados_assign.specs.Uses.{reached_devices}
use Rattle.ados_find.specs.Devices.{device_named}
use Rattle.ados_find.proofs.shared.Shared.push_devices_of.Given as goal

abbrev pub invariant-loop-text : goal.invariant-loop-text
invariant-loop-text l =
    l.used.items ++ flat_map (reached_devices l.self.assigns) (flat_map device_named (drop l.text-index l.texts))
    ≡ l.initial.used.items ++ flat_map (reached_devices l.self.assigns) (flat_map device_named l.texts)
