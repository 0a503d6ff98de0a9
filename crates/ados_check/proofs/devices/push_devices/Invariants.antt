use Rattle.std.proofs.Common.{◌≡◌, ◌++◌, drop}
use Rattle.ados_check.specs.Devices.{devices_in}
use Rattle.ados_check.proofs.devices.push_devices.Given as goal

abbrev pub invariant-loop-word : goal.invariant-loop-word
invariant-loop-word l = l.initial.devices.items ++ devices_in l.line l.words ≡ l.devices.items ++ devices_in l.line (drop l.word-index l.words)
