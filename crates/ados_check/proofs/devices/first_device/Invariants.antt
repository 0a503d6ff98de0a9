use Rattle.std.proofs.Common.{◌≡◌, drop}
use Rattle.ados_check.specs.Devices.{first_device}
use Rattle.ados_check.proofs.devices.first_device.Given as goal

abbrev pub invariant-loop-word : goal.invariant-loop-word
invariant-loop-word l = first_device l.line l.words ≡ first_device l.line (drop l.word-index l.words)
