use Rattle.std.proofs.Common.{◌≡◌, ◌++◌, false, drop}
use Rattle.ados_files.specs.Formats.{parts_from}
use Rattle.ados_files.proofs.formats.parts_of.Given as goal

abbrev pub invariant-loop-byte : goal.invariant-loop-byte
invariant-loop-byte l = l.parts.items ++ parts_from l.signed (drop l.byte-index l.text) ≡ parts_from false l.text
