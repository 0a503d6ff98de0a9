use Rattle.std.proofs.Common.{◌≡◌, ◌++◌, drop, map}
use Rattle.ados_files.specs.Dumps.{character_of}
use Rattle.ados_files.proofs.dumps.push_characters.Given as goal

abbrev pub invariant-loop-byte : goal.invariant-loop-byte
invariant-loop-byte l = l.output.items ++ map character_of (drop l.byte-index l.bytes) ≡ l.initial.output.items ++ map character_of l.bytes
