use Rattle.std.proofs.Common.{◌≡◌, ◌≤◌, ◌+◌, ◌++◌, drop}
use Rattle.ados_files.specs.Dumps.{numbered_from, numbered_text}
use Rattle.ados_files.proofs.dumps.numbered.Given as goal

abbrev pub invariant-loop-byte : goal.invariant-loop-byte
invariant-loop-byte l =
    (l.output.items ++ numbered_from l.begins l.number (drop l.byte-index l.bytes) ≡ numbered_text l.bytes)
    × (l.number ≤ l.byte-index + 1)
