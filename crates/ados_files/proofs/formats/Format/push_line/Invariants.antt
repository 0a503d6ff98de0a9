use Rattle.std.proofs.Common.{◌≡◌, ◌++◌, drop}
use Rattle.std.specs.List.{flat_map}
use Rattle.ados_files.specs.Formats.{part_text}
use Rattle.ados_files.proofs.formats.Format.push_line.Given as goal

abbrev pub invariant-loop-part : goal.invariant-loop-part
invariant-loop-part l =
    l.line.items ++ flat_map (part_text l.path l.entry) (drop l.part-index l.parts) ≡ flat_map (part_text l.path l.entry) l.parts
