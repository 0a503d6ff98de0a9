use Rattle.std.proofs.Common.{◌≡◌, ◌++◌, drop, map}
use Rattle.std.specs.Prelude.{flat_map}
use Rattle.ados_check.specs.LeftOut.{shown, ticked_part}
use Rattle.ados_check.proofs.left_out.Reader.options_left_out.Given as goal

abbrev pub invariant-loop-text : goal.invariant-loop-text
invariant-loop-text l =
    map shown l.found.items ++ flat_map (ticked_part l.self.commands.now l.self.dialect l.self.aliases.now l.plain) (drop l.text-index l.text-items)
    ≡ flat_map (ticked_part l.self.commands.now l.self.dialect l.self.aliases.now l.plain) l.text-items
