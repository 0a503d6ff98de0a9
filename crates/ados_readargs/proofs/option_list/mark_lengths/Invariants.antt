use Rattle.std.proofs.Common.{◌≡◌, ℕ, true, false, get_or, drop}
use Rattle.std.specs.List.{list_any}
use Rattle.ados_readargs.specs.NameLengths.{is_as_long, has_as_long}
use Rattle.ados_readargs.proofs.option_list.mark_lengths.Given as goal

-- a length that is not marked was not marked before, and is that of no name, if no later name has it
abbrev pub invariant-loop-name : goal.invariant-loop-name
invariant-loop-name l = (size : ℕ) → get_or l.lengths size true ≡ false → list_any (is_as_long size) (drop l.name-index l.option.names) ≡ false
    → (get_or l.initial.lengths size true ≡ false) × (has_as_long size l.option ≡ false)
