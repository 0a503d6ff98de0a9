use Rattle.std.proofs.Common.{◌≡◌, ℕ, true, false, get_or, drop}
use Rattle.ados_readargs.specs.NameLengths.{one_is_as_long}
use Rattle.ados_readargs.proofs.option_list.name_lengths.Given as goal

-- a length that is not marked is that of no option's name, if no later option has one
abbrev pub invariant-loop-option : goal.invariant-loop-option
invariant-loop-option l = (size : ℕ) → get_or l.lengths size true ≡ false → one_is_as_long size (drop l.option-index l.options) ≡ false → one_is_as_long size l.options ≡ false
