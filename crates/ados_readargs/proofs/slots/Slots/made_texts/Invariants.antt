use Rattle.std.proofs.Common.{◌≡◌, take}
use Rattle.ados_readargs.specs.Args.{option_texts}
use Rattle.ados_readargs.proofs.slots.Slots.made_texts.Given as goal

abbrev pub invariant-loop-number : goal.invariant-loop-number
invariant-loop-number l = l.texts ≡ take l.number (option_texts l.self l.place)
