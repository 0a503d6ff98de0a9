use Rattle.std.proofs.Common.{◌≡◌, drop}
use Rattle.std.specs.List.{list_any}
use Rattle.ados_readargs.specs.Args.{option_texts}
use Rattle.ados_readargs.specs.Checks.{is_bad_text}
use Rattle.ados_readargs.proofs.checks.has_bad_text.Given as goal

abbrev pub invariant-loop-number : goal.invariant-loop-number
invariant-loop-number l = list_any is_bad_text (option_texts l.args l.place) ≡ list_any is_bad_text (drop l.number (option_texts l.args l.place))
