use Rattle.std.proofs.Common.{◌≡◌, ◌++◌, [], drop, get_or}
use Rattle.ados_readargs.specs.Args.{option_texts}
use Rattle.ados_flow.proofs.PhraseLemmas.{after_blanks}
use Rattle.ados_flow.proofs.branches.phrase.Given as goal

abbrev pub invariant-loop-number : goal.invariant-loop-number
invariant-loop-number l = l.label ++ after_blanks (drop l.number (option_texts l.args 0)) ≡ get_or (option_texts l.args 0) 0 [] ++ after_blanks (drop 1 (option_texts l.args 0))
