use Rattle.std.proofs.Common.{◌≡◌, ◌++◌, drop}
use Rattle.std.specs.List.{flat_map}
use Rattle.ados_readargs.specs.Args.{option_texts}
use Rattle.ados_env.specs.EvalFull.{after_blank}
use Rattle.ados_env.proofs.eval_full.push_words.Given as goal

abbrev pub invariant-loop-number : goal.invariant-loop-number
invariant-loop-number l = l.text.items ++ flat_map after_blank (drop l.number (option_texts l.args l.place)) ≡ l.initial.text.items ++ flat_map after_blank (option_texts l.args l.place)
