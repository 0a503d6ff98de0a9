use Rattle.std.proofs.Common.{◌≡◌, [], drop, map}
use Rattle.ados_readargs.specs.Template.{parsed_options}
use Rattle.ados_readargs.proofs.template.parsed_options.Given as goal

abbrev pub invariant-loop-text : goal.invariant-loop-text
invariant-loop-text l = parsed_options [] (map (λ p. p.now) l.texts) ≡ parsed_options l.options.items (map (λ p. p.now) (drop l.text-index l.texts))
