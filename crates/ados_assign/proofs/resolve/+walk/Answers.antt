use Rattle.std.proofs.Common.{rules, ◌≡◌, ◌∙◌, [], ◌∷◌, ◌++◌, ap, sym, arith}
use Rattle.std.specs.Option.{option_copied}
use Rattle.std.specs.FinMap as map
use Rattle.ados_ram.specs.Place.{Place, key_of}
use Rattle.ados_ram.specs.Tree.{subtree_rows}
use Rattle.ados_assign.proofs.WalkLemmas.{gone_down, found_there}
use Rattle.ados_assign.proofs.resolve.+walk.Goals as goal

pub walk-requires-in-Some-entry : goal.walk-requires-in-Some-entry
walk-requires-in-Some-entry t c = (
  omega (arith, c.in-Some.ensures.cases.1, c.decreases),
  gone_down c.args.ram.now c.args.from c.new-name.result c.known.result c.child-here.result c.known.ensures c.child-here.ensures ∙ ap (λ (p : Place). subtree_rows (key_of p) (map.entries c.args.ram.now)) (sym c.in_ok-next-in-Name.ensures),
)

pub returns-in-None-entry : goal.returns-in-None-entry
returns-in-None-entry t c =
    let here = gone_down c.args.ram.now c.args.from c.new-name.result c.known.result c.child-here.result c.known.ensures c.child-here.ensures in
    let there : option_copied c.entry.result ≡ map.get c.args.ram.now (key_of (c.args.from ++ c.new-name.result ∷ [])) = c.entry.ensures ∙ found_there c.args.ram.now (key_of (c.args.from ++ c.new-name.result ∷ [])) c.child-here.result here in
    search rules

pub returns-in-Some-entry : goal.returns-in-Some-entry
returns-in-Some-entry t c =
    let here = gone_down c.args.ram.now c.args.from c.new-name.result c.known.result c.child-here.result c.known.ensures c.child-here.ensures in
    let there : option_copied c.entry.result ≡ map.get c.args.ram.now (key_of (c.args.from ++ c.new-name.result ∷ [])) = c.entry.ensures ∙ found_there c.args.ram.now (key_of (c.args.from ++ c.new-name.result ∷ [])) c.child-here.result here in
    search rules

pub returns-in-Some-2 : goal.returns-in-Some-2
returns-in-Some-2 t c =
    let here = gone_down c.args.ram.now c.args.from c.new-name.result c.known.result c.child-here.result c.known.ensures c.child-here.ensures in
    let there : option_copied c.entry.result ≡ map.get c.args.ram.now (key_of (c.args.from ++ c.new-name.result ∷ [])) = c.entry.ensures ∙ found_there c.args.ram.now (key_of (c.args.from ++ c.new-name.result ∷ [])) c.child-here.result here in
    search rules
