use Rattle.std.proofs.Common.{◌≡◌, ◌≤◌, ◌∙◌, length, arith, rules}
use Rattle.std.proofs.lemmas.Grind.{common_steps}
use Rattle.ados_world.proofs.BreakLemmas.{number-broken, number-past}
use Rattle.ados_world.proofs.breaks.break_number.Goals as goal

pub returns-in-1-to-20-clause-broken : goal.returns-in-1-to-20-clause-broken
returns-in-1-to-20-clause-broken c =
    c.break_place.ensures ∙ number-broken c.args.breaks c.args.shells.now c.args.number (grind (arith, common_steps))

pub returns-else-number-lt21-clause-broken : goal.returns-else-number-lt21-clause-broken
returns-else-number-lt21-clause-broken c =
    let twenty : length c.args.shells.now ≡ 20 = search rules in
    number-past c.args.breaks c.args.shells.now c.args.number twenty (λ one. grind (arith, common_steps))

pub returns-in-1-to-20-clause-outside : goal.returns-in-1-to-20-clause-outside
returns-in-1-to-20-clause-outside c past =
    let low : 1 ≤ c.args.number = grind (arith, common_steps) in
    let high : c.args.number ≤ 20 = grind (arith, common_steps) in
    absurd (let above = past low in omega (arith, above, high))
