use Rattle.std.proofs.Common.{◌≡◌, ◌+◌, ◌-◌, ◌≤◌, arith, ap, sym, ◌∙◌, length, take, drop, length-take, subst}
use Rattle.std.proofs.lemmas.List.{drop-take, drop-drop}
use Rattle.ados_launch.proofs.read_ahead.ReadAhead.skip.Goals as goal

pub returns-clause-rest : goal.returns-clause-rest
returns-clause-rest c =
    let rest = drop c.self.inside.from c.self.inside.buffer in
    let left = c.self.inside.to - (c.self.inside.from + c.args.count) in
    let seen : c.args.self.now ≡ take (c.self.inside.to - c.self.inside.from) rest = sym c.self.view_is in
    let few : c.args.count ≤ length (take (c.self.inside.to - c.self.inside.from) rest) = subst (λ xs. c.args.count ≤ length xs) seen c.requires in
    let parted : c.self.inside.to - c.self.inside.from ≡ c.args.count + left =
    omega (arith, few, length-take (c.self.inside.to - c.self.inside.from) rest) in
    ap (take left) (sym (drop-drop c.args.count c.self.inside.from c.self.inside.buffer))
    ∙ (sym (drop-take c.args.count left rest) ∙ (ap (λ n. drop c.args.count (take n rest)) (sym parted) ∙ ap (drop c.args.count) (sym seen)))
