use Rattle.std.proofs.Common.{◌≡◌, ◌∙◌, false, ap, arith, replicate}
use Rattle.ados_launcher.proofs.programs.Programs.new.Goals as goal

pub returns : goal.returns
returns g c =
    let full : c.loop.counter ≡ 21 = omega arith in
    c.loop.invariant ∙ ap (λ n. replicate n false) full
