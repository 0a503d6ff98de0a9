use Rattle.std.proofs.Common.{◌≡◌, ◌++◌, arith}
use Rattle.std.proofs.lemmas.Grind.{common_steps}
use Rattle.ados_files.specs.Below.{objects_down}
use Rattle.ados_files.proofs.LevelLemmas.{down_further}
use Rattle.ados_files.proofs.below.+push_down.Goals as goal

pub returns : goal.returns
returns t c =
    let further = down_further c.args.levels c.args.ram.now c.args.place.now (omega (arith, c.if-levels-eq0.false)) in
    let all : c.loop-object.places.items ≡ c.args.places.now.items ++ objects_down c.args.levels c.args.ram.now c.args.place.now = rw further (grind (arith, common_steps)) in
    all
