use Rattle.std.proofs.Common.{◌≡◌, ◌∙◌, ◌+◌, drop, length, arith, ap, rules}
use Rattle.std.specs.Prelude.{slice_set, None}
use Rattle.std.proofs.lemmas.Grind.{common_steps}
use Rattle.ados_world.proofs.CarryingLemmas.{place-more, left-more}
use Rattle.ados_world.proofs.carrying.place_all.Goals as goal

pub loop-place-preserved : goal.loop-place-preserved
loop-place-preserved c =
    let shells : length c.args.shells.now ≡ 20 = search rules in
    let directories : length c.args.directories ≡ 20 = search rules in
    let i = c.loop-place.place in
    record {
      placed = ap (slice_set c.loop-place.shells i) c.move_to.ensures
          ∙ place-more c.args.directories c.loop-place.left c.args.shells.now c.loop-place.shells i c.take.result c.take.result c.index-shells-place.result
          c.loop-place.invariant.placed c.loop-place.invariant.left (omega arith) (omega arith) (search rules);
      left = ap (λ x. drop (i + 1) (slice_set c.loop-place.left i x)) (search rules)
          ∙ left-more c.loop-place.left c.args.directories i None c.loop-place.invariant.left;
      shells_len = grind (arith, common_steps);
      left_len = grind (arith, common_steps);
    }
