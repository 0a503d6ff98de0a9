use Rattle.std.proofs.Common.{◌≡◌, ◌<◌, ◌∙◌, length, arith, ap, sym, rules}
use Rattle.std.proofs.lemmas.Grind.{common_steps}
use Rattle.std.specs.Prelude.{is_some}
use Rattle.ados_world.proofs.FillLemmas.{more-filled, all-filled}
use Rattle.ados_world.proofs.shells.taken.Goals as goal

pub loop-place-preserved : goal.loop-place-preserved
loop-place-preserved c =
    let twenty : length c.args.shells.now ≡ 20 = search rules in
    let within : c.loop-place.place < length c.args.shells.now = omega arith in
    let flags_within : c.loop-place.place < length c.loop-place.taken = omega (arith, c.loop-place.invariant.len) in
    record {
      flags = more-filled is_some c.args.shells.now c.loop-place.taken c.loop-place.place c.index-shells-place.result c.index-shells-place.result
          c.is_some.result within flags_within c.index-shells-place.is (c.is_some.ensures ∙ ap is_some (sym c.index-shells-place.is))
          c.loop-place.invariant.flags;
      len = grind (arith, common_steps);
    }

pub returns : goal.returns
returns c =
    let twenty : length c.args.shells.now ≡ 20 = search rules in
    all-filled is_some c.args.shells.now c.loop-place.taken c.loop-place.place (omega (arith, c.loop-place.invariant.len)) (omega arith) c.loop-place.invariant.flags
