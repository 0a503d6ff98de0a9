use Rattle.std.proofs.Common.{◌≡◌, ◌<◌, ◌∙◌, length, arith, ap, sym, rules}
use Rattle.std.proofs.lemmas.Grind.{common_steps}
use Rattle.std.specs.Prelude.{option_map}
use Rattle.ados_machine.specs.Carrying.{carried_directory}
use Rattle.ados_world.proofs.FillLemmas.{more-filled, all-filled}
use Rattle.ados_world.proofs.carrying.carried_directories.Goals as goal

pub loop-place-preserved : goal.loop-place-preserved
loop-place-preserved c =
    let twenty : length c.args.shells.now ≡ 20 = search rules in
    let carry = option_map (carried_directory c.args.moved.now) in
    let within : c.loop-place.place < length c.args.shells.now = omega arith in
    let filled_within : c.loop-place.place < length c.loop-place.directories = omega (arith, c.loop-place.invariant.len) in
    record {
      filled = more-filled carry c.args.shells.now c.loop-place.directories c.loop-place.place c.index-shells-place.result c.index-shells-place.result
          c.in_ok-directories.field-0 within filled_within c.index-shells-place.is
          (c.in_ok-directories.ensures ∙ ap carry (sym c.index-shells-place.is))
          c.loop-place.invariant.filled;
      len = grind (arith, common_steps);
    }

pub returns : goal.returns
returns c =
    let twenty : length c.args.shells.now ≡ 20 = search rules in
    all-filled (option_map (carried_directory c.args.moved.now)) c.args.shells.now c.loop-place.directories c.loop-place.place
    (omega (arith, c.loop-place.invariant.len)) (omega arith) c.loop-place.invariant.filled
