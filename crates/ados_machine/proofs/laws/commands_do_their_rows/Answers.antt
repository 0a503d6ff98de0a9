use Rattle.ados_machine.proofs.PlainLemmas.{enabled-found, effects-recorded, effects-printed, fail-at-sets, substitutions-keep, directories-carried}
use Rattle.ados_machine.proofs.laws.commands_do_their_rows.Goals as goal

pub returns : goal.returns
returns c = record {
  found = enabled-found;
  recorded = effects-recorded;
  printed = effects-printed;
  limit = fail-at-sets;
  kept = substitutions-keep;
  carried = directories-carried;
}
