use Rattle.ados_machine.proofs.CodesReturned.{unknown-fail, unknown-told, faulty-fail, exits-return, faults-return, starts-return}
use Rattle.ados_machine.proofs.laws.commands_return_their_codes.Goals as goal

pub returns : goal.returns
returns c = record {
  unknown = unknown-fail;
  told = unknown-told;
  faulty = faulty-fail;
  exits = exits-return;
  faults = faults-return;
  starts = starts-return;
}
