use Rattle.ados_machine.proofs.EarlyLemmas.{scripts-end-early, frames-give-back, early-and-back}
use Rattle.ados_machine.proofs.laws.scripts_end_early_at_their_first.Goals as goal

pub returns : goal.returns
returns c = record { first = scripts-end-early; back = frames-give-back; same = early-and-back }
