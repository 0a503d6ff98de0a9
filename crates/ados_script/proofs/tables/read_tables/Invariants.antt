use Rattle.ados_script.proofs.TableLemmas.{AreRead}
use Rattle.ados_script.proofs.tables.read_tables.Given as goal

abbrev pub invariant-loop-place : goal.invariant-loop-place
invariant-loop-place l = AreRead l.lines l.place l.ends.items l.end_skips.items l.labs.items l.labels.items l.phrases.items
