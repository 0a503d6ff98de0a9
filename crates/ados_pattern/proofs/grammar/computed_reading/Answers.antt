use Rattle.ados_pattern.proofs.MatchLemmas.{is-match}
use Rattle.ados_pattern.proofs.ParseLaws.{bad-fault, long-fault, no-fault-name, no-fault-pattern}
use Rattle.ados_pattern.proofs.grammar.computed_reading.Goals as goal

pub returns : goal.returns
returns c = record { pattern = no-fault-pattern; name = no-fault-name; bad = bad-fault; long = long-fault; test = is-match }
