use Rattle.ados_pattern.proofs.ParseLaws.{one-form, pattern-or-fault, pattern-no-fault}
use Rattle.ados_pattern.proofs.grammar.one_reading.Goals as goal

pub returns : goal.returns
returns c = record { whole = pattern-or-fault; apart = pattern-no-fault; single = one-form }
