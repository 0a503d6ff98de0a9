use Rattle.ados_pattern.specs.Form.{form_of}
use Rattle.ados_pattern.specs.Matches.{Matches}
use Rattle.ados_pattern.proofs.Places.{reach-whole, whole-within}
use Rattle.ados_pattern.proofs.matching.matches_short.Goals as goal

pub reached-requires-clause-within : goal.reached-requires-clause-within
reached-requires-clause-within c = whole-within c.args.text.now c.requires

pub returns : goal.returns
returns c = reach-whole (Matches (form_of c.args.part.now)) c.args.text.now c.in_ok-ends.ends c.requires c.in_ok-ends.ensures c.has_bit.result c.has_bit.ensures
