use Rattle.ados_pattern.proofs.Middles.{lowest-set}
use Rattle.ados_pattern.proofs.words.lowest.Goals as goal

pub returns-clause-set : goal.returns-clause-set
returns-clause-set c = lowest-set c.args.word c.requires c.ranges.word.fits
