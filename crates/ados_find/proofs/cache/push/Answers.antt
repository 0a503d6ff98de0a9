use Rattle.std.specs.Prelude.{is_ok}
use Rattle.ados_find.proofs.CacheLemmas.{kept_push}
use Rattle.ados_find.proofs.cache.push.Goals as goal

pub returns : goal.returns
returns c = kept_push (is_ok c.push.result) c.args.pairs.now.items c.push.new.self.items c.args.pair c.push.ensures.items
