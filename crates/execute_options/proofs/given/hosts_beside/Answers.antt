use Rattle.std.proofs.Common.{rules, tests, map, not}
use Rattle.std.proofs.lemmas.Iterator.{YieldsList-from_slice, items_from_collect}
use Rattle.std.proofs.lemmas.Iterator.Consumers.{YieldsList-at, YieldsList-from_copied, YieldsList-from_filter}
use Rattle.execute_options.specs.Given.{is_host_among}
use Rattle.execute_options.proofs.GivenLemmas.{words_kept}
use Rattle.execute_options.proofs.given.hosts_beside.Goals as goal

pub returns : goal.returns
returns c =
    words_kept c.collect.result (λ words. not (is_host_among (map (λ words. words.now) c.args.typed.now) words)) c.args.file.now
    (items_from_collect _ c.collect.ensures.ran
    (YieldsList-from_copied (YieldsList-at c.copied.ensures.source
    (YieldsList-from_filter _ (λ words. not (is_host_among (map (λ words. words.now) c.args.typed.now) words.now)) (YieldsList-at c.filter.ensures.source (YieldsList-from_slice c.args.file.now cc))
    c.filter.ensures.closure (λ x b q k. search (rules, tests))))))
