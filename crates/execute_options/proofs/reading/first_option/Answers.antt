use Rattle.std.proofs.Common.{rules, tests}
use Rattle.std.proofs.lemmas.Iterator.{YieldsList-from_slice}
use Rattle.std.proofs.lemmas.Iterator.Consumers.{YieldsList-at, YieldsList-from_copied}
use Rattle.std.proofs.lemmas.Iterator.Search.{find_from_yields_List}
use Rattle.execute_options.specs.Names.{is_option}
use Rattle.execute_options.proofs.GivenLemmas.{find_shown}
use Rattle.execute_options.proofs.reading.first_option.Goals as goal

pub returns : goal.returns
returns c =
    find_shown is_option c.args.words.now c.find.result
    (find_from_yields_List (λ word. is_option word.now) _ _ c.find.result c.find.ensures.ran
    (YieldsList-from_copied (YieldsList-at c.copied.ensures.source (YieldsList-from_slice c.args.words.now cc))) (λ x b q k. search (rules, tests)))
