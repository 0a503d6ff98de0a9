use Rattle.std.proofs.Common.{rules, tests}
use Rattle.std.proofs.lemmas.Iterator.{YieldsList-from_slice}
use Rattle.std.proofs.lemmas.Iterator.Search.{any_from_yields_List}
use Rattle.ados_text.specs.Text.{is_same}
use Rattle.execute_options.specs.Given.{host_name}
use Rattle.execute_options.proofs.GivenLemmas.{any_shown}
use Rattle.execute_options.proofs.given.is_host_among.Goals as goal

pub returns : goal.returns
returns c =
    any_shown (λ other. is_same (host_name c.args.words.now) (host_name other)) c.args.others.now c.any.result
    (any_from_yields_List (λ other. is_same (host_name c.args.words.now) (host_name other.now)) _ _ c.any.result c.any.ensures.ran
    (YieldsList-from_slice c.args.others.now cc) (λ x b q k. search (rules, tests)))
