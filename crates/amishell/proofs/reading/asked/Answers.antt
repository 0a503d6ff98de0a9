use Rattle.std.proofs.Common.{subst, ap, inr, map}
use Rattle.clap.specs.Values.{kind_of}
use Rattle.amishell.specs.Asked.{AsksNothing}
use Rattle.amishell.proofs.RefusalLemmas.{refused, no_words_refused}
use Rattle.amishell.proofs.reading.asked.Goals as goal

pub returns-in-Err-clause-refused : goal.returns-in-Err-clause-refused
returns-in-Err-clause-refused g c = refused _ (kind_of c.in-Err.error) c.refusal.result c.in-Err.ensures.faults c.refusal.ensures

pub returns-in-Err-clause-no_words : goal.returns-in-Err-clause-no_words
returns-in-Err-clause-no_words g c e =
    let words = map g.S.AsStr.text c.args.words.now in
    no_words_refused words c.refusal.result (ap (map g.S.AsStr.text) e) (refused words (kind_of c.in-Err.error) c.refusal.result c.in-Err.ensures.faults c.refusal.ensures)

pub returns-clause-no_words : goal.returns-clause-no_words
returns-clause-no_words g c e =
    let words = map g.S.AsStr.text c.args.words.now in
    no_words_refused words _ (ap (map g.S.AsStr.text) e) (inr (c.in-Ok.ensures.faults, subst AsksNothing c.in-Ok.ensures.matches c.in-None.ensures.nothing))
