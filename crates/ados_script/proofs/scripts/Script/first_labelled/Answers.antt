use Rattle.ados_script.specs.Heads.{label_of}
use Rattle.ados_script.specs.Phrases.{phrase_of}
use Rattle.ados_script.proofs.SkipLemmas.{label-is, phrase-is, text_rises}
use Rattle.ados_script.proofs.scripts.Script.first_labelled.Goals as goal

pub first_of-labelled-requires-clause-rising : goal.first_of-labelled-requires-clause-rising
first_of-labelled-requires-clause-rising c =
    rw c.deref.ensures.value (text_rises label_of c.args.label.now c.self.inside.lines.items c.self.inside.tables.labels.items c.self.invariant.labels)

pub first_of-requires-clause-rising : goal.first_of-requires-clause-rising
first_of-requires-clause-rising c =
    rw c.deref-in-Full.ensures.value (text_rises phrase_of c.args.label.now c.self.inside.lines.items c.self.inside.tables.phrases.items c.self.invariant.phrases)

pub returns-in-Core : goal.returns-in-Core
returns-in-Core c =
    rw (c.in-Core.is, ← c.self.view_is, c.first_of-labelled.ensures, c.deref.ensures.value)
    (label-is label_of c.args.label.now c.self.inside.lines.items c.self.inside.tables.labels.items c.args.i c.self.invariant.labels)

pub returns-in-Full : goal.returns-in-Full
returns-in-Full c =
    let lines = c.self.inside.lines.items in
    let labelled = label-is label_of c.args.label.now lines c.self.inside.tables.labels.items c.args.i c.self.invariant.labels in
    let phrased = label-is phrase_of c.args.label.now lines c.self.inside.tables.phrases.items c.args.i c.self.invariant.phrases in
    rw (c.in-Full.is, ← c.self.view_is, c.nearer.ensures, c.first_of-labelled.ensures, c.first_of.ensures, c.deref.ensures.value, c.deref-in-Full.ensures.value, labelled, phrased)
    (phrase-is c.args.label.now lines c.args.i)
