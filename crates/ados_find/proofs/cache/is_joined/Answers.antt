use Rattle.std.proofs.Common.{◌∙◌, sym}
use Rattle.ados_find.proofs.CacheLemmas.{joined}
use Rattle.ados_find.proofs.cache.is_joined.Goals as goal

pub returns-then-eq : goal.returns-then-eq
returns-then-eq c =
    λ word-is. joined c.args.bytes.now c.args.front.now c.args.word.now c.in-Some.start.now c.in-Some.end.now c.in-Some.ensures.cases
    (sym c.eq.ensures ∙ c.if-eq.true) (sym c.eq-then-eq.ensures ∙ word-is)
