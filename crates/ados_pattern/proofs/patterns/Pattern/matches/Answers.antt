use Rattle.std.proofs.lemmas.Result.{IfOk-weaker}
use Rattle.ados_pattern.proofs.MatchLemmas.{is-tested}
use Rattle.ados_pattern.proofs.patterns.Pattern.matches.Goals as goal

pub returns-clause-computed : goal.returns-clause-computed
returns-clause-computed c = IfOk-weaker c.matched.result _ _ (λ b h. is-tested c.args.self.now.form c.args.text.now b h) c.matched.ensures
