use Rattle.ados_pattern.proofs.ParseLaws.{bad-answer, only-answer, pattern-answer}
use Rattle.ados_pattern.proofs.patterns.Pattern.parse.Goals as goal

pub returns-clause-bad : goal.returns-clause-bad
returns-clause-bad c = bad-answer c.args.text.now c.parsed.result (record { fault = c.parsed.ensures.fault; meaning = c.parsed.ensures.pattern })

pub returns-clause-pattern : goal.returns-clause-pattern
returns-clause-pattern c = pattern-answer c.args.text.now c.parsed.result (record { fault = c.parsed.ensures.fault; meaning = c.parsed.ensures.pattern })

pub returns-clause-only : goal.returns-clause-only
returns-clause-only c = only-answer c.args.text.now c.parsed.result (record { fault = c.parsed.ensures.fault; meaning = c.parsed.ensures.pattern })
