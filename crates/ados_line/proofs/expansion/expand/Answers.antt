use Rattle.std.proofs.Common.{rules}
use Rattle.ados_line.specs.Expansion.{expand_raw_line}
use Rattle.ados_line.specs.Values.{visible_variables}
use Rattle.ados_line.proofs.ExpansionLemmas.{made}
use Rattle.ados_line.proofs.CommentLemmas.{up-to-comment}
use Rattle.ados_line.proofs.expansion.expand.Goals as goal

pub returns-in-None-clause-made : goal.returns-in-None-clause-made
unfolding expand_raw_line
returns-in-None-clause-made c = made _ c.args.scope.now.aliases.now (visible_variables c.args.scope.now) c.args.raw.now (search rules)

pub returns-in-Some-clause-made : goal.returns-in-Some-clause-made
unfolding expand_raw_line
returns-in-Some-clause-made c = made _ c.args.scope.now.aliases.now (visible_variables c.args.scope.now) c.args.raw.now (search rules)

pub returns-then-bytes-gt-LINE_BYTES-clause-comment : goal.returns-then-bytes-gt-LINE_BYTES-clause-comment
returns-then-bytes-gt-LINE_BYTES-clause-comment c = up-to-comment c.args.raw.now

pub returns-in_err-replace_alias-clause-comment : goal.returns-in_err-replace_alias-clause-comment
returns-in_err-replace_alias-clause-comment c = up-to-comment c.args.raw.now

pub returns-in-None-clause-comment : goal.returns-in-None-clause-comment
returns-in-None-clause-comment c = up-to-comment c.args.raw.now

pub returns-in-Some-clause-comment : goal.returns-in-Some-clause-comment
returns-in-Some-clause-comment c = up-to-comment c.args.raw.now
