use Rattle.std.proofs.Common.{[]}
use Rattle.ados_resident.specs.declared.dialects.Dialect.TheVariants.{Core}
use Rattle.ados_check.proofs.ErrorLemmas.{note_so}
use Rattle.ados_check.proofs.lines.push_note.Goals as goal

pub push_other-requires : goal.push_other-requires
push_other-requires c = (c.requires Core []).0

pub returns-clause-so : goal.returns-clause-so
returns-clause-so c = note_so c.args.line c.args.note _ _ c.requires c.in_ok-push_other.ensures.so
