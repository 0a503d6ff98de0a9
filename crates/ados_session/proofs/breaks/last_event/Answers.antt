use Rattle.std.proofs.Common.{sym, arith}
use Rattle.ados_session.proofs.LineLemmas.{last_at}
use Rattle.ados_session.proofs.breaks.last_event.Goals as goal

pub returns-in-len1-up : goal.returns-in-len1-up
returns-in-len1-up c = sym (last_at 0 c.args.breaks.now _ (omega arith))
