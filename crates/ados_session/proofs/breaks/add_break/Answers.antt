use Rattle.std.proofs.Common.{◌∙◌, ap, nat_le}
use Rattle.ados_session.specs.Breaks.{last_event}
use Rattle.ados_session.proofs.LineLemmas.{rising_more}
use Rattle.ados_session.proofs.breaks.add_break.Goals as goal

pub returns-clause-rising : goal.returns-clause-rising
returns-clause-rising c =
    rising_more c.args.breaks.now.items c.args.at (nat_le c.last_event.result c.args.at.event) c.requires
    (ap (λ n. nat_le n c.args.at.event) (c.last_event.ensures ∙ ap (λ xs. last_event 0 xs) c.as_slice.ensures.value))
