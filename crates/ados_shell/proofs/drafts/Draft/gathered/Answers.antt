use Rattle.std.proofs.Common.{◌∙◌, ◌≤◌, ap, length, subst, sym}
use Rattle.std.specs.Option.{option_copied}
use Rattle.ados_shell.specs.Drafts.{frames_of}
use Rattle.ados_shell.proofs.StackLemmas.{left-of}
use Rattle.ados_shell.proofs.drafts.Draft.gathered.Goals as goal

pub returns-in_ok-gather-in-Some-clause-within : goal.returns-in_ok-gather-in-Some-clause-within
returns-in_ok-gather-in-Some-clause-within c =
    left-of (frames_of c.args.scene.now c.args.self.now) c.in-Some.frame.now c.in_ok-gather-in-Some.field-0.taken (sym c.newest.ensures ∙ ap option_copied c.in-Some.is)
    (subst (λ l. c.in_ok-gather-in-Some.field-0.taken ≤ length l) c.further.ensures.lines c.in_ok-gather-in-Some.ensures.within)
