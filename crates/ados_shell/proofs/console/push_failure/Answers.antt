use Rattle.std.proofs.Common.{refl, append_assoc}
use Rattle.ados_shell.proofs.console.push_failure.Goals as goal

pub returns : goal.returns
returns c =
    rw (c.in_ok-push.ensures.items, c.in_ok-push_code.ensures, c.in_ok-extend_from_slice-2.ensures.items, c.in_ok-extend_from_slice.ensures.items)
    (simp append_assoc refl)
