use Rattle.std.proofs.Common.{◌∙◌, ap, drop, reverse, sym}
use Rattle.std.proofs.lemmas.List.{reverse-reverse, take-append-drop}
use Rattle.ados_shell.proofs.stacks.Stack.lent.Goals as goal

pub returns-clause-front : goal.returns-clause-front
returns-clause-front c =
    let frames = c.as_slice-frames.result.now in (
      drop c.min.result frames,
      ap (λ s. reverse s.frames) (sym c.shell.view_is) ∙ reverse-reverse c.shell.inside.frames.items ∙ sym c.as_slice-frames.ensures.value
          ∙ sym (take-append-drop c.min.result frames),
    )
