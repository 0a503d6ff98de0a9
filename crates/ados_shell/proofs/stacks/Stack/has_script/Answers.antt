use Rattle.std.proofs.Common.{◌∙◌, ◌++◌, ap, reverse}
use Rattle.ados_machine.specs.Breaks.{has_script}
use Rattle.ados_shell.proofs.stacks.Stack.has_script.Goals as goal

pub returns : goal.returns
returns c =
    let own = reverse c.args.self.now.own.items in
    c.any_script.ensures ∙ ap (λ xs. has_script (reverse xs ++ reverse c.lent.result.now)) c.as_slice.ensures.value
    ∙ ap (λ xs. has_script (own ++ xs)) c.lent.ensures.lent
