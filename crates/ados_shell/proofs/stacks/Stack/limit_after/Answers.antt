use Rattle.std.proofs.Common.{◌≡◌, ◌∙◌, ap, sym, true, false}
use Rattle.std.specs.Prelude.{if◌then◌else◌}
use Rattle.ados_flow.specs.Frames.{first_limit}
use Rattle.ados_machine.specs.Breaks.{has_script}
use Rattle.ados_shell.specs.Stacks.{drafted_frames}
use Rattle.ados_shell.proofs.StackLemmas.{limit_is}
use Rattle.ados_shell.proofs.stacks.Stack.limit_after.Goals as goal

pub returns-then-has_script : goal.returns-then-has_script
returns-then-has_script c =
    let frames = drafted_frames c.args.shell.now c.args.self.now in
    let there : has_script frames ≡ true = sym c.has_script.ensures ∙ c.if-has_script.true in
    sym (limit_is frames c.args.limit ∙ ap (λ b. if b then c.args.limit else first_limit) there)

pub returns-else-has_script : goal.returns-else-has_script
returns-else-has_script c =
    let frames = drafted_frames c.args.shell.now c.args.self.now in
    let there : has_script frames ≡ false = sym c.has_script.ensures ∙ c.if-has_script.false in
    sym (limit_is frames c.args.limit ∙ ap (λ b. if b then c.args.limit else first_limit) there)
