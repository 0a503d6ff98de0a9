use Rattle.std.proofs.Common.{true, ap}
use Rattle.ados_script.specs.declared.blocks.Ends.{Ends}
use Rattle.ados_script.proofs.SkipLemmas.{block-within, leads, small}
use Rattle.ados_script.proofs.scripts.Script.after_if.Goals as goal

pub jump_to_next-requires : goal.jump_to_next-requires
jump_to_next-requires c =
    small c.args.self.now c.ends_below.result.branch c.ends_below.ensures.few (block-within true c.args.self.now c.args.i c.ends_below.result.branch (ap (λ (ends : Ends). ends.branch) c.ends_below.ensures.ends))

pub returns-clause-within : goal.returns-clause-within
returns-clause-within c =
    rw c.jump_to_next.ensures (leads c.args.self.now c.ends_below.result.branch (block-within true c.args.self.now c.args.i c.ends_below.result.branch (ap (λ (ends : Ends). ends.branch) c.ends_below.ensures.ends)))
