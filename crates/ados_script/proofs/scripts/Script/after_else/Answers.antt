use Rattle.std.proofs.Common.{false, ap}
use Rattle.ados_script.specs.declared.blocks.Ends.{Ends}
use Rattle.ados_script.proofs.SkipLemmas.{block-within, leads, small}
use Rattle.ados_script.proofs.scripts.Script.after_else.Goals as goal

pub jump_to_next-requires : goal.jump_to_next-requires
jump_to_next-requires c =
    small c.args.self.now c.ends_below.result.end_if c.ends_below.ensures.few (block-within false c.args.self.now c.args.i c.ends_below.result.end_if (ap (λ (ends : Ends). ends.end_if) c.ends_below.ensures.ends))

pub returns-clause-within : goal.returns-clause-within
returns-clause-within c =
    rw c.jump_to_next.ensures (leads c.args.self.now c.ends_below.result.end_if (block-within false c.args.self.now c.args.i c.ends_below.result.end_if (ap (λ (ends : Ends). ends.end_if) c.ends_below.ensures.ends)))
