use Rattle.std.proofs.Common.{◌∙◌}
use Rattle.ados_script.proofs.scripts.Script.ends_below.Goals as goal

pub returns-clause-ends : goal.returns-clause-ends
returns-clause-ends c = rw (← c.self.view_is) (rw c.deref.ensures.value at c.kept_ends.ensures ∙ c.self.invariant.ends c.args.i)

pub returns-clause-few : goal.returns-clause-few
returns-clause-few c = rw (← c.self.view_is) c.self.invariant.few
