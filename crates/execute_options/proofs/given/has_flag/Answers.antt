use Rattle.std.proofs.Common.{inl, inr}
use Rattle.execute_options.proofs.given.has_flag.Goals as goal

pub returns-clause-left_out : goal.returns-clause-left_out
returns-clause-left_out c left_out = elim left_out [
  | inl none ↦ c.get_flag.ensures.none none
  | inr other ↦ c.get_flag.ensures.other other
]
