use Rattle.std.proofs.Common.{rules}
use Rattle.ados_files.specs.SortOrder.{is_before}
use Rattle.ados_files.proofs.OrderLemmas.{compares_as, is_before-weak, sorted_is}
use Rattle.ados_files.proofs.sort_order.sort_lines.Goals as goal

pub returns-clause-sorted : goal.returns-clause-sorted
returns-clause-sorted c =
    c.in_ok-sort_by.ensures.sorted (is_before c.args.order) (is_before-weak c.args.order) (compares_as c.args.order (λ a r q k. search rules))

pub returns-clause-stable : goal.returns-clause-stable
returns-clause-stable c =
    c.in_ok-sort_by.ensures.stable (is_before c.args.order) (is_before-weak c.args.order) (compares_as c.args.order (λ a r q k. search rules))

pub returns-clause-value : goal.returns-clause-value
returns-clause-value c = sorted_is (is_before c.args.order) (is_before-weak c.args.order) _ _ (returns-clause-sorted c) (returns-clause-stable c)
