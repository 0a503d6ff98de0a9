use Rattle.std.proofs.Common.{◌&&◌, rules, sym}
use Rattle.std.specs.Cmp.{nat_cmp_total}
use Rattle.std.proofs.lemmas.Fn.{always_returns_same}
use Rattle.std.proofs.lemmas.List.Sorted.{All-permutation, list_any-IsPermutation, ranks_by}
use Rattle.ados_check.specs.Errors.{SaysSo}
use Rattle.ados_check.specs.LeftOut.{is_left_out}
use Rattle.ados_check.specs.Signs.{is_at}
use Rattle.ados_check.specs.declared.findings.Finding.{Finding}
use Rattle.ados_check.proofs.SignLemmas.{told_sorted}
use Rattle.ados_check.proofs.lines.sort.Goals as goal

pub returns-clause-same : goal.returns-clause-same
returns-clause-same c number = told_sorted number _ _ (c.in_ok-sort_by.ensures.stable _ (ranks_by nat_cmp_total (λ (one : Finding). one.line)) (always_returns_same _ _ _ (λ a r q k. (search rules, search rules))))

pub returns-clause-so : goal.returns-clause-so
returns-clause-so c dialect lines are = All-permutation (λ (one : Finding). SaysSo dialect lines one.line one.problem) _ _ c.in_ok-sort_by.ensures.permutation are

pub returns-clause-told : goal.returns-clause-told
returns-clause-told c number = sym (list_any-IsPermutation (λ (one : Finding). is_at number one && is_left_out one.problem) _ _ c.in_ok-sort_by.ensures.permutation)
