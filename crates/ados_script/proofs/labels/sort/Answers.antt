use Rattle.std.proofs.Common.{rules}
use Rattle.std.proofs.lemmas.Fn.{always_returns_same}
use Rattle.std.proofs.lemmas.List.Sorted.{ranks_by}
use Rattle.ados_text.specs.Text.{folded_text}
use Rattle.ados_text.specs.Name.{name_cmp_total}
use Rattle.ados_script.specs.declared.labels.Label.{Label}
use Rattle.ados_script.proofs.LabelLemmas.{stays}
use Rattle.ados_script.proofs.labels.sort.Goals as goal

pub returns-clause-sorted : goal.returns-clause-sorted
returns-clause-sorted c = c.in_ok-sort_by.ensures.sorted _ (ranks_by name_cmp_total (λ (label : Label). folded_text label.text)) (always_returns_same _ _ _ (λ a r q k. (search rules, search rules)))

pub returns-clause-stable : goal.returns-clause-stable
returns-clause-stable c text = stays text _ _ (c.in_ok-sort_by.ensures.stable _ (ranks_by name_cmp_total (λ (label : Label). folded_text label.text)) (always_returns_same _ _ _ (λ a r q k. (search rules, search rules))))
