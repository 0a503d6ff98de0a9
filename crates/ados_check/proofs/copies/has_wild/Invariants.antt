use Rattle.std.proofs.Common.{◌≡◌, drop}
use Rattle.std.specs.List.{list_any}
use Rattle.ados_check.specs.Copies.{is_wild}
use Rattle.ados_check.proofs.copies.has_wild.Given as goal

abbrev pub invariant-loop-text : goal.invariant-loop-text
invariant-loop-text l = list_any is_wild l.texts ≡ list_any is_wild (drop l.text-index l.texts)
