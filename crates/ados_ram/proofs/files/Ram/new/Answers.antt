use Rattle.std.proofs.Common.{sym, subst}
use Rattle.ados_ram.specs.Files.{AreFiles}
use Rattle.ados_ram.proofs.FirstLemmas.{all_files, first-within}
use Rattle.ados_ram.specs.declared.limits.Limits.TheVariants.{Large}
use Rattle.ados_ram.proofs.NamedLemmas.{first-named}
use Rattle.ados_ram.proofs.files.Ram.new.Goals as goal

pub invariant_of-result : goal.invariant_of-result
invariant_of-result c = subst AreFiles (sym c.in_ok-first.ensures) (record { tree = all_files; within = first-within Large; named = first-named })
