-- For the text of a template the only fault is running out of memory.
use Rattle.std.proofs.Common.{◌≡◌, ◌≢◌, ℕ, List, refl, false, ap}
use Rattle.std.specs.Option.{is_some}
use Rattle.ados_readargs.specs.Template.{template_of, IsTemplate}
use Rattle.ados_readargs.specs.Faults.{IsBadTemplate}
use Rattle.ados_readargs.specs.declared.errors.ArgFault.{ArgFault}
use Rattle.ados_readargs.specs.declared.errors.ArgFault.TheVariants as refusal

pub only_memory : (text : List ℕ) (fault : ArgFault) → IsTemplate text → IsBadTemplate (template_of text) fault → fault ≢ refusal.NoMemory → ⊥
only_memory text refusal.BadTemplate good bad other = let none : is_some (template_of text) ≡ false = ap is_some bad in cc
only_memory text refusal.BadNumber good bad other = bad
only_memory text refusal.ArgumentMissing good bad other = bad
only_memory text refusal.ValueMissing good bad other = bad
only_memory text refusal.TooMany good bad other = bad
only_memory text refusal.Unmatched good bad other = bad
only_memory text refusal.NoMemory good bad other = other refl
