-- The faults of a script, and what a call returns, by a definition in which allocations never fail.
use Rattle.std.specs.Prelude.{◌≡◌, ◌⊎◌, Result, Ok, Err}
use Rattle.ados_text.specs.declared.codes.Result2.{Result2}
use Rattle.std.specs.declared.alloc.AllocError.{AllocError as NoMemory}
use Rattle.ados_readargs.specs.declared.errors.ArgFault.{ArgFault}
use Rattle.ados_readargs.specs.declared.errors.ArgFault.TheVariants as arg
use Rattle.ados_readargs.specs.Faults.{result2_of as result2_of_args}
use Rattle.ados_subst.specs.declared.faults.SubstFault.{SubstFault}
use Rattle.ados_subst.specs.declared.faults.SubstFault.TheVariants as fault

-- the fault of a script whose template is bad, or is not filled
abbrev pub args_fault : ArgFault → SubstFault
args_fault arg.BadTemplate = fault.Args arg.BadTemplate
args_fault arg.BadNumber = fault.Args arg.BadNumber
args_fault arg.ArgumentMissing = fault.Args arg.ArgumentMissing
args_fault arg.ValueMissing = fault.Args arg.ValueMissing
args_fault arg.TooMany = fault.Args arg.TooMany
args_fault arg.Unmatched = fault.Args arg.Unmatched
args_fault arg.NoMemory = fault.NoMemory

-- the number that a command returns for the fault; running out of memory has none
abbrev pub result2_of : SubstFault → Result Result2 NoMemory
result2_of (fault.Args of_args) = result2_of_args of_args
result2_of (fault.BadDirective line) = Ok (record { 0 = 114 })
result2_of fault.NoMemory = Err (record {})

-- the result is the definition's, or an allocation failed
abbrev pub Gives : {X : Type 0} → Result X SubstFault → Result X SubstFault → Type 0
Gives result whole = (result ≡ Err fault.NoMemory) ⊎ (result ≡ whole)
