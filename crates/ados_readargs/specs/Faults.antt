-- The faults of templates and of lines that do not fill them, and the numbers that commands return for them.
use Rattle.std.specs.Prelude.{◌≡◌, Option, None, Result, Ok, Err}
use Rattle.ados_text.specs.declared.codes.Result2.{Result2}
use Rattle.std.specs.declared.alloc.AllocError.{AllocError as NoMemory}
use Rattle.ados_readargs.specs.declared.errors.ArgFault.{ArgFault}
use Rattle.ados_readargs.specs.declared.errors.ArgFault.TheVariants as fault

-- the fault is the one that was defined, or running out of memory
abbrev pub IsFaultOf : {A : Type 0} → Result A ArgFault → ArgFault → Type 0
IsFaultOf defined fault.BadTemplate = defined ≡ Err fault.BadTemplate
IsFaultOf defined fault.BadNumber = defined ≡ Err fault.BadNumber
IsFaultOf defined fault.ArgumentMissing = defined ≡ Err fault.ArgumentMissing
IsFaultOf defined fault.ValueMissing = defined ≡ Err fault.ValueMissing
IsFaultOf defined fault.TooMany = defined ≡ Err fault.TooMany
IsFaultOf defined fault.Unmatched = defined ≡ Err fault.Unmatched
IsFaultOf defined fault.NoMemory = Unit {0}

-- the template is bad, or an allocation failed
abbrev pub IsBadTemplate : {A : Type 0} → Option A → ArgFault → Type 0
IsBadTemplate defined fault.BadTemplate = defined ≡ None
IsBadTemplate defined fault.BadNumber = ⊥
IsBadTemplate defined fault.ArgumentMissing = ⊥
IsBadTemplate defined fault.ValueMissing = ⊥
IsBadTemplate defined fault.TooMany = ⊥
IsBadTemplate defined fault.Unmatched = ⊥
IsBadTemplate defined fault.NoMemory = Unit {0}

-- the number that a command returns for the fault; running out of memory has none
abbrev pub result2_of : ArgFault → Result Result2 NoMemory
result2_of fault.BadTemplate = Ok (record { 0 = 114 })
result2_of fault.BadNumber = Ok (record { 0 = 115 })
result2_of fault.ArgumentMissing = Ok (record { 0 = 116 })
result2_of fault.ValueMissing = Ok (record { 0 = 117 })
result2_of fault.TooMany = Ok (record { 0 = 118 })
result2_of fault.Unmatched = Ok (record { 0 = 119 })
result2_of fault.NoMemory = Err (record {})
