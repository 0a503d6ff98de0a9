-- The AmigaDOS error numbers of a line's faults.
use Rattle.ados_text.specs.declared.codes.Result2.{Result2}
use Rattle.ados_text.specs.declared.codes.TheConstants.Result2.{ARGUMENT_MISSING, TOO_MANY_ARGUMENTS, UNMATCHED_QUOTES, LINE_TOO_LONG, NOT_IMPLEMENTED, NO_FREE_STORE}
use Rattle.ados_line.specs.declared.faults.LineFault.{LineFault}
use Rattle.ados_line.specs.declared.faults.LineFault.TheVariants as fault

-- the error number (Result2) of a line's fault
abbrev pub result2_of : LineFault → Result2
result2_of fault.ArgumentMissing = ARGUMENT_MISSING
result2_of fault.TooManyArguments = TOO_MANY_ARGUMENTS
result2_of fault.UnmatchedQuotes = UNMATCHED_QUOTES
result2_of fault.LineTooLong = LINE_TOO_LONG
result2_of fault.NotImplemented = NOT_IMPLEMENTED
result2_of fault.NoMemory = NO_FREE_STORE
