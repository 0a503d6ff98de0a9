-- Scripts that are never called, since a directive of theirs has a fault.
use Rattle.std.specs.Prelude.{◌≡◌, ◌⊎◌, ℕ, List, Option, Some, None, Result, Ok, Err}
use Rattle.ados_text.specs.Text.{Bytes, Text}
use Rattle.ados_readargs.specs.declared.errors.ArgFault.{ArgFault}
use Rattle.ados_subst.specs.declared.faults.SubstFault.{SubstFault}
use Rattle.ados_subst.specs.declared.faults.SubstFault.TheVariants.{Args, BadDirective}
use Rattle.ados_subst.specs.Scripts.{script_of}
use Rattle.ados_check.specs.declared.findings.Finding.{Finding}
use Rattle.ados_check.specs.declared.directives.Sample.{Sample}
use Rattle.ados_check.specs.declared.directives.Sample.TheVariants.{Lines, Bad, Unknown}

-- what comes of substituting the arguments is the fault of the directive in a line, or one of the arguments
abbrev pub HasFault : ℕ → Result (List Text) SubstFault → Type 0
HasFault line result = (result ≡ Err (BadDirective line)) ⊎ ((of_args : ArgFault) × (result ≡ Err (Args of_args)))

-- whatever its arguments and its shell's number are, a script of these lines is not called: the directive in this line has a fault,
-- unless that of the template is found first
abbrev pub IsNeverCalled : List Text → ℕ → Type 0
IsNeverCalled lines line = (args : Bytes) (process : Text) → HasFault line (script_of lines args process)

-- P holds of the line in which a sample says that a directive is bad, if it says so of one
abbrev pub IfBad : Sample → (ℕ → Type 0) → Type 0
IfBad (Lines lines) P = Unit {0}
IfBad (Bad line) P = P line
IfBad Unknown P = Unit {0}

-- with some arguments a script of lines as they are written is a script of the lines `sample`
abbrev pub IsSample : List Text → List Text → Type 0
IsSample lines sample = (args : Bytes) × (process : Text) × (script_of lines args process ≡ Ok sample)

-- P holds of the lines of a sample, if it has lines
abbrev pub IfLines : Sample → (List Text → Type 0) → Type 0
IfLines (Lines lines) P = P lines
IfLines (Bad line) P = Unit {0}
IfLines Unknown P = Unit {0}

-- whatever its arguments and its shell's number are, the directive in this line of a script is what is bad
abbrev pub IsAlwaysBad : List Text → ℕ → Type 0
IsAlwaysBad lines line = (args : Bytes) (process : Text) → script_of lines args process ≡ Err (BadDirective line)

-- a sample says that the directive in this line is bad
abbrev pub IsBadAt : ℕ → Sample → Type 0
IsBadAt line (Lines lines) = ⊥
IsBadAt line (Bad other) = other ≡ line
IsBadAt line Unknown = ⊥

-- what was found is of this line
abbrev pub IsFoundAt : ℕ → Option Finding → Type 0
IsFoundAt line None = ⊥
IsFoundAt line (Some one) = one.line ≡ line
