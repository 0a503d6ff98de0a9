-- What one step of the cut of a line says about the whole cut.
use Rattle.std.specs.Prelude.{◌≡◌, ◌⊎◌, Some, None, Result, Ok, Err}
use Rattle.ados_text.specs.Text.{Text}
use Rattle.ados_line.specs.declared.faults.LineFault.{LineFault}
use Rattle.ados_line.specs.declared.faults.LineFault.TheVariants.{NoMemory}
use Rattle.ados_line.specs.declared.cuts.Cut.{Cut}
use Rattle.ados_line.specs.declared.cuts.Reading.{Reading}
use Rattle.ados_line.specs.declared.cuts.Reading.TheVariants.{Onward, Done}
use Rattle.ados_line.specs.Cut.{CutContinuation}

-- One step of a cut leads to the whole cut, unless an allocation failed: with what has been read, the cut continues with `next` from a
-- place, or is done, or has this fault.
abbrev pub Goes : CutContinuation → Result Reading LineFault → Cut → Result Cut LineFault → Type 0
Goes next (Ok (Onward to)) read whole = whole ≡ next to read
Goes next (Ok Done) read whole = whole ≡ Ok read
Goes next (Err fault) read whole = (fault ≡ NoMemory) ⊎ (whole ≡ Err fault)

-- the first result, a call's, is the second, a cut or a fault, unless an allocation failed in the call
abbrev pub IsCut : Result Cut LineFault → Result Cut LineFault → Type 0
IsCut result whole = (result ≡ Err NoMemory) ⊎ (result ≡ whole)

-- the cut of a line that has a command and its arguments alone
abbrev pub with_arguments : Text → Text → Cut
with_arguments command args = record { command = Some command; args = args; input = None; output = None }
