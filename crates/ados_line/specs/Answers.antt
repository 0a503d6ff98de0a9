-- What a call returns, by a definition in which no allocation fails.
use Rattle.std.specs.Prelude.{◌≡◌, ◌⊎◌, length, nat_lt, Result, Ok, Err, if◌then◌else◌}
use Rattle.ados_text.specs.Text.{Text}
use Rattle.ados_line.specs.declared.faults.LineFault.{LineFault}
use Rattle.ados_line.specs.declared.faults.LineFault.TheVariants.{LineTooLong, NoMemory}
use Rattle.ados_line.specs.Cut.{line_limit}

-- a text as a line: it is refused if it has more than `line_limit` bytes
abbrev pub within_line_limit : Text → Result Text LineFault
within_line_limit text = if nat_lt line_limit (length text) then Err LineTooLong else Ok text

-- the first result, a call's, is the second, the definition's, unless an allocation failed in the call
abbrev pub Gives : {X : Type 0} → Result X LineFault → Result X LineFault → Type 0
Gives result whole = (result ≡ Err NoMemory) ⊎ (result ≡ whole)
