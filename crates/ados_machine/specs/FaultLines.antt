-- The lines that the return of a command prints on the console.
use Rattle.std.specs.Prelude.{[], ◌∷◌, ◌++◌, codes, ◌==◌, if◌then◌else◌}
use Rattle.std.specs.Fmt.{signed_decimal}
use Rattle.ados_text.specs.Text.{Bytes, Text}
use Rattle.ados_text.specs.declared.codes.Code.{Code}
use Rattle.ados_text.specs.declared.codes.Result2.{Result2}
use Rattle.ados_text.specs.Fault.{fault_text_of}
use Rattle.ados_flow.specs.CodeRule.{is_reached}

-- what is printed at a command's return with this Result2: the fault's text after the command's word, or nothing for 0
abbrev pub fault_line : Text → Result2 → Bytes
fault_line word result2 =
    if result2.0 == 0 then [] else word ++ codes ": " ++ fault_text_of result2.0 ++ 10 ∷ []

-- the line that says that the command of this word failed, with this code
abbrev pub failure : Text → Code → Bytes
failure word code = word ++ codes " failed returncode " ++ signed_decimal code.0 ++ 10 ∷ []

-- what is printed of a command that returned this code: if it reaches the limit, that the command failed
abbrev pub failed_line : Text → Code → Code → Bytes
failed_line word code limit = if is_reached limit code then failure word code else []
