-- The code that a program has at least where it fails.
use Rattle.std.specs.Prelude.{ℕ, List, Option, find, if◌then◌else◌, ◌&&◌, nat_lt, reverse}
use Rattle.std.specs.Option.{option_map_or}
use Rattle.std.specs.Str.{bytes_eq}
use Rattle.ados_text.specs.Text.{Text}
use Rattle.ados_machine.specs.declared.answers.Answer.{Answer}
use Rattle.ados_machine.specs.declared.answers.Answer.TheVariants.{Exit}
use Rattle.amishell_execute.specs.declared.error_codes.ErrorCode.{ErrorCode}

-- what was given last for a program
abbrev pub last_code : List ErrorCode → Text → Option ErrorCode
last_code codes program = find (λ code. bytes_eq code.program program) (reverse codes)

-- the code that a program has at least where it fails; 0 if none is given
abbrev pub least_code : List ErrorCode → Text → ℕ
least_code codes program = option_map_or (λ code. code.least) (last_code codes program) 0

-- an exit status but 0 is at least this one; every other answer stays
abbrev pub raised : ℕ → Answer → Answer
raised least (Exit n) = if nat_lt 0 n && nat_lt n least then Exit least else Exit n
raised least answer = answer
