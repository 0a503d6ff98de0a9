-- What problems mean for a run and for a check.
use Rattle.std.specs.Prelude.{Bool, true, false, Option, Some, None}
use Rattle.std.specs.Borrow.{Bor}
use Rattle.ados_text.specs.Text.{Bytes}
use Rattle.ados_check.specs.LeftOut.{are_idle}
use Rattle.ados_check.specs.declared.findings.Problem.{Problem}
use Rattle.ados_check.specs.declared.findings.Problem.TheVariants as problem

-- a problem is harmless: its line may be run all the same
abbrev pub is_harmless : Problem → Bool
is_harmless (problem.PrintedByte byte) = true
is_harmless (problem.PrintedReturn others) = true
is_harmless other = false

-- a problem is that of a byte above 127 that its line only prints
abbrev pub is_printed_byte : Problem → Bool
is_printed_byte (problem.PrintedByte byte) = true
is_printed_byte other = false

-- a problem as it is in a script where Echo or Ask is another command: not harmless
abbrev pub refused : Problem → Problem
refused (problem.PrintedByte byte) = problem.NotAscii byte
refused (problem.PrintedReturn others) = problem.EndReturn others
refused other = other

-- a problem is that of a line which must not be run, since it ends in a carriage return
abbrev pub refuses_return : Problem → Bool
refuses_return (problem.EndReturn others) = true
refuses_return other = false

-- a problem is that of a carriage return at the end of a line, harmless or not
abbrev pub speaks_of_return : Problem → Bool
speaks_of_return (problem.EndReturn others) = true
speaks_of_return (problem.PrintedReturn others) = true
speaks_of_return other = false

-- because of a problem a run does not run the script, unless it is to be lenient
abbrev pub is_refused : Problem → Bool
is_refused (problem.NotAscii byte) = true
is_refused (problem.EndReturn others) = true
is_refused problem.ByteOrderMark = true
is_refused (problem.LeftOut options) = true
is_refused other = false

-- a problem is of options alone that have no effect which matters here
abbrev pub is_idle : Problem → Bool
is_idle (problem.LeftOut one) = are_idle one.options.items
is_idle other = false

-- the command of which a problem says that it is given options which the Shell leaves out
abbrev pub command_left_out : Problem → Option (Bor Bytes)
command_left_out (problem.LeftOut one) = Some one.command
command_left_out other = None

-- a problem is an error: whenever its line is taken, it fails, or it must not be run
abbrev pub is_error : Problem → Bool
is_error (problem.NotAscii byte) = true
is_error (problem.EndReturn others) = true
is_error problem.ByteOrderMark = true
is_error (problem.LongLine count) = true
is_error (problem.Line fault) = true
is_error (problem.Arguments command template fault) = true
is_error problem.BadDirective = true
is_error (problem.NoLab label) = true
is_error problem.ElseWithoutEndIf = true
is_error other = false
