-- The tests of single characters.
use Rattle.std.specs.Prelude.{ℕ, Bool, false, Option, Some, None}
use Rattle.ados_pattern.specs.declared.bytes.CharTest.{CharTest}
use Rattle.ados_pattern.specs.declared.bytes.CharTest.TheVariants.{Is, Any as AnyByte, Within}
use Rattle.ados_pattern.specs.Form.{Form, Char, Any, Range}
use Rattle.ados_pattern.specs.Matches.{in_range, is_any, is_same_character}

abbrev pub test_of : CharTest → ℕ → Bool
test_of (Is c) = is_same_character c
test_of AnyByte = is_any
test_of (Within low high) = in_range low high

-- the test of a form that matches one character and contains no other form
abbrev pub test_in : Form → Option CharTest
test_in (Char c) = Some (Is c)
test_in Any = Some AnyByte
test_in (Range low high) = Some (Within low high)
test_in _ = None

-- there is a byte, and it passes the test
abbrev pub has_test : (ℕ → Bool) → Option ℕ → Bool
has_test test None = false
has_test test (Some c) = test c
