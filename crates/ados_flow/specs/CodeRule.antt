-- The code rule's test: a code against a fail limit.
use Rattle.std.specs.Prelude.{int_le, Bool}
use Rattle.ados_text.specs.declared.codes.Code.{Code}

-- a code, the second parameter, is at the limit or above it
abbrev pub is_reached : Code → Code → Bool
is_reached limit code = int_le limit.0 code.0
