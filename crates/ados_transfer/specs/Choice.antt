-- Which of the names of a folder are shared that differ in case alone.
use Rattle.std.specs.Prelude.{Bool, false, ◌||◌, not, Option, Some, None, string_bytes}
use Rattle.std.specs.Str.{bytes_eq}
use Rattle.ados_transfer.specs.declared.choice.Named.{Named}
use Rattle.ados_transfer.specs.declared.records.Record.{Record}

-- a name that stands beside this one, if any does, differs from it in case alone
abbrev pub is_alike : Named → Option Named → Bool
is_alike named None = false
is_alike named (Some other) = bytes_eq (string_bytes other.key) (string_bytes named.key)

-- the name is that of a known object, in the same spelling
abbrev pub is_known : Named → Option Record → Bool
is_known named None = false
is_known named (Some object) = bytes_eq (string_bytes object.path) (string_bytes named.path)

-- The name is shared, given those before and after it in the order of keys: no other differs from it in case alone, or the object of its key
-- is known by this spelling. So of several that nothing is known of none is, and what the script does to one happens to no other.
abbrev pub is_chosen : Named → Option Named → Option Named → Option Record → Bool
is_chosen named before after object = not (is_alike named before || is_alike named after) || is_known named object
