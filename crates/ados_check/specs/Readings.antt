-- Lines whose meaning depends on variables or on what a command prints.
use Rattle.std.specs.Prelude.{Bool, ◌==◌, ◌||◌}
use Rattle.std.specs.List.{list_any}
use Rattle.ados_text.specs.Text.{Bytes}

-- a line has a `$` or a back-tick
abbrev pub is_marked : Bytes → Bool
is_marked line = list_any (λ c. c == 36) line || list_any (λ c. c == 96) line
