-- How long the names of options are.
use Rattle.std.specs.Prelude.{ℕ, ◌==◌, List, Bool, length}
use Rattle.std.specs.List.{list_any}
use Rattle.ados_text.specs.Text.{Text}
use Rattle.ados_readargs.specs.declared.options.TemplateOption.{TemplateOption}

-- the name has `size` bytes
abbrev pub is_as_long : ℕ → Text → Bool
is_as_long size name = length name == size

-- the option has a name of `size` bytes
abbrev pub has_as_long : ℕ → TemplateOption → Bool
has_as_long size option = list_any (is_as_long size) option.names

-- one of the options has a name of `size` bytes
abbrev pub one_is_as_long : ℕ → List TemplateOption → Bool
one_is_as_long size options = list_any (has_as_long size) options
