-- The options of commands by their places.
use Rattle.std.specs.Prelude.{ℕ, List, [], option_map, slice_get, unwrap_or}
use Rattle.ados_text.specs.Text.{Text}
use Rattle.ados_readargs.specs.Template.{options_of}
use Rattle.ados_resident.specs.declared.commands.EnvCommand.{EnvCommand}
use Rattle.ados_env.specs.Rows.{full_template_of}

-- the names of the option at a place, from 0, in a command's template in Full; those that Core has are at the same places
abbrev pub names_at : EnvCommand → ℕ → List Text
names_at command place = unwrap_or (option_map (λ option. option.names) (slice_get (options_of (full_template_of command)) place)) []
