-- A file of options that was read.
use Rattle.std.specs.Prelude.{List, string_bytes}
use Rattle.ados_text.specs.Text.{Bytes}
use Rattle.execute_options.specs.OptionLines.{NumberedOption}
use Rattle.execute_options.specs.declared.config.Config.{Config}

-- which file it is
abbrev pub file_of : Config → Bytes
file_of config = string_bytes config.file

-- its options
abbrev pub lines_of : Config → List NumberedOption
lines_of config = config.options.items
