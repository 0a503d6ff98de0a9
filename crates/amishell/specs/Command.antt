-- The program's command line, as `clap` reads it.
use Rattle.std.specs.Prelude.{Some, true, codes}
use Rattle.clap.specs.Walk.{Rule, Text}
use Rattle.clap.specs.Simple.{App, new_app, new_rule, on_top, with_rule, with_subcommand}
use Rattle.clap.specs.declared.builder.ArgAction.TheVariants.{Set, SetTrue}

-- the option `--NAME VALUE`
abbrev pub option_rule : Text → Rule
option_rule name = record (new_rule name) { long = Some name; value_names = 1; action = Some Set }

-- the flag `--NAME`
abbrev pub flag_rule : Text → Rule
flag_rule name = record (new_rule name) { long = Some name; action = Some SetTrue }

-- `FILE`
abbrev pub file_rule : Rule
file_rule = record (new_rule (codes "file")) { value_names = 1; action = Some Set; required = true }

-- `run [--hosts FILE] [--turns N]`
abbrev pub turns_app : App
turns_app = with_rule (with_rule (new_app (codes "run")) (option_rule (codes "hosts"))) (option_rule (codes "turns"))

-- `run [--hosts FILE] [--turns N] [--full] [--trace]`
abbrev pub run_app : App
run_app = with_rule (with_rule turns_app (flag_rule (codes "full"))) (flag_rule (codes "trace"))

-- `replay FILE [--trace]`
abbrev pub replay_app : App
replay_app = with_rule (with_rule (new_app (codes "replay")) file_rule) (flag_rule (codes "trace"))

-- `amishell` alone, with a version to print
abbrev pub bare_app : App
bare_app = on_top (λ s. record s { no_binary_name = true; has_version = true }) (new_app (codes "amishell"))

-- what follows the program's name
abbrev pub amishell : App
amishell = with_subcommand (with_subcommand bare_app run_app.top) replay_app.top
