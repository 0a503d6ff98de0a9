-- What the command line and a file of options give together.
use Rattle.std.specs.Prelude.{◌≡◌, ◌⊎◌, ◌++◌, ◌==◌, List, [], Bool, Some, None, codes, filter, length, not, option_map, unwrap_or, if◌then◌else◌}
use Rattle.std.specs.List.{list_any}
use Rattle.clap.specs.Matches.{matched_of, one_text, raw_values}
use Rattle.clap.specs.declared.parser.matches.Found.{Found}
use Rattle.ados_text.specs.Text.{Bytes, is_same}
use Rattle.execute_options.specs.Names.{name_of}

-- the values of an option that may be given again
abbrev pub values_of : Found → Bytes → List Bytes
values_of found name = unwrap_or (option_map raw_values (matched_of found name)) []

-- an option without a value is given, and it is left out
abbrev pub IsFlagOf : Found → Bytes → Type 0
IsFlagOf found name = one_text found name ≡ Some (codes "true")

abbrev pub IsLeftOutOf : Found → Bytes → Type 0
IsLeftOutOf found name = (one_text found name ≡ None) ⊎ (one_text found name ≡ Some (codes "false"))

-- the command's name in words of `--host`
abbrev pub host_name : Bytes → Bytes
host_name words = name_of words

-- other words of `--host` are of the same command
abbrev pub is_host_among : List Bytes → Bytes → Bool
is_host_among others words = list_any (λ other. is_same (host_name words) (host_name other)) others

-- the commands of `--host`: those of the file that the command line does not name, and those of the command line
abbrev pub hosts_of : List Bytes → List Bytes → List Bytes
hosts_of file typed = filter (λ words. not (is_host_among typed words)) file ++ typed

-- the words of `--share`: those of the command line, if it has any, and else those of the file
abbrev pub shares_of : List Bytes → List Bytes → List Bytes
shares_of file typed = if length typed == 0 then file else typed
