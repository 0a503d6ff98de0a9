-- Devices that the arguments of a command use.
use Rattle.std.specs.Prelude.{List, [], ◌∷◌, ◌||◌, Bool, Option, Some, None, if◌then◌else◌, codes}
use Rattle.std.specs.List.{flat_map}
use Rattle.ados_text.specs.Text.{Text}
use Rattle.ados_readargs.specs.declared.args.Arg.{Arg}
use Rattle.ados_readargs.specs.Args.{has_switch, option_text, option_texts}
use Rattle.ados_find.specs.Parts.{Parts}
use Rattle.ados_find.specs.Devices.{device_named}
use Rattle.ados_find.specs.Shared.{SharedState}
use Rattle.ados_resident.specs.declared.commands.EnvCommand.{EnvCommand}
use Rattle.ados_resident.specs.declared.commands.EnvCommand.TheVariants.{Assign, Cd, Eval, GetEnv, Path, Resident, SetEnv, UnsetEnv, Which}
use Rattle.ados_env.specs.declared.options.TheConstants.{EVAL_TO, WHICH_FILE}
use Rattle.ados_env.specs.declared.sought.Sought.{Sought}
use Rattle.ados_env.specs.Sought.{sought_devices, sought_of}

-- the paths that Resident reads, given FILE and the texts of NAME: FILE, or else NAME; a NAME that is to be removed is no path
abbrev pub program_paths : Bool → Option Text → List Text → List Text
program_paths removes (Some file) name = file ∷ []
program_paths removes None name = if removes then [] else name

-- the arguments of a command that are paths: TARGET of Assign, unless it is kept as a text, and never its NAME; TO of Eval
abbrev pub paths_in : EnvCommand → List Arg → List Text
paths_in Assign args = if has_switch args 3 || has_switch args 4 then [] else option_texts args 1
paths_in Cd args = option_texts args 0
paths_in Eval args = option_texts args EVAL_TO
paths_in Path args = option_texts args 0
paths_in Resident args = program_paths (has_switch args 2) (option_text args 1) (option_texts args 0)
paths_in command args = []

-- the devices that Which searches for a word as a command; none without a word
abbrev pub search_devices : SharedState → Parts → Sought → Option Text → List Text
search_devices shared parts s None = []
search_devices shared parts s (Some word) = sought_devices shared parts s word

-- the devices that a command uses: those of its paths; ENV: for global variables; and those that the search of Which reaches
abbrev pub devices_of : EnvCommand → SharedState → Parts → List Arg → List Text
devices_of SetEnv shared parts args = codes "ENV" ∷ []
devices_of GetEnv shared parts args = codes "ENV" ∷ []
devices_of UnsetEnv shared parts args = codes "ENV" ∷ []
devices_of Which shared parts args = search_devices shared parts (sought_of args) (option_text args WHICH_FILE)
devices_of command shared parts args = flat_map device_named (paths_in command args)
