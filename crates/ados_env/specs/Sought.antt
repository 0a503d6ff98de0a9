-- What Which is to look for, and how far it looks.
use Rattle.std.specs.Prelude.{Bool, not, List, [], Result, is_some, if◌then◌else◌}
use Rattle.std.specs.List.{list_any}
use Rattle.ados_text.specs.Text.{Text}
use Rattle.ados_ram.specs.Place.{Place}
use Rattle.ados_find.specs.declared.codes.Codes.{Codes}
use Rattle.ados_readargs.specs.declared.args.Arg.{Arg}
use Rattle.ados_readargs.specs.Args.{has_switch}
use Rattle.ados_find.specs.declared.routes.Route.{Route}
use Rattle.ados_find.specs.declared.routes.Route.TheVariants.{BeforeC, ByPath, ToC}
use Rattle.ados_find.specs.Parts.{Parts}
use Rattle.ados_find.specs.Routes.{route_devices}
use Rattle.ados_find.specs.Search.{file_lookup, is_path, places_before_c}
use Rattle.ados_find.specs.Devices.{searched_devices}
use Rattle.ados_find.specs.Shared.{SharedState}
use Rattle.ados_env.specs.declared.sought.Sought.{Sought}
use Rattle.ados_env.specs.declared.options.TheConstants.{WHICH_NORES, WHICH_RES, WHICH_ALL}

-- what Which is to look for: NORES leaves out the internal commands and the resident list, RES the files; ALL asks for all files
abbrev pub sought_of : List Arg → Sought
sought_of args = record { residents = not (has_switch args WHICH_NORES); files = not (has_switch args WHICH_RES); all = has_switch args WHICH_ALL }

-- how far the search for a word goes that is to meet all files
abbrev pub route_of_all : Text → Route
route_of_all word = if is_path word then ByPath else ToC

-- a file is at this place, if the place is right
abbrev pub has_file : SharedState → Result Place Codes → Bool
has_file shared place = is_some (file_lookup shared place)

-- how far the search for a word goes that is to meet only the first file: it ends before C: if there is one there
abbrev pub route_of_first : SharedState → Parts → Text → Route
route_of_first shared parts word =
    if is_path word then ByPath
    else (if list_any (has_file shared) (places_before_c shared parts.directory parts.settings.path word) then BeforeC else ToC)

-- the devices that the search for a word uses; the resident list alone uses none
abbrev pub sought_devices : SharedState → Parts → Sought → Text → List Text
sought_devices shared parts s word =
    if not s.files then [] else
    (if s.all then route_devices (route_of_all word) word else
    (if s.residents then searched_devices shared parts.directory parts.settings.path word
    else route_devices (route_of_first shared parts word) word))
