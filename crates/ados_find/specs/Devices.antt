-- The devices that a path names, and those that the search for a word uses.
use Rattle.std.specs.Prelude.{List, [], ◌∷◌, Option, Some, None, codes, if◌then◌else◌}
use Rattle.ados_text.specs.Text.{Text}
use Rattle.ados_ram.specs.Place.{Place}
use Rattle.ados_assign.specs.Uses.{device_prefix}
use Rattle.ados_find.specs.declared.search.Found.{Found}
use Rattle.ados_find.specs.Search.{first_file_before_c, is_path, listed_command}
use Rattle.ados_find.specs.Shared.{SharedState}

-- the text that there is, if there is one
abbrev pub if_some : Option Text → List Text
if_some None = []
if_some (Some text) = text ∷ []

-- the device that a path names: what comes before its colon, if it has one
abbrev pub device_named : Text → List Text
device_named text = if_some (device_prefix text)

-- The search for a word uses C: if no file was found before that; given that file.
abbrev pub c_unless_found : Option Found → List Text
c_unless_found (Some found) = []
c_unless_found None = codes "C" ∷ []

-- The search for a word uses C: if it is neither on the resident list nor found before that; given what was found of both.
abbrev pub c_unless_listed : Option Found → Option Found → List Text
c_unless_listed (Some listed) before = []
c_unless_listed None before = c_unless_found before

-- the devices that the search for a word uses: that of a path, and C: if the search reaches it
unfoldable pub searched_devices : SharedState → Place → List Place → Text → List Text
searched_devices shared directory path word =
    if is_path word then device_named word
    else c_unless_listed (listed_command shared.residents word) (first_file_before_c shared directory path word)
