-- The devices that a search uses, given how far it went.
use Rattle.std.specs.Prelude.{List, [], ◌∷◌, codes}
use Rattle.ados_text.specs.Text.{Text}
use Rattle.ados_find.specs.declared.routes.Route.{Route}
use Rattle.ados_find.specs.declared.routes.Route.TheVariants.{BeforeC, ByPath, ToC}
use Rattle.ados_find.specs.Devices.{device_named}

-- the devices that the search for a word uses, if it went so far: its own if it is a path, C: if it came to that, and otherwise none
abbrev pub route_devices : Route → Text → List Text
route_devices BeforeC word = []
route_devices ByPath word = device_named word
route_devices ToC word = codes "C" ∷ []
