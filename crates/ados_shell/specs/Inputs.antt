-- Inputs that are read.
use Rattle.std.specs.Prelude.{◌≡◌, List, Option, Result, Ok, Err}
use Rattle.ados_text.specs.Text.{Text}
use Rattle.ados_text.specs.declared.codes.Result2.{Result2}
use Rattle.ados_text.specs.declared.stops.Stop.{Stop}
use Rattle.ados_text.specs.declared.stops.Stop.TheVariants.{Refused, NoMemory}
use Rattle.ados_machine.specs.Course.{with_devices_used}
use Rattle.ados_machine.specs.Uses.{devices_named}
use Rattle.ados_shell.specs.declared.scenes.Scene.{Scene}
use Rattle.ados_shell.specs.declared.drafts.Draft.{Draft}
use Rattle.ados_shell.specs.Drafts.{course_of}
use Rattle.ados_shell.specs.Uses.{HasUsed}

-- between two drafts the input of a line was read, if it names one: the lines read are those that the machine reads, and its device is used
pub record Reads (scene : Scene) (before after : Draft) (name : Option Text) (lines given : Option (List Text)) : Type 0 where
  pub lines_are : lines ≡ given
  pub used : HasUsed scene before after (with_devices_used (devices_named name) (course_of scene before))

-- between two drafts the input of a line was read, if it names one, with the result that the machine has; if it was refused, nothing
-- changed; or an allocation failed
abbrev pub HasRead : Scene → Draft → Draft → Option Text → Result (Option (List Text)) Stop → Result (Option (List Text)) Result2 → Type 0
HasRead scene before after name (Ok lines) (Ok given) = Reads scene before after name lines given
HasRead scene before after name (Err (Refused fault)) (Err other) = (fault ≡ other) × (after ≡ before)
HasRead scene before after name (Err NoMemory) given = Unit {0}
HasRead scene before after name _ _ = ⊥
