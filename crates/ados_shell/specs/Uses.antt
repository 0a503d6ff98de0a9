-- Devices that a turn uses, and the end of the event, when their assigns are bound.
use Rattle.std.specs.Prelude.{◌≡◌, Option}
use Rattle.ados_assign.specs.Uses.{with_used_defers_bound}
use Rattle.ados_find.specs.Shared.{SharedState, version, with_assigns}
use Rattle.ados_machine.specs.Course.{Course, shared_after_event}
use Rattle.ados_shell.specs.declared.scenes.Scene.{Scene}
use Rattle.ados_shell.specs.declared.drafts.Draft.{Draft}
use Rattle.ados_shell.specs.Drafts.{course_of}

-- between two drafts a turn went on to this course, in which devices are used, and nothing else was done
pub record HasUsed (scene : Scene) (before after : Draft) (course : Course) : Type 0 where
  pub frames : after.shell.frames ≡ before.shell.frames
  pub course_is : course_of scene after ≡ course
  pub setting : after.shell.setting ≡ before.shell.setting
  pub reports : after.reports.items ≡ before.reports.items

-- `new` is the shared state of a draft with the Defers bound that the event used, or none, if nothing changes by that
abbrev pub HasUsedBound : Scene → Draft → Option SharedState → Type 0
HasUsedBound scene draft new =
    version (course_of scene draft).shared new ≡ with_assigns (course_of scene draft).shared
    (with_used_defers_bound (course_of scene draft).used (course_of scene draft).shared.files (course_of scene draft).shared.assigns)

-- between two drafts the Defers that the event used were bound, and nothing else was done
pub record HasBound (scene : Scene) (before after : Draft) : Type 0 where
  pub same : after ≡ record before { shared = after.shared }
  pub shared_is : version scene.shared.now after.shared ≡ shared_after_event (course_of scene before)
