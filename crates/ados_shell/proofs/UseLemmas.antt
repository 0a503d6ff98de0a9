-- Devices that are used, and the assigns that are bound.
use Rattle.std.proofs.Common.{◌≡◌, ◌∙◌, List, [], ◌∷◌, Option, Some, length, false, ◌==◌, ap, refl, sym}
use Rattle.ados_text.specs.Text.{Text}
use Rattle.ados_assign.specs.Uses.{with_used_defers_bound}
use Rattle.ados_find.specs.Shared.{SharedState, with_assigns}
use Rattle.ados_find.specs.declared.targets.Target.{Target}
use Rattle.ados_find.specs.Devices.{device_named}
use Rattle.ados_line.specs.declared.lines.Redirection.{Redirection}
use Rattle.ados_machine.specs.Course.{Course, with_devices_used}
use Rattle.ados_machine.specs.Completions.{Completion, Here}
use Rattle.ados_machine.specs.Opening.{OpenedOutput, output_devices}
use Rattle.ados_machine.specs.Apply.{here_of, turn_of_completion}
use Rattle.ados_machine.specs.Uses.{shared_with_bound}
use Rattle.ados_shell.specs.declared.scenes.Scene.{Scene}
use Rattle.ados_shell.specs.declared.drafts.Draft.{Draft}
use Rattle.ados_shell.specs.Drafts.{IsApplied, course_of, frames_of, here_in}
use Rattle.ados_shell.specs.Outputs.{OpensOutput, opened_course}
use Rattle.ados_shell.specs.Stacks.{drafted_frames}
use Rattle.ados_shell.specs.Uses.{HasUsed}
use Rattle.ados_shell.proofs.TurnLemmas.{goes-same}

-- devices were used on the way
pub used-goes : (scene : Scene) (before mid after : Draft) (work : Here → Course → Completion) (course : Course)
    → HasUsed scene before mid course
    → IsApplied scene mid after (work (here_in scene mid) (course_of scene mid))
    → IsApplied scene before after (work (here_in scene before) course)
used-goes scene before mid after work course u g =
    goes-same scene before mid after _ _ u.reports
    (ap (λ x. turn_of_completion (work (here_of (drafted_frames scene.shell.now x)) (course_of scene mid)) (drafted_frames scene.shell.now x)) u.frames
    ∙ ap (λ x. turn_of_completion (work (here_in scene before) x) (frames_of scene before)) u.course_is)
    g

-- an output was opened, and its device is used
pub opened-used : (scene : Scene) (before mid after : Draft) (output : Redirection) (target : Option Target) (opened : OpenedOutput)
    → OpensOutput scene before mid target opened (opened_course (course_of scene before) opened)
    → HasUsed scene mid after (with_devices_used (device_named output.name) (course_of scene mid))
    → OpensOutput scene before after target opened (with_devices_used (output_devices (Some output)) (opened_course (course_of scene before) opened))
opened-used scene before mid after output target opened l u = record {
  frames = u.frames ∙ l.frames;
  target_is = l.target_is;
  course_is = u.course_is ∙ ap (with_devices_used (device_named output.name)) l.course_is;
  setting = u.setting ∙ l.setting;
  reports = u.reports ∙ l.reports;
}

-- if no assign changes, binding changes nothing
pub settled : (used : List Text) (shared : SharedState) → with_used_defers_bound used shared.files shared.assigns ≡ shared.assigns
    → shared ≡ with_assigns shared (with_used_defers_bound used shared.files shared.assigns)
settled used shared e = ap (with_assigns shared) (sym e)

-- if a device was used, all its assigns are bound
pub bound : (used : List Text) (shared : SharedState) → (length used == 0) ≡ false
    → with_assigns shared (with_used_defers_bound used shared.files shared.assigns) ≡ shared_with_bound used shared
bound [] shared e = absurd cc
bound (device ∷ used) shared e = refl
