-- Binding, as the contracts of `World` cite it: what the end of an event does to assigns.
use Rattle.std.specs.Prelude.{◌≡◌, IfSome}
use Rattle.ados_find.specs.Shared.{SharedState}
use Rattle.ados_machine.specs.declared.events.Event.{Event}
use Rattle.ados_machine.specs.declared.events.Event.TheVariants.{Turn, Answer}
use Rattle.ados_machine.specs.Binding.{BindsOnly}
use Rattle.ados_machine.specs.Step.{start, course_without_flag}
use Rattle.ados_machine.specs.Turning.{Turning, Turned, turning_of_answer, flagged_turning}
use Rattle.ados_machine.specs.World.{WorldState, input_of, numbered_shell}

-- what an event of a shell results in changes, in this shared state after it, no assign beyond what its commands did, except that Defers
-- are bound that it used
abbrev pub TurningBinds : Turning → SharedState → Type 0
TurningBinds (Turned queue turned) shared = BindsOnly turned.course.used shared.files turned.course.shared.assigns shared.assigns
TurningBinds turning shared = Unit {0}

-- in the world after a turn or an answer no assign is changed beyond what its commands did, except that Defers are bound that the event
-- used; any other event changes nothing of what all shells share
abbrev pub BindsOnlyWhatItUsed : WorldState → Event → WorldState → Type 0
BindsOnlyWhatItUsed w (Turn k) world = IfSome (numbered_shell w k) (λ shell.
    TurningBinds (flagged_turning shell.flagged (input_of w k) shell.frames (course_without_flag (start w shell)) shell.phase) world.shared)
BindsOnlyWhatItUsed w (Answer k answer) world = IfSome (numbered_shell w k) (λ shell.
    TurningBinds (turning_of_answer (input_of w k) shell.frames (start w shell) shell.phase answer) world.shared)
BindsOnlyWhatItUsed w event world = world.shared ≡ w.shared
