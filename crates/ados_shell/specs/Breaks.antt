-- Breaks: a turn that ends the scripts of its shell.
use Rattle.std.specs.Prelude.{◌≡◌, ℕ, [], ◌∷◌, ◌++◌, List}
use Rattle.ados_text.specs.Text.{Text}
use Rattle.ados_flow.specs.Frames.{FrameState}
use Rattle.ados_machine.specs.Breaks.{kept_after_break}
use Rattle.ados_machine.specs.Items.{break_item, reports_of}
use Rattle.ados_machine.specs.Turning as machine
use Rattle.ados_shell.specs.declared.scenes.Input.{Input}
use Rattle.ados_shell.specs.declared.scenes.Scene.{Scene}
use Rattle.ados_shell.specs.declared.drafts.Draft.{Draft}
use Rattle.ados_shell.specs.Drafts.{course_of, turn_start}
use Rattle.ados_shell.specs.Turnings.{waiting_input, plain_turning}

-- the machine's turn of the scene's shell, when these lines wait, that ends its scripts instead of doing what it would have done
abbrev pub broken_turning : Scene → Input → List Text → machine.Turning
broken_turning scene input queue =
    machine.turning_at_break (plain_turning scene input scene.shell.now.phase queue) (waiting_input input queue) scene.shell.now.frames (turn_start scene)

-- between two drafts the end of this frame at a break was reported, if the frame is a script's, and nothing else was done
pub record ReportsBreak (scene : Scene) (before after : Draft) (frame : FrameState) : Type 0 where
  pub same : after ≡ record before { reports = after.reports }
  pub reports : (depth : ℕ) → after.reports.items ≡ before.reports.items ++ reports_of scene.number (break_item depth frame ∷ [])

-- between two drafts the output of this frame, which ended at a break, was dropped, if the frame is that of a command substitution, and
-- nothing else was done
pub record GivesUp (scene : Scene) (before after : Draft) (frame : FrameState) : Type 0 where
  pub frames : after.shell.frames ≡ before.shell.frames
  pub course : course_of scene after ≡ record (course_of scene before) { kept = kept_after_break frame.kind (course_of scene before).kept }
  pub reports : after.reports.items ≡ before.reports.items
