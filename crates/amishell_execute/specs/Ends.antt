-- The scripts of a shell, kept from their beginning to their end, and why their end is told.
use Rattle.std.specs.Prelude.{ℕ, List, ◌++◌, Option, Some, None, take, drop, length, reverse, slice_get, if◌then◌else◌}
use Rattle.std.specs.List.{filter_map}
use Rattle.std.specs.Option.{option_map, option_or}
use Rattle.ados_text.specs.Text.{Text}
use Rattle.ados_flow.specs.Frames.{FrameState, is_script}
use Rattle.ados_machine.specs.declared.outs.EndReport.{EndReport}
use Rattle.amishell_execute.specs.declared.ends.Cause.{Cause}
use Rattle.amishell_execute.specs.declared.ends.Cause.TheVariants.{Break, Jump, Limit}
use Rattle.amishell_execute.specs.declared.lost_jumps.LostJump.{LostJump}

-- what is kept after a look at the frames that run, both oldest first: what ended is given up, and what began is added
abbrev pub kept_after : List FrameState → List FrameState → List FrameState
kept_after kept frames = take (length frames) kept ++ drop (length kept) frames

-- the lines of a frame that is a script
abbrev pub script_of : FrameState → Option (List Text)
script_of frame = if is_script frame.kind then Some frame.lines else None

-- the lines of the newest script of some frames, oldest first, or of the one that has this many newer ones
abbrev pub script_at : List FrameState → ℕ → Option (List Text)
script_at frames newer = slice_get (reverse (filter_map script_of frames)) newer

-- why the end of a script is told: it was broken, or else its last line is a jump that found nothing, or else it was early
abbrev pub cause_of : EndReport → Option LostJump → Option Cause
cause_of report jump = if report.broken then Some Break else option_or (option_map Jump jump) (if report.early then Some Limit else None)
