-- The report of a script's end.
use Rattle.std.specs.Prelude.{ℕ, false, true}
use Rattle.ados_text.specs.Text.{Text}
use Rattle.ados_flow.specs.Frames.{FrameState, last_line, last_codes, is_early}
use Rattle.ados_machine.specs.declared.outs.EndReport.{EndReport}
use Rattle.ados_machine.specs.Items.{broken_codes}

-- the report of the end of this frame, which is the script of this name, in the shell of this number
abbrev pub report_of : ℕ → Text → FrameState → EndReport
report_of shell name frame = record {
  shell = shell;
  name = name;
  last_line = last_line frame.last;
  code = (last_codes frame.last).code;
  early = is_early frame.kind frame.last;
  broken = false;
}

-- the report of the end at a break of this frame, which is the script of this name, in the shell of this number
abbrev pub broken_report : ℕ → Text → FrameState → EndReport
broken_report shell name frame = record {
  shell = shell;
  name = name;
  last_line = last_line frame.last;
  code = broken_codes.code;
  early = false;
  broken = true;
}
