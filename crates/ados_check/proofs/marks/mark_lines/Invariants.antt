use Rattle.std.proofs.Common.{drop}
use Rattle.std.specs.List.{slice_split}
use Rattle.ados_text.specs.Lines.{is_newline}
use Rattle.ados_check.specs.Marks.{is_in_printed, marked_if}
use Rattle.ados_check.specs.Signs.{is_dotted}
use Rattle.ados_check.proofs.ChangeLemmas.{Leaves}
use Rattle.ados_check.proofs.marks.mark_lines.Given as goal

abbrev pub invariant-loop-place : goal.invariant-loop-place
invariant-loop-place l =
    Leaves marked_if (is_in_printed (is_dotted l.bytes) l.place l.from (drop l.place (slice_split is_newline l.bytes)))
    (is_in_printed (is_dotted l.bytes) 0 0 (slice_split is_newline l.bytes)) l.initial.script l.script
