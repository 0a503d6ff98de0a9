use Rattle.std.proofs.Common.{◌≡◌, true, take}
use Rattle.ados_session.specs.Recordings.{are_records, session_of_lines}
use Rattle.ados_session.proofs.recordings.read_records.Given as goal

abbrev pub invariant-loop-place : goal.invariant-loop-place
invariant-loop-place l = (are_records l.form (take l.place l.lines) ≡ true) × (l.recording ≡ session_of_lines l.form (take l.place l.lines))
