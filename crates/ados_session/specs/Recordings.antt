-- Recordings of sessions.
use Rattle.std.specs.Prelude.{◌≡◌, Bool, true, false, ◌&&◌, ◌++◌, List, [], ◌∷◌, Option, Some, None, option_map, codes, if◌then◌else◌}
use Rattle.std.specs.List.{filter_map, flat_map, list_all}
use Rattle.std.specs.Option.{option_map_or}
use Rattle.std.specs.Str.{bytes_eq}
use Rattle.ados_text.specs.Text.{Bytes, Text}
use Rattle.ados_resident.specs.declared.dialects.Dialect.{Dialect}
use Rattle.ados_resident.specs.declared.dialects.Dialect.TheVariants.{Core, Full}
use Rattle.ados_resident.specs.declared.hosts.HostEntry.{HostEntry}
use Rattle.ados_machine.specs.declared.answers.Answer.{Answer}
use Rattle.ados_machine.specs.declared.events.BreakAt.{BreakAt}
use Rattle.ados_session.specs.Parts.{split_at_space}
use Rattle.ados_session.specs.Faults.{IsFault}
use Rattle.ados_session.specs.Hosts.{are_free}
use Rattle.ados_session.specs.Answers.{answer_of}
use Rattle.ados_session.specs.Breaks.{are_rising, break_of}
use Rattle.ados_session.specs.declared.faults.FileFault.{FileFault}
use Rattle.ados_session.specs.declared.faults.FileFault.TheVariants.{BadLine, NoMemory}
use Rattle.ados_session.specs.declared.recordings.RecordLine.{RecordLine}
use Rattle.ados_session.specs.declared.recordings.RecordLine.TheVariants.{Host, Typed, Answered, Broken, Bad}
use Rattle.ados_session.specs.declared.recordings.Form.{Form}
use Rattle.ados_session.specs.declared.recordings.Form.TheVariants.{First, Second, Third}

-- what a line of a recording says that is to give this answer; without one it is invalid
abbrev pub answer_line : Option Answer → RecordLine
answer_line (Some answer) = Answered answer
answer_line None = Bad

-- what a line of a recording says that is to write this break; without one it is invalid
abbrev pub break_line : Option BreakAt → RecordLine
break_line (Some at) = Broken at
break_line None = Bad

-- what a line with a break says in a recording of this form, by the text after its word; the first form has no breaks
abbrev pub break_line_in_form : Form → Text → RecordLine
break_line_in_form First text = Bad
break_line_in_form Second text = break_line (break_of text)
break_line_in_form Third text = break_line (break_of text)

-- what a line of a recording of this form says, by its word and the text after it: a command whose program has its name, a typed line, an
-- answer, or a break
abbrev pub record_of : Form → Text → Text → RecordLine
record_of form word text =
    if bytes_eq word (codes "host") then Host (record { name = text; program = text }) else
    (if bytes_eq word (codes "line") then Typed text else
    (if bytes_eq word (codes "answer") then answer_line (answer_of text) else
    (if bytes_eq word (codes "break") then break_line_in_form form text else Bad)))

-- what a line after the first says in a recording of this form
abbrev pub record_line : Form → Text → RecordLine
record_line form line = option_map_or (λ p. record_of form p.0 p.1) (split_at_space line) Bad

-- a line of a recording says something: it is valid
abbrev pub is_record : RecordLine → Bool
is_record Bad = false
is_record _ = true

-- the host command that a line of a recording says, if it says one
abbrev pub host_in : RecordLine → Option HostEntry
host_in (Host host) = Some host
host_in _ = None

-- the bytes that a line of a recording types, with a newline; none if it types no line
abbrev pub typed_in : RecordLine → Bytes
typed_in (Typed text) = text ++ 10 ∷ []
typed_in _ = []

-- the answer that a line of a recording gives, if it gives one
abbrev pub answer_in : RecordLine → Option Answer
answer_in (Answered answer) = Some answer
answer_in _ = None

-- the break that a line of a recording writes, if it writes one
abbrev pub break_in : RecordLine → Option BreakAt
break_in (Broken at) = Some at
break_in _ = None

-- the dialect of the world that a recording of this form is played to
abbrev pub dialect_of : Form → Dialect
dialect_of First = Core
dialect_of Second = Core
dialect_of Third = Full

-- a recorded session: the dialect of its world, its host commands, its typed bytes, a launcher's answers, and the breaks
pub record RecordedSession : Type 0 where
  pub dialect : Dialect
  pub hosts : List HostEntry
  pub typed : Bytes
  pub answers : List Answer
  pub breaks : List BreakAt

-- the first session followed by the second, in the world of the first
abbrev pub joined_sessions : RecordedSession → RecordedSession → RecordedSession
joined_sessions one other = record {
  dialect = one.dialect;
  hosts = one.hosts ++ other.hosts;
  typed = one.typed ++ other.typed;
  answers = one.answers ++ other.answers;
  breaks = one.breaks ++ other.breaks;
}

-- the session that these lines, those after the first, record in this form
abbrev pub session_of_lines : Form → List Text → RecordedSession
session_of_lines form lines = record {
  dialect = dialect_of form;
  hosts = filter_map (λ line. host_in (record_line form line)) lines;
  typed = flat_map (λ line. typed_in (record_line form line)) lines;
  answers = filter_map (λ line. answer_in (record_line form line)) lines;
  breaks = filter_map (λ line. break_in (record_line form line)) lines;
}

-- a session can be: a world can be made with its host commands, and its breaks name no earlier event than those before them
abbrev pub is_session : RecordedSession → Bool
is_session session = are_free session.dialect session.hosts && are_rising session.breaks

-- each of these lines, those after the first, says something in this form, and together they are a session
abbrev pub are_records : Form → List Text → Bool
are_records form lines = list_all (λ line. is_record (record_line form line)) lines && is_session (session_of_lines form lines)

-- the form that the first line of a recording names, if it names one
abbrev pub recording_form : Text → Option Form
recording_form line =
    if bytes_eq line (codes "amishell 1") then Some First else
    (if bytes_eq line (codes "amishell 2") then Some Second else
    (if bytes_eq line (codes "amishell 3") then Some Third else None))

-- these lines are a recording: the first names a form, and the others are a session of it
abbrev pub is_recording : List Text → Bool
is_recording [] = false
is_recording (first ∷ lines) = option_map_or (λ form. are_records form lines) (recording_form first) false

-- the session that these lines, those after the first, record, if there is a form
abbrev pub session_of : Option Form → List Text → Option RecordedSession
session_of form lines = option_map (λ found. session_of_lines found lines) form

-- the session that a recording of these lines records, if its first line names a form
abbrev pub session_in : List Text → Option RecordedSession
session_in [] = None
session_in (first ∷ lines) = session_of (recording_form first) lines

-- A fault names the first invalid line of a recording whose first line names this form, or the first line if that names none; `lines` are
-- those after it.
abbrev pub IsFaultAfterFirst : Option Form → List Text → FileFault → Type 0
IsFaultAfterFirst (Some form) lines fault = IsFault (are_records form) 1 lines fault
IsFaultAfterFirst None lines (BadLine number) = number ≡ 1
IsFaultAfterFirst None lines NoMemory = Unit {0}

-- a fault names the first invalid line of a recording of these lines: the first, which names no form or is missing, or one after it
abbrev pub IsRecordingFault : List Text → FileFault → Type 0
IsRecordingFault [] (BadLine number) = number ≡ 1
IsRecordingFault [] NoMemory = Unit {0}
IsRecordingFault (first ∷ lines) fault = IsFaultAfterFirst (recording_form first) lines fault
