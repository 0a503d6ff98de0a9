-- The meaning of lines that run alone in a shell, by direct recursion: no frames, no phases. Where a function takes `go`, that is
-- what the lines mean from here on.
use Rattle.std.specs.Prelude.{nat_lt, ℕ, zero, suc, ◌-◌, List, [], ◌∷◌, ◌++◌, Bool, true, false, ◌&&◌, ◌||◌, nat_le, Option, Some, None, slice_set, if◌then◌else◌}
use Rattle.ados_text.specs.Text.{Text}
use Rattle.ados_text.specs.declared.codes.Code.{Code}
use Rattle.ados_text.specs.declared.codes.TheConstants.Result2.{TOO_MANY_LEVELS}
use Rattle.ados_ram.specs.Place.{Place}
use Rattle.ados_find.specs.declared.codes.Codes.{Codes}
use Rattle.ados_find.specs.declared.outcomes.Renamed.{Renamed}
use Rattle.ados_find.specs.declared.targets.Target.{Target}
use Rattle.ados_find.specs.Codes.{fail_codes}
use Rattle.ados_find.specs.Parts.{Parts}
use Rattle.ados_find.specs.Shared.{SharedState}
use Rattle.ados_find.specs.Targets.{open_places}
use Rattle.ados_flow.specs.declared.called.Called.{Called}
use Rattle.ados_flow.specs.CodeRule.{is_reached}
use Rattle.ados_flow.specs.declared.records.Record.{Record}
use Rattle.ados_flow.specs.Frames.{ScriptLine, frame_limit, limit_above_scripts, last_line, last_codes, is_at_limit}
use Rattle.ados_machine.specs.declared.outs.EndReport.{EndReport}
use Rattle.ados_machine.specs.declared.answers.Answer.{Answer as Reply}
use Rattle.ados_machine.specs.declared.phases.Parted.{Parted}
use Rattle.ados_machine.specs.declared.phases.Wait.{Wait}
use Rattle.ados_machine.specs.Sinks.{Sink, Kept, sink_or, held_while}
use Rattle.ados_machine.specs.Names.{waiting_word}
use Rattle.ados_machine.specs.Shells.{ShellState, SeenShell, entry_while}
use Rattle.ados_machine.specs.Breaks.{break_text}
use Rattle.ados_machine.specs.Course.{Course, new_course}
use Rattle.ados_machine.specs.Items.{broken_codes}
use Rattle.ados_machine.specs.Completions.{Here, Completion, Passes, Answers, Jumps, Calls, Ticks, Waits, course_of}
use Rattle.ados_machine.specs.CodeRule.{RuleState, with_fault_line, with_answer, with_limit, newest_kept, with_tick, without_tick}
use Rattle.ados_machine.specs.World.{seen_shells}
use Rattle.ados_machine.specs.Carrying.{place_after_moves}
use Rattle.ados_machine.specs.Step.{after_event}

-- what lines pass on: the shells (at the shell's own number it only matters that there is one), what all share, what the shell
-- itself has: its parts, the output of its command substitutions, and what is printed; its scripts that ended, the newest first;
-- and whether it is flagged
pub record Common : Type 0 where
  pub shells : List (Option ShellState)
  pub shared : SharedState
  pub rule_state : RuleState
  pub reports : List EndReport
  pub flagged : Bool

-- where lines are. What their caller passes to them: where output goes, whether they are a script's, how many scripts run at or
-- below them, their depth, the lines, the files kept open by them and their callers, and the shell's name in Status. And how far
-- they got: the place of the next line, the line at which the last command began, and the record of the last that returned
pub record At : Type 0 where
  pub shell : ℕ
  pub sink : Sink
  pub in_script : Bool
  pub scripts : ℕ
  pub depth : ℕ
  pub lines : List Text
  pub outputs : List Place
  pub name : Text
  pub position : ℕ
  pub line : ℕ
  pub last : Option Record

-- what lines mean: they come to their end, with n events and these answers left, with what their last command returned,
-- and pass this on; or they end at a break, which ends the lines that called them too, up to the outermost script's; or one
-- more event is needed; or an answer is missing
pub data Whole : Type 0 where
  Done : (left : ℕ) (answers : List Reply) (last : Option Record) (common : Common) → Whole
  Broken : (left : ℕ) (answers : List Reply) (last : Option Record) (common : Common) → Whole
  Late : (answers : List Reply) → Whole
  Short : Whole

-- what is left of a run: this many events, and these answers
pub record Remainder : Type 0 where
  pub events : ℕ
  pub answers : List Reply

-- what is left of a run: n events, and these answers
abbrev pub remainder : ℕ → List Reply → Remainder
remainder n answers = record { events = n; answers = answers }

-- where lines are, and what they pass on
pub record Configuration : Type 0 where
  pub common : Common
  pub at : At

-- where lines are, and what they pass on, as one
abbrev pub configuration : Common → At → Configuration
configuration common at = record { common = common; at = at }

-- what lines mean from here on, with this left of the run, and, if they do, continuing a line after its command substitution. As `go` it is
-- the recursion, given as an argument, with a bound on its depth that the events left never exceed (`lines` in LoneShell).
abbrev pub Continuation : Type 0
Continuation = Remainder → Configuration → Option Parted → Whole

-- the lines are as deep as frames may be, so that they call no other lines
abbrev pub is_deepest : At → Bool
is_deepest at = nat_le frame_limit at.depth

-- where a line is in its script, if it is in one
abbrev pub script_line_at : At → Option ScriptLine
script_line_at at = if at.in_script then Some (record { lines = at.lines; line = at.line }) else None

-- what a line knows of where it is
abbrev pub here_at : At → Here
here_at at = record {
  sink = at.sink;
  script_line = script_line_at at;
  frame_lines = Some (record { lines = at.lines; position = at.position });
  is_full = is_deepest at;
}

-- what a shell keeps open while it waits for this, or for nothing
abbrev pub held_at : Option Wait → List Place
held_at None = []
held_at (Some wait) = held_while wait

-- the name of the resident entry from which a shell runs while it waits for this, or for nothing
abbrev pub waiting_entry : Option Wait → Option Text
waiting_entry None = None
waiting_entry (Some wait) = entry_while wait

-- the name of a shell in Status while it waits for this, or for nothing; it has this name if no command waits
abbrev pub name_at : Text → Option Wait → Text
name_at name None = name
name_at name (Some wait) = waiting_word wait

-- what the others see of a shell whose lines are here, which waits for this, or for nothing, in this current directory
abbrev pub seen_at : At → Option Wait → Place → SeenShell
seen_at at wait directory = record {
  directory = directory;
  outputs = at.outputs ++ held_at wait;
  entry = waiting_entry wait;
  name = name_at at.name wait;
}

-- the course of an event as it begins, of a shell whose lines are here and which waits for this, or for nothing
abbrev pub start_at : Configuration → Option Wait → Course
start_at now wait =
    new_course now.common.rule_state.parts now.common.rule_state.kept now.common.shared
    (slice_set (seen_shells now.common.shells) (now.at.shell - 1) (Some (seen_at now.at wait now.common.rule_state.parts.directory))) now.common.flagged

-- a shell's parts after these objects have moved: its current directory follows them
abbrev pub carried_parts : List Renamed → Parts → Parts
carried_parts moved parts = record parts { directory = place_after_moves moved parts.directory }

-- what lines pass on after an event of this course: what was printed is appended to what was printed before
abbrev pub common_after_event : Common → Course → Common
common_after_event common course =
    (let later = after_event common.shared common.shells course in
    record {
      reports = common.reports;
      shells = later.shells;
      shared = later.shared;
      rule_state = record { parts = carried_parts later.moved course.parts; kept = course.kept; printed = common.rule_state.printed ++ course.printed };
      flagged = course.flagged;
    })

-- what lines pass on after a command of this word returned these codes: the shell has them, and if the code reaches the limit it is printed
-- that the command failed
abbrev pub says : Text → Codes → Common → Common
says word answer common = record common { rule_state = with_answer word answer common.rule_state }

-- the record of a command of these lines that returned these codes: the line at which it began, the codes, and the limit in force
abbrev pub record_at : At → Codes → Common → Record
record_at at answer common = record { line = at.line; codes = answer; limit = common.rule_state.parts.limit }

-- what lines mean after a command of theirs returned, by its word, its codes, and whether it quits its script: a script ends here at its
-- limit, or if the command quits; other lines continue
abbrev pub after_answer : Continuation → Remainder → Configuration → Text → Codes → Bool → Whole
after_answer go left now word answer quits =
    if now.at.in_script && (quits || is_reached now.common.rule_state.parts.limit answer.code)
    then Done left.events left.answers (Some (record_at now.at answer now.common)) (says word answer now.common)
    else go left (configuration (says word answer now.common) (record now.at { last = Some (record_at now.at answer now.common) })) None

-- what lines mean after a command of theirs returned that did its work itself and was no call: the text of its fault is printed first; the
-- Bool says whether it quits its script
abbrev pub after_own_answer : Continuation → Remainder → Configuration → Text → Codes → Bool → Whole
after_own_answer go left now word answer quits =
    after_answer go left (configuration (record now.common { rule_state = with_fault_line word answer.result2 now.common.rule_state }) now.at) word answer quits

-- where the lines of a script begin that was called from here, with this output, if the call names one
abbrev pub script_at : At → Option Target → Called → At
script_at at output called = record {
  shell = at.shell;
  sink = sink_or output at.sink;
  in_script = true;
  scripts = suc at.scripts;
  depth = suc at.depth;
  lines = called.script;
  outputs = open_places output ++ at.outputs;
  name = called.name;
  position = 0;
  line = 0;
  last = None;
}

-- where the lines of a command substitution begin, which has this command and stands in a line here
abbrev pub tick_at : At → Text → At
tick_at at command = record at {
  sink = Kept;
  in_script = false;
  depth = suc at.depth;
  lines = command ∷ [];
  position = 0;
  line = 0;
  last = None;
}

-- the report of a script of this name in shell k that ended, by its last record: that one's line, or 0, its code, and whether it reached
-- its limit
abbrev pub report_of : ℕ → Text → Option Record → EndReport
report_of k name last = record {
  shell = k;
  name = name;
  last_line = last_line last;
  code = (last_codes last).code;
  early = is_at_limit last;
  broken = false;
}

-- the report of a script of this name in shell k that ended at a break: the line of its last record, or 0, and the code 10
abbrev pub report_broken : ℕ → Text → Option Record → EndReport
report_broken k name last = record (report_of k name last) { code = broken_codes.code; early = false; broken = true }

-- what lines pass on after the end of a script with this report
abbrev pub with_report : EndReport → Common → Common
with_report report common = record common { reports = report ∷ common.reports }

-- what lines mean after a script that they called ended at a break, which began at this limit and was called by a command of this word,
-- with this many scripts at or below the lines: after the outermost one that command returns 10 and 304, and otherwise the lines end too,
-- at the same break
abbrev pub after_broken : Continuation → Remainder → Configuration → Code → Text → ℕ → Whole
after_broken go left now limit word zero =
    after_answer go left (configuration (record now.common { rule_state = with_limit (limit_above_scripts now.at.scripts limit) now.common.rule_state }) now.at)
    word broken_codes false
after_broken go left now limit word (suc scripts) = Broken left.events left.answers now.at.last now.common

-- what lines mean after a script that they called, by its own meaning: it is reported, the limit of its beginning is restored, or 10 if no
-- script is left, and its last codes are the return of the command of this word that called it
abbrev pub after_call : Continuation → At → Code → Text → Text → Whole → Whole
after_call go at limit name word (Done n answers last common) =
    after_answer go (remainder n answers)
    (configuration (record (with_report (report_of at.shell name last) common) { rule_state = with_limit (limit_above_scripts at.scripts limit) common.rule_state }) at)
    word (last_codes last) false
after_call go at limit name word (Broken n answers last common) =
    after_broken go (remainder n answers) (configuration (with_report (report_broken at.shell name last) common) at) limit word at.scripts
after_call go at limit name word (Late answers) = Late answers
after_call go at limit name word Short = Short

-- what lines pass on as a command substitution begins, which keeps its output
abbrev pub common_with_tick : Common → Common
common_with_tick common = record common { rule_state = with_tick common.rule_state }

-- what lines pass on after a command substitution, whose output is no longer kept
abbrev pub common_without_tick : Common → Common
common_without_tick common = record common { rule_state = without_tick common.rule_state }

-- what lines mean after a command substitution, by its own meaning: its line continues, with its output between the texts `before` and
-- `after`
abbrev pub after_tick : Continuation → At → Text → Text → Whole → Whole
after_tick go at before after (Done n answers last common) =
    go (remainder n answers) (configuration (common_without_tick common) at)
    (Some (record { before = before; output = newest_kept common.rule_state.kept; after = after }))
after_tick go at before after (Broken n answers last common) = Broken n answers at.last (common_without_tick common)
after_tick go at before after (Late answers) = Late answers
after_tick go at before after Short = Short

-- what lines mean of which one did this, after its event; `further` is what it means to wait, and `go` what the lines mean afterwards
abbrev pub after_completion : (Configuration → Wait → Whole) → Continuation → Remainder → Configuration → Completion → Whole
after_completion further go left now (Passes course) = go left now None
after_completion further go left now (Answers word answer quits course) = after_own_answer go left now word answer quits
after_completion further go left now (Jumps word answer line course) =
    after_own_answer go left (configuration now.common (record now.at { position = line - 1 })) word answer false
after_completion further go left now (Calls word output called course) =
    if is_deepest now.at then after_own_answer go left now word (fail_codes TOO_MANY_LEVELS) false
    else after_call go now.at now.common.rule_state.parts.limit called.name word (go left (configuration now.common (script_at now.at output called)) None)
after_completion further go left now (Ticks before command after course) =
    after_tick go now.at before after (go left (configuration (common_with_tick now.common) (tick_at now.at command)) None)
after_completion further go left now (Waits wait course) = further now wait

-- what lines mean of which one did this; its event ends first. `further` is what it means to wait, and `go` what the lines mean afterwards
abbrev pub completion_meaning : (Configuration → Wait → Whole) → Continuation → Remainder → Configuration → Completion → Whole
completion_meaning further go left now completion =
    after_completion further go left (configuration (common_after_event now.common (course_of completion)) now.at) completion

-- what an answer of a launcher means, by what it does; an answer of another kind than what is waited for is treated as missing
abbrev pub after_reply : (Completion → Whole) → Option Completion → Whole
after_reply meaning None = Short
after_reply meaning (Some completion) = meaning completion

-- what lines pass on after a turn, which clears the flag
abbrev pub common_without_flag : Common → Common
common_without_flag common = record common { flagged = false }

-- a turn here finds the flag, in a script
abbrev pub breaks_at : Configuration → Bool
breaks_at now = now.common.flagged && nat_lt 0 now.at.scripts

-- what lines pass on after a turn that found the flag: the break is printed, and the flag cleared
abbrev pub common_after_break : Common → Common
common_after_break common = record common { rule_state = record common.rule_state { printed = common.rule_state.printed ++ break_text }; flagged = false }
