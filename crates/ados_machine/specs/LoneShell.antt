-- A shell that is opened for lines, and what they mean to their end.
use Rattle.std.specs.Prelude.{ℕ, zero, suc, ◌+◌, ◌-◌, List, [], ◌∷◌, false, Option, Some, None, slice_get, slice_set, codes, if◌then◌else◌}
use Rattle.ados_text.specs.Text.{Text}
use Rattle.ados_find.specs.Settings.{first_settings}
use Rattle.ados_machine.specs.declared.answers.Answer.{Answer as Reply}
use Rattle.ados_machine.specs.declared.phases.Parted.{Parted}
use Rattle.ados_machine.specs.declared.phases.Wait.{Wait}
use Rattle.ados_machine.specs.declared.phases.Wait.TheVariants.{ForAnswer, ForLines}
use Rattle.ados_machine.specs.Sinks.{Console}
use Rattle.ados_machine.specs.Shells.{ShellState, begun_shell, parts_in}
use Rattle.ados_machine.specs.Lines.{line_completion, parted_completion, answer_completion}
use Rattle.ados_machine.specs.NewShells.{gathered_completion}
use Rattle.ados_machine.specs.Answers.{answered_completion}
use Rattle.ados_machine.specs.World.{WorldState}
use Rattle.ados_machine.specs.Whole.{Common, At, Whole, Remainder, remainder, Configuration, configuration, Continuation, here_at, start_at, completion_meaning, after_reply, common_without_flag, breaks_at, common_after_break, Done, Broken, Late, Short}

-- what a turn means for the lines of a shell, with this left of the run: `work`, without the flag; but if it finds the flag in a script it
-- ends the lines at a break
abbrev pub turn_at : Remainder → Configuration → (Configuration → Whole) → Whole
turn_at left now work =
    if breaks_at now then Broken left.events left.answers now.at.last (common_after_break now.common)
    else work (configuration (common_without_flag now.common) now.at)

-- what it means that the lines of a shell wait for this, one event each; `go` is what they mean afterwards, n the events left. A prompt
-- takes the end of input, and so would a Run that asks for more lines, as none does in lines; of a program the next answer is taken
abbrev pub waits : Continuation → ℕ → List Reply → Configuration → Wait → Whole
waits go zero answers now wait = Late answers
waits go (suc n) answers now (ForAnswer asking) =
    turn_at (remainder n answers) now
    (λ here. completion_meaning (waits go n answers) go (remainder n answers) here (answer_completion [] asking (here_at here.at) (start_at here (Some (ForAnswer asking)))))
waits go (suc n) answers now (ForLines gathering) =
    turn_at (remainder n answers) now
    (λ here. completion_meaning (waits go n answers) go (remainder n answers) here (gathered_completion gathering here.at.sink (start_at here (Some (ForLines gathering)))))
waits go (suc n) [] now wait = Short
waits go (suc n) (reply ∷ answers) now wait =
    after_reply (completion_meaning (waits go n answers) go (remainder n answers) now)
    (answered_completion now.at.sink (start_at now (Some wait)) wait reply)

-- where the lines of a shell are when the next one is taken: their place moves on before the command runs
abbrev pub at_next_line : Configuration → Configuration
at_next_line now = configuration now.common (record now.at { position = now.at.position + 1; line = now.at.position + 1 })

-- what lines mean whose next one is this, or that continue the line after its command substitution: it takes one of n events, and `go` is
-- what they mean afterwards; if no line is left they have come to their end, which takes no event
abbrev pub next_line_meaning : Continuation → ℕ → List Reply → Configuration → Option Parted → Option Text → Whole
next_line_meaning go n answers now None None = Done n answers now.at.last now.common
next_line_meaning go zero answers now parted line = Late answers
next_line_meaning go (suc n) answers now (Some parted) line =
    turn_at (remainder n answers) now
    (λ here. completion_meaning (waits go n answers) go (remainder n answers) here (parted_completion parted (here_at here.at) (start_at here None)))
next_line_meaning go (suc n) answers now None (Some line) =
    turn_at (remainder n answers) now
    (λ here. completion_meaning (waits go n answers) go (remainder n answers) (at_next_line here)
    (line_completion line (here_at (at_next_line here).at) (start_at here None)))

-- what lines mean, with this bound on how deep the calls go, which the events left never exceed
abbrev pub lines : ℕ → Continuation
lines zero left now parted = Late left.answers
lines (suc gas) left now parted = next_line_meaning (lines gas) left.events left.answers now parted (slice_get now.at.lines now.at.position)

-- where the lines of shell k begin: the console takes their output, and they are not a script's
abbrev pub at_bottom : ℕ → List Text → At
at_bottom k commands = record {
  shell = k;
  sink = Console;
  in_script = false;
  scripts = 0;
  depth = 1;
  lines = commands;
  outputs = [];
  name = codes "No command";
  position = 0;
  line = 0;
  last = None;
}

-- a new shell k with these lines: it begins in the root, and nothing except its own variables is set there
abbrev pub opened_shell : ℕ → List Text → ShellState
opened_shell k commands =
    begun_shell k (record { directory = []; settings = first_settings k; commands = commands; output = None })

-- a world in which shell k was opened for these lines
abbrev pub world_with_opened : WorldState → ℕ → List Text → WorldState
world_with_opened w k commands = record w { shells = slice_set w.shells (k - 1) (Some (opened_shell k commands)) }

-- what the lines of shell k, opened for them in a world, are passed as they begin
abbrev pub first_common : WorldState → ℕ → List Text → Common
first_common w k commands = record {
  shells = (world_with_opened w k commands).shells;
  shared = w.shared;
  rule_state = record { parts = parts_in k [] (first_settings k); kept = []; printed = [] };
  reports = [];
  flagged = false;
}

-- the direct meaning of these lines in shell k, which is opened for them in a world and runs alone, with n events and these answers
abbrev pub whole : ℕ → ℕ → WorldState → List Text → List Reply → Whole
whole n k w commands answers = lines (suc n) (remainder n answers) (configuration (first_common w k commands) (at_bottom k commands)) None
