-- A shell that waits for a line of its input.
use Rattle.std.specs.Prelude.{Bool, false}
use Rattle.ados_machine.specs.Phases.{Phase, Ready, GoingOn, Waiting}
use Rattle.ados_machine.specs.World.{is_for_input}

-- a shell in this phase waits for a line of its input: the answer to a prompt, or another line of a Run
abbrev pub asks_for_line : Phase → Bool
asks_for_line Ready = false
asks_for_line (GoingOn parted) = false
asks_for_line (Waiting wait) = is_for_input wait
