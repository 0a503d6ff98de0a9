-- The frames of a shell, as a turn changes them.
use Rattle.std.specs.Prelude.{◌≡◌, ℕ, suc, ◌+◌, ◌<◌, ◌^◌, length, min, [], ◌∷◌, ◌++◌, List, Option, Some, None, reverse, take}
use Rattle.ados_flow.specs.Frames.{FrameState, frame_at_line, advanced_frame, untaken_lines}
use Rattle.ados_machine.specs.Shells.{ShellState}
use Rattle.ados_machine.specs.Sinks.{Sink, Console, Kept, To, sink_by}
use Rattle.ados_shell.specs.declared.stacks.Sink as code
use Rattle.ados_shell.specs.declared.stacks.Sink.TheVariants as sinks
use Rattle.ados_shell.specs.declared.stacks.Way.{Way}
use Rattle.ados_shell.specs.declared.stacks.Way.TheVariants as ways
use Rattle.ados_shell.specs.declared.stacks.Stack.{Stack}

-- the oldest n of these frames, which are given with the newest first, in that order
abbrev pub oldest_frames : ℕ → List FrameState → List FrameState
oldest_frames n frames = reverse (take n (reverse frames))

-- the frames of the shell as a turn has changed them, the newest first
abbrev pub drafted_frames : ShellState → Stack → List FrameState
drafted_frames shell stack = reverse stack.own.items ++ oldest_frames stack.kept_count shell.frames

-- the newest of the shell's frames, as a turn has changed them, was taken off; None: there was none
abbrev pub IsPopped : ShellState → Stack → Stack → Option FrameState → Type 0
IsPopped shell before after None = (drafted_frames shell before ≡ []) × (drafted_frames shell after ≡ [])
IsPopped shell before after (Some frame) = drafted_frames shell before ≡ frame ∷ drafted_frames shell after

-- where the output of these frames' commands goes, if that of the frames below them goes to this sink
abbrev pub sink_above : List FrameState → Sink → Sink
sink_above [] below = below
sink_above (frame ∷ frames) below = sink_by frame.kind frame.output (sink_above frames below)

-- a sink of the code, as the machine's sink
abbrev pub sink_of : code.Sink → Sink
sink_of sinks.Console = Console
sink_of sinks.Kept = Kept
sink_of (sinks.To target) = To target

-- where output goes on the way of some frames, if that of the frames below them goes to this sink
abbrev pub sink_by_way : Way → Sink → Sink
sink_by_way ways.Below below = below
sink_by_way ways.Kept below = Kept
sink_by_way (ways.To target) below = To target.now

-- the number of the next line of the newest of these frames fits into a usize
abbrev pub NextLineFits : List FrameState → Type 0
NextLineFits [] = Unit {0}
NextLineFits (frame ∷ frames) = frame.position + 1 < 2 ^ 64

-- these frames after this many more lines of the newest were taken, or all that are left of it
abbrev pub skipped_frames : ℕ → List FrameState → List FrameState
skipped_frames taken [] = []
skipped_frames taken (frame ∷ frames) = frame_at_line (suc (frame.position + min taken (length (untaken_lines frame)))) frame ∷ frames

-- the shell's frames after a turn has taken the next line of the newest of these
abbrev pub IsMovedOn : ShellState → Stack → List FrameState → Type 0
IsMovedOn shell after [] = drafted_frames shell after ≡ []
IsMovedOn shell after (frame ∷ frames) = drafted_frames shell after ≡ advanced_frame frame ∷ frames
