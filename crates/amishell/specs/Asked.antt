-- What the words after the program's name ask for.
use Rattle.std.specs.Prelude.{ℕ, Bool, false, pos, ◌≡◌, ◌≢◌, ◌≤◌, ◌⊎◌, List, [], Option, Some, None, option_map, codes, if◌then◌else◌}
use Rattle.std.specs.Str.{bytes_eq}
use Rattle.clap.specs.Walk.{Row, Text, first_of}
use Rattle.clap.specs.Simple.{subcommand_of}
use Rattle.clap.specs.Kinds.{IsAmong, Kinds}
use Rattle.clap.specs.Faults.{fault_of}
use Rattle.clap.specs.declared.error.kind.ErrorKind.{ErrorKind}
use Rattle.clap.specs.declared.error.kind.ErrorKind.TheVariants as kind
use Rattle.ados_text.specs.Number.{IsNumber, value_of}
use Rattle.ados_resident.specs.declared.dialects.Dialect.{Dialect}
use Rattle.ados_resident.specs.declared.dialects.Dialect.TheVariants.{Core, Full}
use Rattle.amishell.specs.Command.{amishell}
use Rattle.amishell.specs.declared.request.Asked.{Asked}
use Rattle.amishell.specs.declared.request.Asked.TheVariants.{Run, Replay}
use Rattle.amishell.specs.declared.request.Refused.{Refused}
use Rattle.amishell.specs.declared.request.Refused.TheVariants.{BadLine, Help, NoMemory}

-- a run has 1 to 1,000,000,000 turns
abbrev pub IsInRange : ℕ → Type 0
IsInRange turns = (1 ≤ turns) × (turns ≤ 1_000_000_000)

-- the turns that are given, a million if none are
abbrev pub AreTurns : Option Text → ℕ → Type 0
AreTurns None turns = turns ≡ 1_000_000
AreTurns (Some text) turns = IsNumber text × (value_of text ≡ pos turns)

-- the value of a flag says that it is given
abbrev pub is_given : Option Text → Bool
is_given (Some value) = bytes_eq value (codes "true")
is_given None = false

-- the dialect that the value of `--full` chooses
abbrev pub dialect_by : Option Text → Dialect
dialect_by value = if is_given value then Full else Core

-- The matches of the words ask for this: the command is theirs, with its dialect, its file, its turns and its trace. Without a
-- command it is `run`, in Core, without hosts and a trace, and with a million turns.
abbrev pub AsksFor : Option (Text × List Row) → Asked → Type 0
AsksFor None (Run dialect hosts turns traces) = (dialect ≡ Core) × (hosts ≡ None) × (turns ≡ 1_000_000) × (traces ≡ false)
AsksFor None (Replay file traces) = ⊥
AsksFor (Some p) (Run dialect hosts turns traces) = (p.0 ≡ codes "run")
    × (dialect ≡ dialect_by (first_of (codes "full") p.1))
    × (option_map (λ s. s.now) hosts ≡ first_of (codes "hosts") p.1)
    × AreTurns (first_of (codes "turns") p.1) turns
    × IsInRange turns
    × (traces ≡ is_given (first_of (codes "trace") p.1))
AsksFor (Some p) (Replay file traces) = (p.0 ≡ codes "replay") × (Some file.now ≡ first_of (codes "file") p.1)
    × (traces ≡ is_given (first_of (codes "trace") p.1))

-- the matches ask for nothing
abbrev pub AsksNothing : Option (Text × List Row) → Type 0
AsksNothing entered = (a : Asked) → AsksFor entered a → ⊥

-- what is asked for, by the matches of words in which `clap` finds no fault
abbrev pub IsAsked : List Text → Asked → Type 0
IsAsked words a = (fault_of amishell words ≡ []) × AsksFor (subcommand_of amishell words) a

-- an error of this kind is not a fault: it is answered with a text
abbrev pub IsRequest : ErrorKind → Type 0
IsRequest k = (k ≡ kind.DisplayHelp) ⊎ (k ≡ kind.DisplayVersion)

-- one of the kinds is a fault
abbrev pub HasMistake : Kinds → Type 0
HasMistake kinds = (k : ErrorKind) × IsAmong k kinds × (IsRequest k → ⊥)

-- one of the kinds asks for a text
abbrev pub HasRequest : Kinds → Type 0
HasRequest kinds = (k : ErrorKind) × IsAmong k kinds × IsRequest k

-- the refusal for an error of this kind
abbrev pub IsRefusalOf : ErrorKind → Refused → Type 0
IsRefusalOf k BadLine = (IsRequest k → ⊥) × (k ≢ kind.OutOfMemory)
IsRefusalOf k (Help text) = IsRequest k
IsRefusalOf k NoMemory = Unit {0}

-- why the words are refused: `clap` finds a fault in them, or none and they ask for nothing (as `--turns 0`); they ask for help or the
-- version, whose text is not said here; or memory ran out
abbrev pub IsRefusal : List Text → Refused → Type 0
IsRefusal words BadLine = HasMistake (fault_of amishell words) ⊎ ((fault_of amishell words ≡ []) × AsksNothing (subcommand_of amishell words))
IsRefusal words (Help text) = HasRequest (fault_of amishell words)
IsRefusal words NoMemory = Unit {0}
