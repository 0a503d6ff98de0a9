-- The options of Release 2: which of them a word names, and whether the Shell leaves it out.
use Rattle.std.specs.Prelude.{◌&&◌, List, [], ◌∷◌, Bool, Option, Some, None, is_some, not, if◌then◌else◌}
use Rattle.std.specs.Borrow.{Bor}
use Rattle.std.specs.List.{find, list_any}
use Rattle.std.specs.Option.{option_map, option_or}
use Rattle.ados_text.specs.Text.{Bytes, is_same}
use Rattle.ados_machine.specs.Commands.{template_of}
use Rattle.ados_readargs.specs.Options.{has_name}
use Rattle.ados_readargs.specs.Template.{options_of}
use Rattle.ados_resident.specs.declared.dialects.Dialect.{Dialect}
use Rattle.ados_check.specs.declared.release_two.Command.{Command}
use Rattle.ados_check.specs.declared.release_two.Naming.{Naming}
use Rattle.ados_check.specs.declared.release_two.Naming.TheVariants.{Kept, LeftOut}
use Rattle.ados_check.specs.declared.release_two.Omission.{Omission}
use Rattle.ados_check.specs.declared.release_two.Takes.{Takes}
use Rattle.ados_check.specs.declared.release_two.Takes.TheVariants.{Nothing, Word, Number}

-- the first of these names that is this word, case ignored; `text_of` gives a name's text
abbrev pub first_named : {N : Type 0} → (N → Bytes) → Bytes → List N → Option N
first_named text_of word [] = None
first_named text_of word (name ∷ names) = if is_same (text_of name) word then Some name else first_named text_of word names

-- P holds of the name of the option that a word names, if that is left out
abbrev pub IfLeftOut : (Bytes → Type 0) → Option Naming → Type 0
IfLeftOut P (Some (LeftOut omission)) = P omission.name.now
IfLeftOut P (Some Kept) = Unit {0}
IfLeftOut P None = Unit {0}

-- the one of these commands that has this name, case ignored
abbrev pub named_command : List Command → Bytes → Option Command
named_command commands name = find (λ command. is_same command.name.now name) commands

-- the bytes of a name
abbrev pub text_of : Bor Bytes → Bytes
text_of name = name.now

-- the option of a command that has this name, and takes nothing, a word or a number
abbrev pub omission_of : Command → Takes → Bor Bytes → Omission
omission_of command takes name = record { name = name; takes = takes; is_idle = is_some (first_named text_of name.now command.idle.now) }

-- the option of Release 2 that a word names
abbrev pub named : Command → Bytes → Option Omission
named command word =
    option_or (option_map (omission_of command Nothing) (first_named text_of word command.switches.now))
    (option_or (option_map (omission_of command Word) (first_named text_of word command.values.now))
    (option_map (omission_of command Number) (first_named text_of word command.numbers.now)))

-- what a word names that is an option which the Shell has too: it matters only if it takes something, which is passed over
abbrev pub kept_by : Takes → Option Naming
kept_by Nothing = None
kept_by Word = Some Kept
kept_by Number = Some Kept

-- the option of a command with this name is not implemented
abbrev pub is_unimplemented : Command → Bytes → Bool
is_unimplemented command name = is_some (first_named text_of name command.unimplemented.now)

-- the Shell has the option of a command in a dialect, and implements it
abbrev pub is_kept : Dialect → Command → Omission → Bool
is_kept dialect command option =
    list_any (has_name option.name.now) (options_of (template_of dialect command.builtin)) && not (is_unimplemented command option.name.now)

-- what a word names, given the option of Release 2 that it names and which options the Shell keeps
abbrev pub naming_by : (Omission → Bool) → Option Omission → Option Naming
naming_by kept None = None
naming_by kept (Some option) = if kept option then kept_by option.takes else Some (LeftOut option)

-- what a word names among the options of a command in a dialect: an option left out, one that the Shell has too, or none
abbrev pub naming_of : Dialect → Command → Bytes → Option Naming
naming_of dialect command word = naming_by (is_kept dialect command) (named command word)
