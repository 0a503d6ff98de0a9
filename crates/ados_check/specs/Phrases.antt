-- The options among the words of a command that the Shell leaves out.
use Rattle.std.specs.Prelude.{ℕ, zero, suc, ◌==◌, ◌&&◌, ◌||◌, List, [], ◌∷◌, ◌++◌, Bool, false, not, Option, Some, None, length, nat_lt, if◌then◌else◌}
use Rattle.std.specs.List.{find}
use Rattle.ados_text.specs.Text.{Bytes}
use Rattle.ados_items.specs.Items.{bytes_between, is_blank}
use Rattle.ados_resident.specs.declared.dialects.Dialect.{Dialect}
use Rattle.ados_check.specs.ReleaseTwo.{naming_of}
use Rattle.ados_check.specs.declared.arguments.Word.{Word}
use Rattle.ados_check.specs.declared.phrases.Given.{Given}
use Rattle.ados_check.specs.declared.phrases.Phrase.{Phrase}
use Rattle.ados_check.specs.declared.phrases.Value.{Value}
use Rattle.ados_check.specs.declared.release_two.Command.{Command}
use Rattle.ados_check.specs.declared.release_two.Naming.{Naming}
use Rattle.ados_check.specs.declared.release_two.Naming.TheVariants.{Kept, LeftOut}
use Rattle.ados_check.specs.declared.release_two.Omission.{Omission}
use Rattle.ados_check.specs.declared.release_two.Takes.{Takes}
use Rattle.ados_check.specs.declared.release_two.Takes.TheVariants as takes

-- where the first of some words ends, or the one before them if there is none
abbrev pub end_of_first : Word → List Word → ℕ
end_of_first before [] = before.to
end_of_first before (word ∷ words) = word.to

-- a text is `=` alone
abbrev pub is_equal_sign : Bytes → Bool
is_equal_sign [] = false
is_equal_sign (c ∷ []) = c == 61
is_equal_sign (c ∷ d ∷ cs) = false

-- a word of a line is `=` alone
abbrev pub is_equal : Bytes → Word → Bool
is_equal line word = is_equal_sign (bytes_between line word.from word.to)

-- the value of an option that does not stand in the option's own word: the first of the words after that, or the second if the first is `=`
abbrev pub parted_value : Bytes → Word → List Word → Value
parted_value line word [] = record { words = 1; to = word.to }
parted_value line word (first ∷ rest) = if is_equal line first then record { words = 2; to = end_of_first first rest } else record { words = 1; to = first.to }

-- the value of an option, by what follows its name in its own word: if that begins with `=`, it stands there, or it is the next word if
-- nothing follows the `=`; otherwise it is in the words after it
abbrev pub value_by : Bytes → Word → List Word → Bytes → Value
value_by line word rest [] = parted_value line word rest
value_by line word rest (c ∷ []) = if c == 61 then record { words = 1; to = end_of_first word rest } else parted_value line word rest
value_by line word rest (c ∷ d ∷ cs) = if c == 61 then record { words = 0; to = word.to } else parted_value line word rest

-- the value of an option whose name a word begins with
abbrev pub value_of : Bytes → Word → List Word → Value
value_of line word rest = value_by line word rest (bytes_between line word.name_to word.to)

-- a byte is neither a blank nor `=`
abbrev pub is_value_byte : ℕ → Bool
is_value_byte c = not (is_blank c || c == 61)

-- a byte may be the first of a number: a digit, a minus, or what stands where something else is put, `$`, `<`, and `_` for what is between
-- back-ticks
abbrev pub is_number_sign : ℕ → Bool
is_number_sign c = (nat_lt 47 c && nat_lt c 58) || c == 45 || c == 36 || c == 60 || c == 95

-- there is a byte, and it may be the first of a number
abbrev pub is_number_byte : Option ℕ → Bool
is_number_byte None = false
is_number_byte (Some c) = is_number_sign c

-- a value may be a number, by its first byte
abbrev pub is_number : Bytes → Bool
is_number value = is_number_byte (find is_value_byte value)

-- what stands at a word that is no option
abbrev pub plain : Phrase
plain = record { given = None; further = 0 }

-- what stands at a word that is an option left out: the option from a place to another, and so many further words that belong to it
abbrev pub option_phrase : Omission → ℕ → ℕ → ℕ → Phrase
option_phrase option from to further = record { given = Some (record { option = option; from = from; to = to }); further = further }

-- what stands at a word that names an option left out, which takes nothing, a word or a number: the option with what it takes, or a word as
-- any other if that does not follow
abbrev pub omitted_by : Takes → Bytes → Omission → Word → Value → Phrase
omitted_by takes.Nothing line option word value = if word.name_to == word.to then option_phrase option word.from word.to 0 else plain
omitted_by takes.Word line option word value =
    if nat_lt 1 (length (bytes_between line word.name_to value.to)) then option_phrase option word.from value.to value.words else plain
omitted_by takes.Number line option word value = if is_number (bytes_between line word.name_to value.to) then option_phrase option word.from value.to value.words else plain

-- what stands at a word that names an option left out, with the value that follows it
abbrev pub omitted : Bytes → Omission → Word → Value → Phrase
omitted line option word value = omitted_by option.takes line option word value

-- what stands at a word, given the option that it names and the value that follows: an option that the Shell has too is passed over with
-- its value
abbrev pub phrase_by : Bytes → Word → Value → Option Naming → Phrase
phrase_by line word value None = plain
phrase_by line word value (Some Kept) = record { given = None; further = value.words }
phrase_by line word value (Some (LeftOut option)) = omitted line option word value

-- what stands at the first of some words of a command in a line: an option that is left out, if it is one, and the words that belong to it
abbrev pub phrase_of : Dialect → Command → Bytes → List Word → Phrase
phrase_of dialect command line [] = plain
phrase_of dialect command line (word ∷ rest) = phrase_by line word (value_of line word rest) (naming_of dialect command (bytes_between line word.from word.name_to))

-- what stands at the first of some words, where so many of them belong to an option before
abbrev pub phrase_after : (List Word → Phrase) → ℕ → List Word → Phrase
phrase_after phrase zero words = phrase words
phrase_after phrase (suc further) words = record { given = None; further = further }

-- an option left out alone in a list; without one (none) the list is empty
abbrev pub one_or_none : Option Given → List Given
one_or_none None = []
one_or_none (Some one) = one ∷ []

-- the options left out among some words, of which the first `further` belong to an option before them
abbrev pub given_among : (List Word → Phrase) → ℕ → List Word → List Given
given_among phrase further [] = []
given_among phrase further (word ∷ words) =
    let here = phrase_after phrase further (word ∷ words) in one_or_none here.given ++ given_among phrase here.further words

-- the options of a command that are left out in a dialect, among its words in a line
abbrev pub given_options : Dialect → Command → Bytes → List Word → List Given
given_options dialect command line words = given_among (phrase_of dialect command line) 0 words
