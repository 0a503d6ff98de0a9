-- What a Run takes: the commands of the new shell, from its own text and the lines after it.
use Rattle.std.specs.Prelude.{ℕ, zero, suc, List, [], ◌∷◌, ◌++◌, Bool, true, false, ◌==◌, ◌&&◌, Option, Some, None, is_some, unwrap_or, codes, if◌then◌else◌}
use Rattle.std.specs.Fmt.{decimal}
use Rattle.std.specs.List.{list_all}
use Rattle.std.specs.Option.{option_map}
use Rattle.ados_text.specs.Text.{Bytes, Text}
use Rattle.ados_items.specs.declared.items.Item.{Item}
use Rattle.ados_items.specs.declared.items.Item.TheVariants.{End}
use Rattle.ados_items.specs.Items.{is_blank, item_at}
pub use Rattle.ados_flow.specs.declared.gathering.Gathered.{Gathered}

-- a new shell is given at most this many commands
abbrev pub run_limit : ℕ
run_limit = 32

-- The text before the `+` that has only blanks after it; none if a text has no such `+`.
unfoldable pub before_plus : Text → Option Text
before_plus [] = None
before_plus (c ∷ cs) = if (c == 43) && list_all is_blank cs then Some [] else option_map (λ front. c ∷ front) (before_plus cs)

-- a text continues in the next line: it ends with a `+`, before blanks
abbrev pub has_plus : Text → Bool
has_plus text = is_some (before_plus text)

-- a text without the `+` at its end, if it has one
abbrev pub without_plus : Text → Text
without_plus text = unwrap_or (before_plus text) text

-- an item is the end of its line
abbrev pub is_end : Item → Bool
is_end (End at) = true
is_end item = false

-- there is no command in a text, apart from the `+` at its end
unfoldable pub has_no_command : Text → Bool
has_no_command text = is_end (item_at true (without_plus text) 0)

-- what a text gathers that takes no line after it
abbrev pub single_gathered : Text → Gathered
single_gathered text = record { commands = without_plus text ∷ []; taken = 0 }

-- what a text gathers that took the next line, before what that one gathers
abbrev pub prepended_gathered : Text → Gathered → Gathered
prepended_gathered text rest = record { commands = without_plus text ∷ rest.commands; taken = suc rest.taken }

-- The commands of a Run by its text and the lines after it, of which it takes at most so many (the first parameter): each text that
-- continues takes one, and none keeps its `+`.
abbrev pub run_gathering : ℕ → Text → List Text → Gathered
run_gathering zero text lines = single_gathered text
run_gathering (suc room) text [] = single_gathered text
run_gathering (suc room) text (line ∷ lines) = if has_plus text then prepended_gathered text (run_gathering room line lines) else single_gathered text

-- what Run prints: the number of the new shell
abbrev pub number_line : ℕ → Bytes
number_line number = codes "[CLI " ++ decimal number ++ codes "]" ++ 10 ∷ []
