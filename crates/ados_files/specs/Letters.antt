-- Letters of options and flags.
use Rattle.std.specs.Prelude.{ℕ, Bool, ◌==◌}
use Rattle.std.specs.List.{list_all, list_any}
use Rattle.ados_text.specs.Text.{Text, fold_of}

-- a letter in lower case is among others, with case ignored
abbrev pub has_letter : ℕ → Text → Bool
has_letter letter letters = list_any (λ c. fold_of c == letter) letters

-- each letter of the second text is one of the known letters, with case ignored
abbrev pub are_letters_of : Text → Text → Bool
are_letters_of known letters = list_all (λ c. has_letter (fold_of c) known) letters
