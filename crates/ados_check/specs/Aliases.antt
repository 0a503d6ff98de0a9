-- The words that lines of a script make aliases of.
use Rattle.std.specs.Prelude.{ℕ, ◌≡◌, List, [], ◌∷◌, ◌==◌, ◌||◌, Bool, false, not, Option, Some, None, is_some, take, codes, if◌then◌else◌}
use Rattle.std.specs.List.{list_any, prefix_len}
use Rattle.ados_text.specs.Text.{Text, is_same}
use Rattle.ados_items.specs.Parts.{first_word, rest_of, trimmed_text}
use Rattle.ados_vars.specs.Vars.{value_in}
use Rattle.ados_check.specs.declared.made_aliases.MadeAliases.{MadeAliases}

-- a byte is no quote
abbrev pub not_quote : ℕ → Bool
not_quote c = not (c == 34)

-- a word without quotes around it: if it begins with a quote, what comes before the next one
abbrev pub bare : Text → Text
bare [] = []
bare (c ∷ cs) = if c == 34 then take (prefix_len not_quote cs) cs else c ∷ cs

-- the name of which a line makes an alias: the word after its command, if that is Alias
abbrev pub alias_name : Text → Option Text
alias_name line = let text = trimmed_text line in if is_same (first_word text) (codes "Alias") then Some (bare (first_word (rest_of text))) else None

-- a name has a `<` or a `$`: an argument or a variable stands in it, and it may be any
abbrev pub is_open : Text → Bool
is_open name = list_any (λ c. c == 60) name || list_any (λ c. c == 36) name

-- a word is the name that an alias has, case ignored, or may be; without a name (none) it is not
abbrev pub may_be : Text → Option Text → Bool
may_be word None = false
may_be word (Some name) = is_open name || is_same word name

-- a line makes an alias of a word, or may
abbrev pub makes_alias : Text → Text → Bool
makes_alias word line = may_be word (alias_name line)

-- one of these lines makes an alias of a word, or may
abbrev pub may_be_alias : List Text → Text → Bool
may_be_alias lines word = list_any (makes_alias word) lines

-- the code takes a word for a possible alias: it is one of the names that it found, or any word may be one
abbrev pub has_made : MadeAliases → Text → Bool
has_made made word = made.is_any || is_some (value_in made.names word)

-- the new possible aliases are the old ones, and those that a line makes or may make
abbrev pub HasLine : MadeAliases → MadeAliases → Text → Type 0
HasLine old new line = (word : Text) → has_made new word ≡ (has_made old word || makes_alias word line)

-- the new possible aliases are the old ones, and those that one of these lines makes or may make
abbrev pub HasLines : MadeAliases → MadeAliases → List Text → Type 0
HasLines old new lines = (word : Text) → has_made new word ≡ (has_made old word || may_be_alias lines word)

-- no word may be an alias
abbrev pub HasNone : MadeAliases → Type 0
HasNone made = (word : Text) → has_made made word ≡ false

-- the possible aliases are those that one of the typed lines or one of the lines of a script makes or may make
abbrev pub HasAll : MadeAliases → List Text → List Text → Type 0
HasAll made typed lines = (word : Text) → has_made made word ≡ (may_be_alias typed word || may_be_alias lines word)
