-- What a line says to the options of a template: its words are phrases, in order, each a keyword with its value, a
-- plain word, or the rest of the line.
use Rattle.std.specs.Prelude.{◌≡◌, ◌⊎◌, ℕ, ◌+◌, ◌-◌, ◌<◌, ◌≤◌, ◌==◌, nat_lt, List, [], ◌∷◌, ◌++◌, Bool, true, false, ◌&&◌, ◌||◌, not, Some, None, length, slice_get, slice_index}
use Rattle.std.specs.List.{flat_map}
use Rattle.std.specs.Option.{option_map_or}
use Rattle.ados_text.specs.Text.{Bytes}
use Rattle.ados_items.specs.Items.{is_blank, bytes_between}
use Rattle.ados_items.specs.declared.items.Item.{Item}
use Rattle.ados_items.specs.declared.items.Item.TheVariants as item
use Rattle.ados_readargs.specs.declared.args.Arg.{Arg}
use Rattle.ados_readargs.specs.declared.options.TemplateOption.{TemplateOption}
use Rattle.ados_readargs.specs.declared.words.LineWord.{LineWord}
use Rattle.ados_readargs.specs.declared.words.LineWord.TheVariants as word
use Rattle.ados_readargs.specs.declared.readings.Reading.{Reading}
use Rattle.ados_readargs.specs.declared.readings.Reading.TheVariants.{Named, Given}
use Rattle.ados_readargs.specs.Args.{args_of}
use Rattle.ados_readargs.specs.Meanings.{is_keyword, next_open}
use Rattle.ados_readargs.specs.Options.{takes_value, option_qualifiers}
use Rattle.ados_readargs.specs.Readings.{Readings, is_filled}
use Rattle.ados_readargs.specs.Shares.{TakesAll}
use Rattle.ados_readargs.specs.Words.{line_words_of, item_of, start_of, is_open_quote, is_equals_sign}

-- Words of a line that say one thing, with the place of the option of which they say it: a keyword that takes no value;
-- a keyword and its value after the `=`, in one run; a keyword, what is between, and the word that is its value; a
-- word that an option takes at once; a word and all after it, up to a place, as the rest of the line; a plain word.
pub data Phrase : Type 0 where
  Switch : ℕ → LineWord → Phrase
  Joined : ℕ → LineWord → Phrase
  Parted : ℕ → LineWord → List LineWord → LineWord → Phrase
  Direct : ℕ → LineWord → Phrase
  Rest : ℕ → LineWord → List LineWord → ℕ → Phrase
  Plain : LineWord → Phrase

-- the words of a phrase
abbrev pub words_in : Phrase → List LineWord
words_in (Switch place keyword) = keyword ∷ []
words_in (Joined place keyword) = keyword ∷ []
words_in (Parted place keyword between value) = (keyword ∷ between) ++ value ∷ []
words_in (Direct place word) = word ∷ []
words_in (Rest place word after end) = word ∷ after
words_in (Plain word) = word ∷ []

-- what follows the `=` of a run
abbrev pub joined_value : LineWord → Item
joined_value (word.Run from key to) = item.Word (key + 1) to
joined_value (word.Quoted from to) = item.Quoted from to
joined_value (word.Open from) = item.Unmatched from

-- the fillings: the option that a phrase names, or the text that it gives to one
abbrev pub fillings : Phrase → List Reading
fillings (Switch place keyword) = Named place ∷ []
fillings (Joined place keyword) = Given place (joined_value keyword) ∷ []
fillings (Parted place keyword between value) = Given place (item_of value) ∷ []
fillings (Direct place word) = Given place (item_of word) ∷ []
fillings (Rest place word after end) = Given place (item.Word (start_of word) end) ∷ []
fillings (Plain word) = []

-- the plain words
abbrev pub plain_words : Phrase → List Item
plain_words (Switch place keyword) = []
plain_words (Joined place keyword) = []
plain_words (Parted place keyword between value) = []
plain_words (Direct place word) = []
plain_words (Rest place word after end) = []
plain_words (Plain word) = item_of word ∷ []

-- A keyword of the option at a place is a run whose first Word is a name of it, unless it has /F, and which ends there
-- or, if the option takes a value, goes on with `=`. A quoted word is not a keyword.
abbrev pub IsKeyword : List TemplateOption → Bytes → ℕ → LineWord → Type 0
IsKeyword options line place (word.Run from key to) =
    ((from == key) ≡ false) × (option : TemplateOption) × (slice_get options place ≡ Some option) × (is_keyword (bytes_between line from key) (key == to) option ≡ true)
IsKeyword options line place (word.Quoted from to) = ⊥
IsKeyword options line place (word.Open from) = ⊥

-- a run ends with its first Word
abbrev pub is_whole : LineWord → Bool
is_whole (word.Run from key to) = key == to
is_whole (word.Quoted from to) = false
is_whole (word.Open from) = false

-- a run has more than its first Word and `=`
abbrev pub has_value : LineWord → Bool
has_value (word.Run from key to) = nat_lt (key + 1) to
has_value (word.Quoted from to) = false
has_value (word.Open from) = false

-- an option is filled once, and again if it has /M or /T
abbrev pub may_fill : List TemplateOption → List Reading → ℕ → Bool
may_fill options before place = not (is_filled place before) || ((option_qualifiers options place).many || (option_qualifiers options place).toggle)

-- the /F is the only plain option that is open
abbrev pub is_rest_next : List TemplateOption → List Reading → Bool
is_rest_next options before = option_map_or (λ place. (option_qualifiers options place).rest) (next_open options before) false

-- a word that begins a phrase of the option at a place, by its keyword
pub record IsKeyed (options : List TemplateOption) (line : Bytes) (before : List Reading) (place : ℕ) (word : LineWord) : Type 0 where
  pub keyword : IsKeyword options line place word
  pub free : may_fill options before place ≡ true
  pub no_rest : is_rest_next options before ≡ false

-- the value of a keyword is the next word; if the keyword has no `=`, one that is a word of its own is skipped
abbrev pub IsBetween : LineWord → List LineWord → LineWord → Type 0
IsBetween keyword [] value = (is_whole keyword && is_equals_sign value) ≡ false
IsBetween keyword (equal ∷ []) value = (is_whole keyword && is_equals_sign equal) ≡ true
IsBetween keyword (equal ∷ other ∷ more) value = ⊥

-- a word that is not a keyword, and not the rest of the line
pub record IsPlainWord (options : List TemplateOption) (line : Bytes) (before : List Reading) (word : LineWord) : Type 0 where
  pub closed : is_open_quote word ≡ false
  pub no_keyword : (place : ℕ) → IsKeyword options line place word → ⊥
  pub no_rest : is_rest_next options before ≡ false

-- a line is blank from a place on, and not right before it
pub record EndsInBlanks (line : Bytes) (end : ℕ) : Type 0 where
  pub blank : (place : ℕ) → end ≤ place → place < length line → is_blank (slice_index line place) ≡ true
  pub text : (end ≡ 0) ⊎ (is_blank (slice_index line (end - 1)) ≡ false)

-- What a phrase is, after the fillings before it. A keyword of a switch or toggle is a phrase alone; the value of any other is
-- what follows its `=`, or otherwise the next word. In a template with /F a plain word fills the first plain option that
-- is open; if that is the /F, the line from the word on is its value, without the blanks at its end.
abbrev pub IsPhrase : List TemplateOption → Bytes → List Reading → Phrase → Type 0
IsPhrase options line before (Switch place keyword) = IsKeyed options line before place keyword × (takes_value (option_qualifiers options place) ≡ false)
IsPhrase options line before (Joined place keyword) =
    IsKeyed options line before place keyword × (takes_value (option_qualifiers options place) ≡ true) × (has_value keyword ≡ true)
IsPhrase options line before (Parted place keyword between value) =
    IsKeyed options line before place keyword × (takes_value (option_qualifiers options place) ≡ true) × (has_value keyword ≡ false)
    × IsBetween keyword between value × (is_open_quote value ≡ false)
IsPhrase options line before (Direct place word) = IsPlainWord options line before word × (next_open options before ≡ Some place)
IsPhrase options line before (Rest place word after end) = (next_open options before ≡ Some place) × (is_rest_next options before ≡ true) × EndsInBlanks line end
IsPhrase options line before (Plain word) = IsPlainWord options line before word × (next_open options before ≡ None)

-- nothing follows the rest of the line
abbrev pub IsLastPhrase : Phrase → List Phrase → Type 0
IsLastPhrase (Switch place keyword) after = Unit {0}
IsLastPhrase (Joined place keyword) after = Unit {0}
IsLastPhrase (Parted place keyword between value) after = Unit {0}
IsLastPhrase (Direct place word) after = Unit {0}
IsLastPhrase (Rest place word words end) after = after ≡ []
IsLastPhrase (Plain word) after = Unit {0}

-- the phrases come in order, after the fillings before them
abbrev pub ArePhrases : List TemplateOption → Bytes → List Reading → List Phrase → Type 0
ArePhrases options line before [] = Unit {0}
ArePhrases options line before (phrase ∷ after) =
    IsPhrase options line before phrase × IsLastPhrase phrase after × ArePhrases options line (before ++ fillings phrase) after

-- what the phrases say: the fillings and the plain words, in order
abbrev pub readings_of_phrases : List Phrase → Readings
readings_of_phrases phrases = record { given = flat_map fillings phrases; plain = flat_map plain_words phrases }

-- The words of the line are these phrases, in order; each plain word is taken by one option, in order; and the arguments
-- are what the fillings and the plain words give to the options.
pub record IsFilledBy (options : List TemplateOption) (line : Bytes) (args : List Arg) (phrases : List Phrase) : Type 0 where
  pub words : flat_map words_in phrases ≡ line_words_of line
  pub said : ArePhrases options line [] phrases
  pub taken : TakesAll options (readings_of_phrases phrases)
  pub gives : args ≡ args_of options line (readings_of_phrases phrases)

-- A line gives these arguments to options: its words are phrases that say so.
abbrev pub IsFilled : List TemplateOption → Bytes → List Arg → Type 0
IsFilled options line args = (phrases : List Phrase) × IsFilledBy options line args phrases
