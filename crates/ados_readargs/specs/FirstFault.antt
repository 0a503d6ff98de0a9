-- Which fault a line has that does not fill options: the first by what is in it, and otherwise by what was given.
use Rattle.std.specs.Prelude.{◌≡◌, ℕ, List, [], ◌∷◌, ◌++◌, Bool, true, false, ◌&&◌, Err}
use Rattle.std.specs.List.{flat_map, list_any}
use Rattle.ados_text.specs.Text.{Bytes}
use Rattle.ados_readargs.specs.declared.errors.ArgFault.{ArgFault}
use Rattle.ados_readargs.specs.declared.errors.ArgFault.TheVariants.{TooMany, ValueMissing, Unmatched, ArgumentMissing, BadNumber}
use Rattle.ados_readargs.specs.declared.options.TemplateOption.{TemplateOption}
use Rattle.ados_readargs.specs.declared.words.LineWord.{LineWord}
use Rattle.ados_readargs.specs.declared.readings.Reading.{Reading}
use Rattle.ados_readargs.specs.Args.{args_of}
use Rattle.ados_readargs.specs.Checks.{lacks, has_bad}
use Rattle.ados_readargs.specs.Fill.{parsed_args}
use Rattle.ados_readargs.specs.Options.{takes_value, option_qualifiers}
use Rattle.ados_readargs.specs.Phrases.{Phrase, words_in, IsKeyword, IsBetween, IsLastPhrase, ArePhrases, has_value, is_rest_next, is_whole, may_fill, readings_of_phrases}
use Rattle.ados_readargs.specs.Readings.{is_filled}
use Rattle.ados_readargs.specs.Shares.{is_left}
use Rattle.ados_readargs.specs.Words.{is_equals_sign, is_open_quote, line_words_of}

-- a keyword of the option at a place, which takes a value
pub record TakesValue (options : List TemplateOption) (line : Bytes) (before : List Reading) (place : ℕ) (keyword : LineWord) : Type 0 where
  pub named : IsKeyword options line place keyword
  pub no_rest : is_rest_next options before ≡ false
  pub takes : takes_value (option_qualifiers options place) ≡ true

-- nothing follows a keyword, or only an `=` alone that is skipped
abbrev pub IsSkippedEqual : LineWord → List LineWord → Type 0
IsSkippedEqual keyword [] = Unit {0}
IsSkippedEqual keyword (equal ∷ []) = (is_whole keyword && is_equals_sign equal) ≡ true
IsSkippedEqual keyword (equal ∷ other ∷ more) = ⊥

-- The fault at the beginning of words, after these fillings: a switch that was set before; a value for an option that
-- takes no more, after the `=` of its keyword or as a word of its own; a keyword without a value; and a quote that is not
-- closed, as a word or as a value.
pub data IsFaultAt (options : List TemplateOption) (line : Bytes) (before : List Reading) : List LineWord → ArgFault → Type 0 where
  twice : (place : ℕ) (keyword : LineWord) (after : List LineWord) → IsKeyword options line place keyword → is_rest_next options before ≡ false
      → takes_value (option_qualifiers options place) ≡ false → (option_qualifiers options place).toggle ≡ false → is_filled place before ≡ true
      → IsFaultAt options line before (keyword ∷ after) TooMany
  full_joined : (place : ℕ) (keyword : LineWord) (after : List LineWord) → TakesValue options line before place keyword → has_value keyword ≡ true
      → may_fill options before place ≡ false → IsFaultAt options line before (keyword ∷ after) TooMany
  full_parted : (place : ℕ) (keyword : LineWord) (between : List LineWord) (value : LineWord) (after : List LineWord)
      → TakesValue options line before place keyword → has_value keyword ≡ false → IsBetween keyword between value → is_open_quote value ≡ false
      → may_fill options before place ≡ false → IsFaultAt options line before ((keyword ∷ between) ++ value ∷ after) TooMany
  no_value : (place : ℕ) (keyword : LineWord) (between : List LineWord) → TakesValue options line before place keyword → has_value keyword ≡ false
      → IsSkippedEqual keyword between → IsFaultAt options line before (keyword ∷ between) ValueMissing
  open_value : (place : ℕ) (keyword : LineWord) (between : List LineWord) (value : LineWord) (after : List LineWord)
      → TakesValue options line before place keyword → has_value keyword ≡ false → IsBetween keyword between value → is_open_quote value ≡ true
      → IsFaultAt options line before ((keyword ∷ between) ++ value ∷ after) Unmatched
  open_word : (word : LineWord) (after : List LineWord) → is_rest_next options before ≡ false → is_open_quote word ≡ true
      → IsFaultAt options line before (word ∷ after) Unmatched

-- words may follow these phrases: none of them is the rest of the line
abbrev pub MayContinue : List Phrase → Type 0
MayContinue [] = Unit {0}
MayContinue (phrase ∷ phrases) = ((after : List Phrase) → IsLastPhrase phrase after) × MayContinue phrases

-- the words of the line are these phrases, and then these words
pub record ArePhrasesAndWords (options : List TemplateOption) (line : Bytes) (phrases : List Phrase) (after : List LineWord) : Type 0 where
  pub words : flat_map words_in phrases ++ after ≡ line_words_of line
  pub said : ArePhrases options line [] phrases

-- a quote is not closed somewhere in the line
abbrev pub is_unclosed : Bytes → Bool
is_unclosed line = list_any is_open_quote (line_words_of line)

-- The first fault: that of the first word after phrases that has one, except that a quote which is not closed comes before a
-- word too many; or, if all words are phrases, a plain word that is left over, then an option with /A that was given nothing,
-- then a value that is not a number.
pub data IsFirstFault (options : List TemplateOption) (line : Bytes) : ArgFault → Type 0 where
  at_words : (phrases : List Phrase) (after : List LineWord) (fault : ArgFault) → ArePhrasesAndWords options line phrases after → MayContinue phrases
      → IsFaultAt options line (readings_of_phrases phrases).given after fault → (fault ≡ TooMany → is_unclosed line ≡ false) → IsFirstFault options line fault
  open_after : (phrases : List Phrase) (after : List LineWord) → ArePhrasesAndWords options line phrases after → MayContinue phrases
      → IsFaultAt options line (readings_of_phrases phrases).given after TooMany → is_unclosed line ≡ true → IsFirstFault options line Unmatched
  left_over : (phrases : List Phrase) → ArePhrasesAndWords options line phrases [] → is_left options (readings_of_phrases phrases) ≡ true → IsFirstFault options line TooMany
  missing : (phrases : List Phrase) → ArePhrasesAndWords options line phrases [] → is_left options (readings_of_phrases phrases) ≡ false
      → lacks options (args_of options line (readings_of_phrases phrases)) ≡ true → IsFirstFault options line ArgumentMissing
  no_number : (phrases : List Phrase) → ArePhrasesAndWords options line phrases [] → is_left options (readings_of_phrases phrases) ≡ false
      → lacks options (args_of options line (readings_of_phrases phrases)) ≡ false → has_bad options (args_of options line (readings_of_phrases phrases)) ≡ true
      → IsFirstFault options line BadNumber

-- a line that does not fill options has its first fault
abbrev pub LinesHaveTheirFirstFault : Type 0
LinesHaveTheirFirstFault = (options : List TemplateOption) (line : Bytes) (fault : ArgFault) → parsed_args options line ≡ Err fault → IsFirstFault options line fault
