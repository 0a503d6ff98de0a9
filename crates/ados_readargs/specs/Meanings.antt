-- What each word of a line says, read from left to right, after what was read before it.
use Rattle.std.specs.Prelude.{ℕ, ◌+◌, ◌==◌, nat_lt, List, [], ◌∷◌, ◌++◌, Bool, false, ◌&&◌, ◌||◌, not, Option, Some, None, Result, Ok, Err, position, if◌then◌else◌}
use Rattle.std.specs.List.{list_any}
use Rattle.ados_text.specs.Text.{Bytes}
use Rattle.ados_items.specs.Items.{is_blank, bytes_between}
use Rattle.ados_items.specs.declared.items.Item.{Item}
use Rattle.ados_items.specs.declared.items.Item.TheVariants as item
use Rattle.ados_readargs.specs.declared.errors.ArgFault.{ArgFault}
use Rattle.ados_readargs.specs.declared.errors.ArgFault.TheVariants as fault
use Rattle.ados_readargs.specs.declared.options.Qualifiers.{Qualifiers}
use Rattle.ados_readargs.specs.declared.options.TemplateOption.{TemplateOption}
use Rattle.ados_readargs.specs.declared.words.LineWord.{LineWord}
use Rattle.ados_readargs.specs.declared.words.LineWord.TheVariants as word
use Rattle.ados_readargs.specs.declared.readings.Reading.{Reading}
use Rattle.ados_readargs.specs.declared.readings.Reading.TheVariants.{Named, Given}
use Rattle.ados_readargs.specs.declared.meanings.Pending.{Pending}
use Rattle.ados_readargs.specs.declared.meanings.Pending.TheVariants.{Free, Value}
use Rattle.ados_readargs.specs.declared.meanings.Meaning.{Meaning}
use Rattle.ados_readargs.specs.declared.meanings.Meaning.TheVariants.{Read, Plain, Wait, Stop, Refuse}
use Rattle.ados_readargs.specs.Options.{has_name, is_rest, takes_value, option_qualifiers}
use Rattle.ados_readargs.specs.Words.{item_of, start_of, is_open_quote, is_equals_sign}
use Rattle.ados_readargs.specs.Readings.{Readings, no_readings, is_filled, first_vacant}

-- a run whose first Word is the name, and which ends there or not, is a keyword of the option
abbrev pub is_keyword : Bytes → Bool → TemplateOption → Bool
is_keyword name whole option = has_name name option && (not option.qualifiers.rest && (whole || takes_value option.qualifiers))

-- the option that a word is a keyword of
abbrev pub keyword_of : List TemplateOption → Bytes → LineWord → Option ℕ
keyword_of options line (word.Run from key to) =
    if from == key then None else position (is_keyword (bytes_between line from key) (key == to)) options
keyword_of options line (word.Quoted from to) = None
keyword_of options line (word.Open from) = None

-- the place after the last byte that is not a blank, or `end` if there is none, in a text that begins at `place`
abbrev pub trimmed_end : ℕ → ℕ → Bytes → ℕ
trimmed_end end place [] = end
trimmed_end end place (c ∷ cs) = trimmed_end (if is_blank c then end else place + 1) (place + 1) cs

-- the option takes no more: it was filled, and has no /M
abbrev pub is_full : Qualifiers → Bool → Bool
is_full q filled = filled && not q.many

-- a value for the option at a place, which is full or not
abbrev pub given_meaning : Bool → ℕ → Item → Meaning
given_meaning full place item = if full then Refuse fault.TooMany else Read (Given place item)

-- what a run says whose first Word is a keyword of the option at a place: it gives what follows its `=`, or waits for the next word
abbrev pub keyword_value_meaning : Bool → ℕ → LineWord → Meaning
keyword_value_meaning full place (word.Run from key to) = if nat_lt (key + 1) to then given_meaning full place (item.Word (key + 1) to) else Wait place (key == to)
keyword_value_meaning full place (word.Quoted from to) = Wait place false
keyword_value_meaning full place (word.Open from) = Wait place false

-- a switch is named once; `filled` says that it was
abbrev pub switch_meaning : Bool → ℕ → Meaning
switch_meaning filled place = if filled then Refuse fault.TooMany else Read (Named place)

-- what a keyword of the option at a place says; `filled` says that it is filled
abbrev pub keyword_meaning : Qualifiers → Bool → ℕ → LineWord → Meaning
keyword_meaning q filled place word =
    if q.toggle then Read (Named place) else
    (if q.switch then switch_meaning filled place else keyword_value_meaning (is_full q filled) place word)

-- a plain word: in a template with /F it fills the first vacant option
abbrev pub plain_meaning : Option ℕ → LineWord → Meaning
plain_meaning None word = Plain (item_of word)
plain_meaning (Some place) word = Read (Given place (item_of word))

-- what a word says, if no keyword waits for its value
abbrev pub word_meaning : List TemplateOption → List Reading → Option ℕ → LineWord → Option ℕ → Meaning
word_meaning options given vacant word None = plain_meaning vacant word
word_meaning options given vacant word (Some place) = keyword_meaning (option_qualifiers options place) (is_filled place given) place word

-- what the word says after a keyword of the option at a place; `equal` says that an `=` alone may come before its value
abbrev pub value_meaning : Bool → ℕ → Bool → LineWord → Meaning
value_meaning full place equal word =
    if is_open_quote word then Refuse fault.Unmatched else
    (if equal && is_equals_sign word then Wait place false else given_meaning full place (item_of word))

-- what a word says that is not the rest of the line
abbrev pub next_meaning : List TemplateOption → Bytes → List Reading → LineWord → Option ℕ → Meaning
next_meaning options line given word vacant =
    if is_open_quote word then Refuse fault.Unmatched else word_meaning options given vacant word (keyword_of options line word)

-- the text from a word to the line's end, without the blanks there
abbrev pub rest_of : Bytes → LineWord → Item
rest_of line word = item.Word (start_of word) (trimmed_end 0 0 line)

-- what a word says, by the first vacant option of a template with /F: if that is the /F, no other is vacant
abbrev pub free_meaning : List TemplateOption → Bytes → List Reading → LineWord → Option ℕ → Meaning
free_meaning options line given word None = next_meaning options line given word None
free_meaning options line given word (Some place) =
    if (option_qualifiers options place).rest then Stop (Given place (rest_of line word)) else next_meaning options line given word (Some place)

-- in a template with /F, the first plain option that is open
abbrev pub next_open : List TemplateOption → List Reading → Option ℕ
next_open options given = if list_any is_rest options then first_vacant options given else None

-- what a word says after what is given so far; which option is open matters only to a template with /F
abbrev pub meaning_of : List TemplateOption → Bytes → List Reading → Pending → LineWord → Meaning
meaning_of options line given Free word = free_meaning options line given word (next_open options given)
meaning_of options line given (Value place equal) word = value_meaning (is_full (option_qualifiers options place) (is_filled place given)) place equal word

-- the readings if no word is left
abbrev pub read_end : Readings → Pending → Result Readings ArgFault
read_end readings Free = Ok readings
read_end readings (Value place equal) = Err fault.ValueMissing

-- the readings by what a word says, if `next` gives the rest
abbrev pub read_by_meaning : (Readings → Pending → Result Readings ArgFault) → Readings → Meaning → Result Readings ArgFault
read_by_meaning next readings (Read reading) = next (record readings { given = readings.given ++ reading ∷ [] }) Free
read_by_meaning next readings (Plain item) = next (record readings { plain = readings.plain ++ item ∷ [] }) Free
read_by_meaning next readings (Wait place equal) = next readings (Value place equal)
read_by_meaning next readings (Stop reading) = Ok (record readings { given = readings.given ++ reading ∷ [] })
read_by_meaning next readings (Refuse fault) = Err fault

-- the readings of the words, after the readings so far
abbrev pub read_from : List TemplateOption → Bytes → Readings → Pending → List LineWord → Result Readings ArgFault
read_from options line readings pending [] = read_end readings pending
read_from options line readings pending (word ∷ words) =
    read_by_meaning (λ more next. read_from options line more next words) readings (meaning_of options line readings.given pending word)

-- if a quote is not closed, that comes before a word too many
abbrev pub quotes_first : Bool → ArgFault → ArgFault
quotes_first unclosed fault.BadTemplate = fault.BadTemplate
quotes_first unclosed fault.BadNumber = fault.BadNumber
quotes_first unclosed fault.ArgumentMissing = fault.ArgumentMissing
quotes_first unclosed fault.ValueMissing = fault.ValueMissing
quotes_first unclosed fault.TooMany = if unclosed then fault.Unmatched else fault.TooMany
quotes_first unclosed fault.Unmatched = fault.Unmatched
quotes_first unclosed fault.NoMemory = fault.NoMemory

-- the readings, or their fault
abbrev pub with_quotes : Bool → Result Readings ArgFault → Result Readings ArgFault
with_quotes unclosed (Ok readings) = Ok readings
with_quotes unclosed (Err fault) = Err (quotes_first unclosed fault)

-- What the words of a line say, or the first fault: an open quote comes before a word too many.
abbrev pub read_of : List TemplateOption → Bytes → List LineWord → Result Readings ArgFault
read_of options line words = with_quotes (list_any is_open_quote words) (read_from options line no_readings Free words)
