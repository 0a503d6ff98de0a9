-- The reading of a line word by word: plain words that are seen at once, and what is left to be read after a word.
use Rattle.std.specs.Prelude.{◌≡◌, ℕ, suc, List, true, Option, Some, None, Result, Ok}
use Rattle.ados_text.specs.Text.{Bytes}
use Rattle.ados_items.specs.Items.{item_at}
use Rattle.ados_items.specs.declared.items.Item.TheVariants as item
use Rattle.ados_readargs.specs.declared.errors.ArgFault.{ArgFault}
use Rattle.ados_readargs.specs.declared.options.TemplateOption.{TemplateOption}
use Rattle.ados_readargs.specs.declared.words.LineWord.TheVariants.{Run}
use Rattle.ados_readargs.specs.declared.readings.Reading.{Reading}
use Rattle.ados_readargs.specs.declared.meanings.Pending.{Pending}
use Rattle.ados_readargs.specs.declared.meanings.Pending.TheVariants.{Free}
use Rattle.ados_readargs.specs.declared.meanings.Meaning.TheVariants.{Plain}
use Rattle.ados_readargs.specs.declared.pass.PlainWord.{PlainWord}
use Rattle.ados_readargs.specs.Faults.{IsFaultOf}
use Rattle.ados_readargs.specs.Words.{word_of, words_from}
use Rattle.ados_readargs.specs.Readings.{Readings}
use Rattle.ados_readargs.specs.Meanings.{meaning_of, read_from}

-- the word is at a place, has no equal sign, and is plain, whatever was given before it
abbrev pub IsPlainAt : List TemplateOption → Bytes → ℕ → PlainWord → Type 0
IsPlainAt options line place word =
    (word_of line (item_at true line place) ≡ Some (Run word.from word.to word.to, word.to))
    × ((given : List Reading) → meaning_of options line given Free (Run word.from word.to word.to) ≡ Plain (item.Word word.from word.to))

-- the readings if the line says no more, and otherwise what `next` gives from that place on
abbrev pub next_readings : (ℕ → Result Readings ArgFault) → Readings → Option ℕ → Result Readings ArgFault
next_readings next readings None = Ok readings
next_readings next readings (Some place) = next place

-- Reading goes on: what the words from a place on say after some readings is what those from the next place say after others;
-- if there is no next place, the others are all.
abbrev pub ReadsOn : List TemplateOption → Bytes → ℕ → Readings → Pending → Readings → Pending → Option ℕ → Type 0
ReadsOn options line place before awaited now awaited_now next =
    (n : ℕ) → read_from options line before awaited (words_from (suc n) line place)
    ≡ next_readings (λ after. read_from options line now awaited_now (words_from n line after)) now next

-- reading stops: the words from a place on have this fault
abbrev pub StopsReading : List TemplateOption → Bytes → ℕ → Readings → Pending → ArgFault → Type 0
StopsReading options line place before awaited fault =
    (n : ℕ) → IsFaultOf (read_from options line before awaited (words_from (suc n) line place)) fault
