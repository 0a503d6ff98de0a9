-- what the words from a place on say, by the word there
use Rattle.std.proofs.Common.{ℕ, suc, ◌≡◌, ◌+◌, ◌≤◌, ◌==◌, List, [], Bool, true, false, Option, Some, None, Result, Err, position, if◌then◌else◌, length, drop, refl, ap, sym, ◌∙◌, arith}
use Rattle.std.specs.List.{list_any, prefix_len}
use Rattle.std.proofs.lemmas.Bool.Decides.{nat_tests}
use Rattle.std.proofs.lemmas.List.{drop_all}
use Rattle.ados_items.specs.Items.{is_blank, bytes_between, item_at}
use Rattle.ados_items.specs.declared.items.Item.TheVariants as item
use Rattle.ados_readargs.specs.Faults.{IsFaultOf}
use Rattle.ados_readargs.specs.Meanings.{is_keyword, word_meaning, meaning_of, read_from, read_end, read_by_meaning}
use Rattle.ados_readargs.specs.Readings.{Readings}
use Rattle.ados_readargs.specs.Options.{is_rest}
use Rattle.ados_readargs.specs.Words.{item_of, run_end, word_of, words_from}
use Rattle.ados_readargs.specs.Steps.{IsPlainAt}
use Rattle.ados_readargs.specs.declared.errors.ArgFault.{ArgFault}
use Rattle.ados_readargs.specs.declared.errors.ArgFault.TheVariants as fault
use Rattle.ados_readargs.specs.declared.meanings.Meaning.{Meaning}
use Rattle.ados_readargs.specs.declared.meanings.Pending.{Pending}
use Rattle.ados_readargs.specs.declared.options.TemplateOption.{TemplateOption}
use Rattle.ados_readargs.specs.declared.words.LineWord.{LineWord}
use Rattle.ados_readargs.specs.declared.words.LineWord.TheVariants.{Run}
use Rattle.ados_readargs.specs.declared.readings.Reading.{Reading}
use Rattle.ados_readargs.specs.declared.meanings.Meaning.TheVariants.{Plain}
use Rattle.ados_readargs.proofs.WordsLemmas.{words-step}

-- no word is there
pub read-none : (whole : Result Readings ArgFault) (options : List TemplateOption) (line : List ℕ) (readings : Readings) (pending : Pending) (n place : ℕ)
    → None ≡ word_of line (item_at true line place)
    → whole ≡ read_from options line readings pending (words_from (suc n) line place) → whole ≡ read_end readings pending
read-none whole options line readings pending n place e h =
    h ∙ ap (λ words. read_from options line readings pending words) (words-step n line place None e)

pub read-some : (whole : Result Readings ArgFault) (options : List TemplateOption) (line : List ℕ) (readings : Readings) (pending : Pending) (n place : ℕ)
    (word : LineWord) (after : ℕ) (meaning : Meaning) → Some (word, after) ≡ word_of line (item_at true line place)
    → meaning ≡ meaning_of options line readings.given pending word
    → whole ≡ read_from options line readings pending (words_from (suc n) line place)
    → whole ≡ read_by_meaning (λ more next. read_from options line more next (words_from n line after)) readings meaning
read-some whole options line readings pending n place word after meaning e m h =
    h ∙ ap (λ words. read_from options line readings pending words) (words-step n line place (Some (word, after)) e)
    ∙ ap (λ said. read_by_meaning (λ more next. read_from options line more next (words_from n line after)) readings said) (sym m)

pub refused : (defined : Result Readings ArgFault) (e : ArgFault) → defined ≡ Err e → IsFaultOf defined e
refused defined fault.BadTemplate h = h
refused defined fault.BadNumber h = h
refused defined fault.ArgumentMissing h = h
refused defined fault.ValueMissing h = h
refused defined fault.TooMany h = h
refused defined fault.Unmatched h = h
refused defined fault.NoMemory h = tt

-- at the line's end there is no word
pub no-word : (line : List ℕ) (place : ℕ) → length line ≤ place → None ≡ word_of line (item_at true line place)
no-word line place h =
    let nothing : drop (place + prefix_len is_blank (drop place line)) line ≡ [] = drop_all (place + prefix_len is_blank (drop place line)) line (omega arith) in
    rw nothing refl

plain-by : (options : List TemplateOption) (given : List Reading) (word : LineWord) (empty : Bool) (found : Option ℕ) → found ≡ None
    → word_meaning options given None word (if empty then None else found) ≡ Plain (item_of word)
plain-by options given word true found e = refl
plain-by options given word false found e = ap (word_meaning options given None word) e

-- a run with no equal sign that is not a keyword, in a template with no /F
pub plain-word : (options : List TemplateOption) (line : List ℕ) (place from to : ℕ) → list_any is_rest options ≡ false
    → item.Word from to ≡ item_at true line place → run_end line to ≡ to → position (is_keyword (bytes_between line from to) true) options ≡ None
    → IsPlainAt options line place (record { from = from; to = to })
plain-word options line place from to rest here over none =
    let same : (to == to) ≡ true = grind (arith, nat_tests) in (
      ap (word_of line) (sym here) ∙ ap (λ end. Some (Run from to end, end)) over,
      λ given. rw (rest, same) (plain-by options given (Run from to to) (from == to) _ none),
    )
