-- the words of a line, one after another
use Rattle.std.proofs.Common.{ℕ, suc, ◌≡◌, List, true, Option, ap, sym, ◌∙◌}
use Rattle.ados_items.specs.Items.{item_at}
use Rattle.ados_items.specs.declared.items.Item.{Item}
use Rattle.ados_readargs.specs.Words.{run_end_by_item, run_end_from, word_of, words_from_found, words_from}
use Rattle.ados_readargs.specs.declared.words.LineWord.{LineWord}

-- the end of the run, by the item that was found
pub run_end-item : (whole n : ℕ) (line : List ℕ) (place : ℕ) (item : Item) → item ≡ item_at true line place
    → whole ≡ run_end_from (suc n) line place → whole ≡ run_end_by_item (λ to. run_end_from n line to) place item
run_end-item whole n line place item e h = h ∙ ap (λ it. run_end_by_item (λ to. run_end_from n line to) place it) (sym e)

-- the words from a place on are those after the word that was found there
pub words-step : (n : ℕ) (line : List ℕ) (place : ℕ) (found : Option (LineWord × ℕ)) → found ≡ word_of line (item_at true line place)
    → words_from (suc n) line place ≡ words_from_found (λ to. words_from n line to) found
words-step n line place found e = ap (λ f. words_from_found (λ to. words_from n line to) f) (sym e)
