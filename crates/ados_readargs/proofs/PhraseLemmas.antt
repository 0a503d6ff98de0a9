-- what the words of a line were read as is what its phrases say
use Rattle.std.proofs.Common.{ℕ, ◌≡◌, ◌⊎◌, ◌∙◌, ◌+◌, ◌-◌, ◌<◌, ◌≤◌, ◌==◌, List, [], ◌∷◌, ◌++◌, Bool, true, false, Option, Some, None, length, drop, get_or, refl, ap, sym, subst, arith, append_assoc, append-nil, inl, inr}
use Rattle.std.proofs.lemmas.Grind.{common_steps}
use Rattle.std.specs.List.{flat_map, position, position_or_len}
use Rattle.std.specs.Prelude.{slice_index}
use Rattle.std.proofs.lemmas.Bool.{both_ways, cond_both, cases_lt}
use Rattle.std.proofs.lemmas.List.{drop_more, length-drop}
use Rattle.std.proofs.lemmas.List.Sums.{fails_before_first}
use Rattle.std.proofs.lemmas.List.Quantifiers.{position-Some}
use Rattle.std.proofs.lemmas.Option.{slice_get-get_or, slice_get_within, get_or_from_slice_get}
use Rattle.ados_items.specs.Items.{is_blank, bytes_between}
use Rattle.ados_readargs.specs.declared.options.TemplateOption.{TemplateOption}
use Rattle.ados_readargs.specs.declared.words.LineWord.{LineWord}
use Rattle.ados_readargs.specs.declared.words.LineWord.TheVariants as word
use Rattle.ados_readargs.specs.Options.{no_qualifiers}
use Rattle.ados_readargs.specs.Readings.{Readings}
use Rattle.ados_readargs.specs.Meanings.{is_keyword, keyword_of, trimmed_end}
use Rattle.ados_readargs.specs.Phrases.{Phrase, words_in, fillings, plain_words, IsKeyword, EndsInBlanks, IsPhrase, IsLastPhrase, ArePhrases}

-- phrases that are these words, and what was read after them by what was read before
pub record Says (options : List TemplateOption) (line : List ℕ) (before after : Readings) (whole : List LineWord) (phrases : List Phrase) : Type 0 where
  pub words : flat_map words_in phrases ≡ whole
  pub said : ArePhrases options line before.given phrases
  pub given : after.given ≡ before.given ++ flat_map fillings phrases
  pub plain : after.plain ≡ before.plain ++ flat_map plain_words phrases

abbrev pub Said : List TemplateOption → List ℕ → Readings → Readings → List LineWord → Type 0
Said options line before after words = (phrases : List Phrase) × Says options line before after words phrases

-- the readings with those of a phrase
abbrev pub with_phrase : Readings → Phrase → Readings
with_phrase readings phrase = record { given = readings.given ++ fillings phrase; plain = readings.plain ++ plain_words phrase }

pub says-none : (options : List TemplateOption) (line : List ℕ) (readings : Readings) → Said options line readings readings []
says-none options line readings = ([], record { words = refl; said = tt; given = sym (append-nil _); plain = sym (append-nil _) })

pub says-more : (options : List TemplateOption) (line : List ℕ) (before after : Readings) (phrase : Phrase) (words : List LineWord)
    → IsPhrase options line before.given phrase → ((tail : List Phrase) → IsLastPhrase phrase tail)
    → Said options line (with_phrase before phrase) after words → Said options line before after (words_in phrase ++ words)
says-more options line before after phrase words here last p =
    let s = p.1 in (
      phrase ∷ p.0,
      record {
        words = ap (λ l. words_in phrase ++ l) s.words;
        said = (here, last p.0, s.said);
        given = s.given ∙ append_assoc before.given (fillings phrase) (flat_map fillings p.0);
        plain = s.plain ∙ append_assoc before.plain (plain_words phrase) (flat_map plain_words p.0);
      },
    )

-- the option that a keyword names
pub keyword-is : (options : List TemplateOption) (line : List ℕ) (said : LineWord) (place : ℕ) → keyword_of options line said ≡ Some place → IsKeyword options line place said
keyword-is options line (word.Run from key to) place =
    let test = is_keyword (bytes_between line from key) (key == to) in
    let P : Option ℕ → Type 0 = λ found. found ≡ Some place → IsKeyword options line place (word.Run from key to) in
    cond_both (from == key) None (position test options) P (λ _ e. cc) (λ apart e.
    let at = position-Some test options place (record { names = []; qualifiers = no_qualifiers }) e in
    (apart, get_or options place (record { names = []; qualifiers = no_qualifiers }), slice_get-get_or options place _ at.0, at.1))
keyword-is options line (word.Quoted from to) place = λ e. cc
keyword-is options line (word.Open from) place = λ e. cc

position-None : {X : Type 0} (p : X → Bool) (xs : List X) → position p xs ≡ None → length xs ≤ position_or_len p xs
position-None p xs e = grind (arith, common_steps)

pub no-keyword : (options : List TemplateOption) (line : List ℕ) (said : LineWord) → keyword_of options line said ≡ None → (place : ℕ) → IsKeyword options line place said → ⊥
no-keyword options line (word.Run from key to) e place (apart, option, found, named) =
    let test = is_keyword (bytes_between line from key) (key == to) in
    let none : position test options ≡ None = rw apart at e in
    let within = slice_get_within options place option found in
    let past = position-None test options none in
    both_ways _ (fails_before_first test options place option (omega (arith, within, past))) (ap test (get_or_from_slice_get options place option option found) ∙ named)
no-keyword options line (word.Quoted from to) e place h = h
no-keyword options line (word.Open from) e place h = h

-- where the blanks at a line's end begin
blank-more : (line : List ℕ) (end place : ℕ) → ((k : ℕ) → end ≤ k → k < place → is_blank (slice_index line k) ≡ true) → is_blank (slice_index line place) ≡ true
    → (k : ℕ) → end ≤ k → k < place + 1 → is_blank (slice_index line k) ≡ true
blank-more line end place so_far here k above below =
    elim (cases_lt k place) [
      | inl h ↦ so_far k above h
      | inr h ↦ let same : place ≡ k = omega arith in subst (λ at. is_blank (slice_index line at) ≡ true) same here
    ]

pub trimmed-is : (line bytes : List ℕ) (place end : ℕ) → bytes ≡ drop place line → place ≤ length line
    → ((k : ℕ) → end ≤ k → k < place → is_blank (slice_index line k) ≡ true)
    → (end ≡ 0) ⊎ (is_blank (slice_index line (end - 1)) ≡ false) → EndsInBlanks line (trimmed_end end place bytes)
trimmed-is line [] place end e within blank text =
    let left : length (drop place line) ≡ length line - place = length-drop place line in
    let none : 0 ≡ length (drop place line) = ap length e in
    record { blank = λ k above below. blank k above (omega (arith, left, none)); text = text }
trimmed-is line (c ∷ cs) place end e within blank text =
    let left : length (drop place line) ≡ length line - place = length-drop place line in
    let long : length (c ∷ cs) ≡ length (drop place line) = ap length e in
    let inside : place < length line = omega (arith, left, long) in
    let more : c ∷ cs ≡ slice_index line place ∷ drop (place + 1) line = e ∙ drop_more line place 0 inside in
    let first : c ≡ slice_index line place = cc in
    let rest : cs ≡ drop (place + 1) line = cc in
    let P : ℕ → Type 0 = λ at. EndsInBlanks line (trimmed_end at (place + 1) cs) in
    cond_both (is_blank c) end (place + 1) P
    (λ h. trimmed-is line cs (place + 1) end rest (omega arith) (blank-more line end place blank (ap is_blank (sym first) ∙ h)) text)
    (λ h. trimmed-is line cs (place + 1) (place + 1) rest (omega arith) (λ k above below. absurd (omega arith))
    (inr (ap (λ at. is_blank (slice_index line at)) (omega arith) ∙ ap is_blank (sym first) ∙ h)))
