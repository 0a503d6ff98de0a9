-- how the words of a line end, or lead to a fault
use Rattle.std.proofs.Common.{ℕ, ◌≡◌, ◌∙◌, List, [], ◌∷◌, ◌++◌, Bool, true, false, ◌&&◌, ◌||◌, not, Result, Ok, Err, refl, ap, sym, subst, append_assoc, append-nil}
use Rattle.std.specs.List.{flat_map}
use Rattle.ados_items.specs.declared.items.Item.{Item}
use Rattle.ados_readargs.specs.declared.errors.ArgFault.{ArgFault}
use Rattle.ados_readargs.specs.declared.options.Qualifiers.{Qualifiers}
use Rattle.ados_readargs.specs.declared.options.TemplateOption.{TemplateOption}
use Rattle.ados_readargs.specs.declared.words.LineWord.{LineWord}
use Rattle.ados_readargs.specs.declared.readings.Reading.{Reading}
use Rattle.ados_readargs.specs.Options.{takes_value, option_qualifiers}
use Rattle.ados_readargs.specs.Readings.{Readings, is_filled}
use Rattle.ados_readargs.specs.Meanings.{is_full}
use Rattle.ados_readargs.specs.Phrases.{Phrase, words_in, fillings, plain_words, may_fill, IsPhrase, IsLastPhrase, ArePhrases}
use Rattle.ados_readargs.specs.FirstFault.{IsFaultAt, MayContinue}
use Rattle.ados_readargs.proofs.PhraseLemmas.{Said, with_phrase, says-more}

-- phrases that are the first of these words, with the words after them, and what was read after the phrases
pub record Leads (options : List TemplateOption) (line : List ℕ) (before after : Readings) (whole rest : List LineWord) (phrases : List Phrase) : Type 0 where
  pub words : flat_map words_in phrases ++ rest ≡ whole
  pub said : ArePhrases options line before.given phrases
  pub given : after.given ≡ before.given ++ flat_map fillings phrases
  pub plain : after.plain ≡ before.plain ++ flat_map plain_words phrases
  pub onward : MayContinue phrases

-- what words give: all are phrases, or phrases lead to words at which a fault is
abbrev pub Comes : List TemplateOption → List ℕ → Readings → List LineWord → Result Readings ArgFault → Type 0
Comes options line before words (Ok after) = Said options line before after words
Comes options line before words (Err found) =
    (after : Readings) × (rest : List LineWord) × (phrases : List Phrase) × Leads options line before after words rest phrases
    × IsFaultAt options line after.given rest found

pub stop : (options : List TemplateOption) (line : List ℕ) (readings : Readings) (words : List LineWord) (found : ArgFault) (answer : Result Readings ArgFault)
    → IsFaultAt options line readings.given words found → Err found ≡ answer → Comes options line readings words answer
stop options line readings words found answer here e =
    let P : Result Readings ArgFault → Type 0 = λ r. Comes options line readings words r in
    subst P e (
      readings,
      words,
      [],
      record { words = refl; said = tt; given = sym (append-nil _); plain = sym (append-nil _); onward = tt },
      here,
    )

pub comes-more : (options : List TemplateOption) (line : List ℕ) (before : Readings) (answer : Result Readings ArgFault) (phrase : Phrase) (words : List LineWord)
    → IsPhrase options line before.given phrase → ((rest : List Phrase) → IsLastPhrase phrase rest)
    → Comes options line (with_phrase before phrase) words answer → Comes options line before (words_in phrase ++ words) answer
comes-more options line before (Ok after) phrase words here last p = says-more options line before after phrase words here last p
comes-more options line before (Err found) phrase words here last p =
    let s = p.3 in (
      p.0,
      p.1,
      phrase ∷ p.2,
      record {
        words = append_assoc (words_in phrase) (flat_map words_in p.2) p.1 ∙ ap (λ l. words_in phrase ++ l) s.words;
        said = (here, last p.2, s.said);
        given = s.given ∙ append_assoc before.given (fillings phrase) (flat_map fillings p.2);
        plain = s.plain ∙ append_assoc before.plain (plain_words phrase) (flat_map plain_words p.2);
        onward = (last, s.onward);
      },
      p.4,
    )

-- whether an option takes a filling, and which
pub free-by : (filled many toggle : Bool) → (filled && not many) ≡ false → (not filled || (many || toggle)) ≡ true
free-by false many toggle e = refl
free-by true true toggle e = refl
free-by true false toggle e = cc

pub toggle-free : (filled many toggle : Bool) → toggle ≡ true → (not filled || (many || toggle)) ≡ true
toggle-free false many toggle e = refl
toggle-free true true toggle e = refl
toggle-free true false toggle e = e

pub first-free : (filled many toggle : Bool) → filled ≡ false → (not filled || (many || toggle)) ≡ true
first-free false many toggle e = refl
first-free true many toggle e = cc

pub named-by : (switch toggle : Bool) → toggle ≡ true → not (switch || toggle) ≡ false
named-by true toggle e = refl
named-by false true e = refl
named-by false false e = cc

pub full-not : (options : List TemplateOption) (given : List Reading) (place : ℕ) → is_full (option_qualifiers options place) (is_filled place given) ≡ false → may_fill options given place ≡ true
full-not options given place = free-by (is_filled place given) (option_qualifiers options place).many (option_qualifiers options place).toggle

pub full-by : (filled many switch toggle : Bool) → (filled && not many) ≡ true → not (switch || toggle) ≡ true → (not filled || (many || toggle)) ≡ false
full-by false many switch toggle e t = cc
full-by true true switch toggle e t = cc
full-by true false true toggle e t = cc
full-by true false false true e t = cc
full-by true false false false e t = refl

pub full-is : (options : List TemplateOption) (given : List Reading) (place : ℕ) → takes_value (option_qualifiers options place) ≡ true
    → is_full (option_qualifiers options place) (is_filled place given) ≡ true → may_fill options given place ≡ false
full-is options given place takes taken =
    let q = option_qualifiers options place in full-by (is_filled place given) q.many q.switch q.toggle taken takes

pub plain-nil : (readings : Readings) (given : List Reading) → record { given = given; plain = readings.plain ++ [] } ≡ record readings { given = given }
plain-nil readings given = ap (λ plain. record { given = given; plain = plain }) (append-nil readings.plain)

pub given-nil : (readings : Readings) (plain : List Item) → record { given = readings.given ++ []; plain = plain } ≡ record readings { plain = plain }
given-nil readings plain = ap (λ given. record { given = given; plain = plain }) (append-nil readings.given)

pub takes-not : (q : Qualifiers) → q.toggle ≡ false → q.switch ≡ false → takes_value q ≡ true
takes-not q t s = rw (s, t) refl

pub named-not : (q : Qualifiers) → q.toggle ≡ true → takes_value q ≡ false
named-not q t = named-by q.switch q.toggle t

pub switch-not : (q : Qualifiers) → q.switch ≡ true → takes_value q ≡ false
switch-not q s = rw s refl
