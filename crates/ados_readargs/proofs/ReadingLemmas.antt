-- what the words of a line are read as: what its phrases say, or the first fault
use Rattle.std.proofs.Common.{ℕ, ◌≡◌, ◌∙◌, ◌+◌, ◌==◌, nat_lt, List, [], ◌∷◌, ◌++◌, Bool, true, false, ◌&&◌, Option, Some, None, Result, refl, ap, sym, subst, arith, append_assoc, append-nil, inl}
use Rattle.std.proofs.lemmas.Bool.{cond_both}
use Rattle.ados_items.specs.declared.items.Item.{Item}
use Rattle.ados_items.specs.declared.items.Item.TheVariants as item
use Rattle.ados_readargs.specs.declared.errors.ArgFault.{ArgFault}
use Rattle.ados_readargs.specs.declared.errors.ArgFault.TheVariants as fault
use Rattle.ados_readargs.specs.declared.options.TemplateOption.{TemplateOption}
use Rattle.ados_readargs.specs.declared.words.LineWord.{LineWord}
use Rattle.ados_readargs.specs.declared.words.LineWord.TheVariants as word
use Rattle.ados_readargs.specs.declared.readings.Reading.{Reading}
use Rattle.ados_readargs.specs.declared.readings.Reading.TheVariants.{Named, Given}
use Rattle.ados_readargs.specs.declared.meanings.Pending.{Pending}
use Rattle.ados_readargs.specs.declared.meanings.Pending.TheVariants.{Free, Value}
use Rattle.ados_readargs.specs.declared.meanings.Meaning.{Meaning}
use Rattle.ados_readargs.specs.declared.meanings.Meaning.TheVariants as says
use Rattle.ados_readargs.specs.Options.{takes_value, option_qualifiers}
use Rattle.ados_readargs.specs.Readings.{Readings, is_filled, no_readings}
use Rattle.ados_readargs.specs.Words.{item_of, is_open_quote, is_equals_sign}
use Rattle.ados_readargs.specs.Meanings.{keyword_of, trimmed_end, is_full, given_meaning, keyword_value_meaning, switch_meaning, keyword_meaning, plain_meaning, word_meaning, value_meaning, next_meaning, rest_of, free_meaning, next_open, read_by_meaning, read_from}
use Rattle.ados_readargs.specs.Phrases.{Phrase, Switch, Joined, Parted, Direct, Rest, Plain, words_in, fillings, plain_words, IsKeyword, is_whole, has_value, may_fill, is_rest_next, IsBetween, IsPlainWord, IsPhrase, IsLastPhrase}
use Rattle.ados_readargs.specs.FirstFault.{IsSkippedEqual, IsFaultAt, twice, full_joined, full_parted, no_value, open_value, open_word}
use Rattle.ados_readargs.proofs.PhraseLemmas.{Said, with_phrase, says-none, keyword-is, no-keyword, trimmed-is}
use Rattle.ados_readargs.proofs.FaultSteps.{Comes, comes-more, first-free, full-is, full-not, given-nil, named-not, plain-nil, stop, switch-not, takes-not, toggle-free}

-- the words so far, if a keyword waits for its value: the keyword, and an `=` alone that was skipped
abbrev IsPassed : LineWord → Bool → List LineWord → Type 0
IsPassed keyword equal [] = equal ≡ is_whole keyword
IsPassed keyword equal (passed ∷ []) = (equal ≡ false) × ((is_whole keyword && is_equals_sign passed) ≡ true)
IsPassed keyword equal (passed ∷ other ∷ more) = ⊥

record IsWaiting (options : List TemplateOption) (line : List ℕ) (given : List Reading) (place : ℕ) (equal : Bool) (front : List LineWord) (keyword : LineWord) (passed : List LineWord) : Type 0 where
  front_is : front ≡ keyword ∷ passed
  named : IsKeyword options line place keyword
  takes : takes_value (option_qualifiers options place) ≡ true
  alone : has_value keyword ≡ false
  no_rest : is_rest_next options given ≡ false
  between : IsPassed keyword equal passed

abbrev Waits : List TemplateOption → List ℕ → List Reading → Pending → List LineWord → Type 0
Waits options line given Free front = front ≡ []
Waits options line given (Value place equal) front = (keyword : LineWord) × (passed : List LineWord) × IsWaiting options line given place equal front keyword passed

-- what is known of the words after a word
abbrev GoesOn : List TemplateOption → List ℕ → List LineWord → Result Readings ArgFault → Type 0
GoesOn options line words answer = (readings : Readings) (pending : Pending) (front : List LineWord) → Waits options line readings.given pending front
    → read_from options line readings pending words ≡ answer → Comes options line readings (front ++ words) answer

-- what was read with a word, by what it says
abbrev Ends : List TemplateOption → List ℕ → List LineWord → Readings → Result Readings ArgFault → Meaning → Type 0
Ends options line words readings answer meaning = read_by_meaning (λ more next. read_from options line more next words) readings meaning ≡ answer

-- a word that fills the option at a place
given-said : (options : List TemplateOption) (line : List ℕ) (words : List LineWord) (readings : Readings) (answer : Result Readings ArgFault) (full : Bool) (place : ℕ) (it : Item) (whole : List LineWord)
    → (full ≡ true → IsFaultAt options line readings.given whole fault.TooMany)
    → (full ≡ false → read_from options line (record readings { given = readings.given ++ Given place it ∷ [] }) Free words ≡ answer → Comes options line readings whole answer)
    → Ends options line words readings answer (given_meaning full place it) → Comes options line readings whole answer
given-said options line words readings answer full place it whole refuses then_ =
    let P : Meaning → Type 0 = λ m. Ends options line words readings answer m → Comes options line readings whole answer in
    cond_both full (says.Refuse fault.TooMany) (says.Read (Given place it)) P
    (λ taken e. stop options line readings whole fault.TooMany answer (refuses taken) e) (λ free e. then_ free e)

-- a phrase that fills an option, and what follows it
filling-said : (options : List TemplateOption) (line : List ℕ) (words : List LineWord) (readings : Readings) (answer : Result Readings ArgFault) (phrase : Phrase) (reading : Reading)
    → fillings phrase ≡ reading ∷ [] → plain_words phrase ≡ [] → IsPhrase options line readings.given phrase → ((after : List Phrase) → IsLastPhrase phrase after)
    → GoesOn options line words answer → read_from options line (record readings { given = readings.given ++ reading ∷ [] }) Free words ≡ answer
    → Comes options line readings (words_in phrase ++ words) answer
filling-said options line words readings answer phrase reading fills nothing here last goes e =
    let same : with_phrase readings phrase ≡ record readings { given = readings.given ++ reading ∷ [] } =
    ap (λ l. record { given = readings.given ++ l; plain = readings.plain ++ plain_words phrase }) fills
    ∙ ap (λ l. record { given = readings.given ++ reading ∷ []; plain = readings.plain ++ l }) nothing ∙ plain-nil readings _ in
    let P : Readings → Type 0 = λ r. Comes options line r words answer in
    comes-more options line readings answer phrase words here last (subst P (sym same) (goes _ Free [] refl e))

-- a keyword whose option takes a value
value-said : (options : List TemplateOption) (line : List ℕ) (words : List LineWord) (readings : Readings) (answer : Result Readings ArgFault) (place : ℕ) (keyword : LineWord)
    → IsKeyword options line place keyword → takes_value (option_qualifiers options place) ≡ true → is_rest_next options readings.given ≡ false
    → GoesOn options line words answer
    → Ends options line words readings answer (keyword_value_meaning (is_full (option_qualifiers options place) (is_filled place readings.given)) place keyword)
    → Comes options line readings (keyword ∷ words) answer
value-said options line words readings answer place (word.Run from key to) named takes no_rest goes =
    let keyword = word.Run from key to in
    let full = is_full (option_qualifiers options place) (is_filled place readings.given) in
    let P : Meaning → Type 0 = λ m. Ends options line words readings answer m → Comes options line readings (keyword ∷ words) answer in
    cond_both (nat_lt (key + 1) to) (given_meaning full place (item.Word (key + 1) to)) (says.Wait place (key == to)) P
    (λ long. given-said options line words readings answer full place (item.Word (key + 1) to) (keyword ∷ words)
    (λ taken. full_joined place keyword words (record { named = named; no_rest = no_rest; takes = takes }) long (full-is options readings.given place takes taken))
    (λ free e. filling-said options line words readings answer (Joined place keyword) (Given place (item.Word (key + 1) to)) refl refl
    (record { keyword = named; free = full-not options readings.given place free; no_rest = no_rest }, takes, long) (λ _. tt) goes e))
    (λ short e. goes readings (Value place (key == to)) (keyword ∷ [])
    (keyword, [], record { front_is = refl; named = named; takes = takes; alone = short; no_rest = no_rest; between = refl }) e)
value-said options line words readings answer place (word.Quoted from to) named takes no_rest goes = absurd named
value-said options line words readings answer place (word.Open from) named takes no_rest goes = absurd named

-- a keyword
keyword-said : (options : List TemplateOption) (line : List ℕ) (words : List LineWord) (readings : Readings) (answer : Result Readings ArgFault) (place : ℕ) (keyword : LineWord)
    → IsKeyword options line place keyword → is_rest_next options readings.given ≡ false → GoesOn options line words answer
    → Ends options line words readings answer (keyword_meaning (option_qualifiers options place) (is_filled place readings.given) place keyword)
    → Comes options line readings (keyword ∷ words) answer
keyword-said options line words readings answer place keyword named no_rest goes =
    let q = option_qualifiers options place in
    let filled = is_filled place readings.given in
    let P : Meaning → Type 0 = λ m. Ends options line words readings answer m → Comes options line readings (keyword ∷ words) answer in
    cond_both q.toggle (says.Read (Named place)) _ P
    (λ t e. filling-said options line words readings answer (Switch place keyword) (Named place) refl refl
    (record { keyword = named; free = toggle-free filled q.many q.toggle t; no_rest = no_rest }, named-not q t) (λ _. tt) goes e)
    (λ t. cond_both q.switch (switch_meaning filled place) _ P
    (λ s. cond_both filled (says.Refuse fault.TooMany) (says.Read (Named place)) P
    (λ set e. stop options line readings (keyword ∷ words) fault.TooMany answer (twice place keyword words named no_rest (switch-not q s) t set) e)
    (λ free e. filling-said options line words readings answer (Switch place keyword) (Named place) refl refl
    (record { keyword = named; free = first-free filled q.many q.toggle free; no_rest = no_rest }, switch-not q s) (λ _. tt) goes e))
    (λ s. value-said options line words readings answer place keyword named (takes-not q t s) no_rest goes))

-- a word that is not a keyword
plain-said : (options : List TemplateOption) (line : List ℕ) (words : List LineWord) (readings : Readings) (answer : Result Readings ArgFault) (said : LineWord) (vacant : Option ℕ)
    → next_open options readings.given ≡ vacant → IsPlainWord options line readings.given said → GoesOn options line words answer
    → Ends options line words readings answer (plain_meaning vacant said) → Comes options line readings (said ∷ words) answer
plain-said options line words readings answer said None open_is here goes e =
    let same : with_phrase readings (Plain said) ≡ record readings { plain = readings.plain ++ item_of said ∷ [] } = given-nil readings _ in
    let P : Readings → Type 0 = λ r. Comes options line r words answer in
    comes-more options line readings answer (Plain said) words (here, open_is) (λ _. tt) (subst P (sym same) (goes _ Free [] refl e))
plain-said options line words readings answer said (Some place) open_is here goes e =
    filling-said options line words readings answer (Direct place said) (Given place (item_of said)) refl refl (here, open_is) (λ _. tt) goes e

-- a word by the option of which it is a keyword
word-said : (options : List TemplateOption) (line : List ℕ) (words : List LineWord) (readings : Readings) (answer : Result Readings ArgFault) (said : LineWord) (vacant found : Option ℕ)
    → next_open options readings.given ≡ vacant → is_rest_next options readings.given ≡ false → is_open_quote said ≡ false → keyword_of options line said ≡ found
    → GoesOn options line words answer
    → Ends options line words readings answer (word_meaning options readings.given vacant said found) → Comes options line readings (said ∷ words) answer
word-said options line words readings answer said vacant None open_is no_rest closed none goes =
    plain-said options line words readings answer said vacant open_is (record { closed = closed; no_keyword = no-keyword options line said none; no_rest = no_rest }) goes
word-said options line words readings answer said vacant (Some place) open_is no_rest closed found goes =
    keyword-said options line words readings answer place said (keyword-is options line said place found) no_rest goes

next-said : (options : List TemplateOption) (line : List ℕ) (words : List LineWord) (readings : Readings) (answer : Result Readings ArgFault) (said : LineWord) (vacant : Option ℕ)
    → next_open options readings.given ≡ vacant → is_rest_next options readings.given ≡ false → GoesOn options line words answer
    → Ends options line words readings answer (next_meaning options line readings.given said vacant) → Comes options line readings (said ∷ words) answer
next-said options line words readings answer said vacant open_is no_rest goes =
    let P : Meaning → Type 0 = λ m. Ends options line words readings answer m → Comes options line readings (said ∷ words) answer in
    cond_both (is_open_quote said) (says.Refuse fault.Unmatched) _ P
    (λ opened e. stop options line readings (said ∷ words) fault.Unmatched answer (open_word said words no_rest opened) e)
    (λ closed. word-said options line words readings answer said vacant (keyword_of options line said) open_is no_rest closed refl goes)

-- a word for which no keyword waits
free-said : (options : List TemplateOption) (line : List ℕ) (words : List LineWord) (readings : Readings) (answer : Result Readings ArgFault) (said : LineWord) (vacant : Option ℕ)
    → next_open options readings.given ≡ vacant → GoesOn options line words answer
    → Ends options line words readings answer (free_meaning options line readings.given said vacant) → Comes options line readings (said ∷ words) answer
free-said options line words readings answer said None open_is goes =
    next-said options line words readings answer said None open_is (rw open_is refl) goes
free-said options line words readings answer said (Some place) open_is goes =
    let P : Meaning → Type 0 = λ m. Ends options line words readings answer m → Comes options line readings (said ∷ words) answer in
    cond_both (option_qualifiers options place).rest (says.Stop (Given place (rest_of line said))) _ P
    (λ last e.
    let ends = trimmed-is line line 0 0 refl (omega arith) (λ k above below. absurd (omega arith)) (inl refl) in
    let Q : Result Readings ArgFault → Type 0 = λ r. Comes options line readings (said ∷ words) r in
    subst Q e (
      Rest place said words (trimmed_end 0 0 line) ∷ [],
      record {
        words = ap (λ l. said ∷ l) (append-nil words);
        said = ((open_is, rw open_is last, ends), refl, tt);
        given = refl;
        plain = sym (append-nil _);
      },
    ))
    (λ other. next-said options line words readings answer said (Some place) open_is (rw open_is other) goes)

-- an `=` alone is skipped
passes : (options : List TemplateOption) (line : List ℕ) (given : List Reading) (place : ℕ) (equal : Bool) (front : List LineWord) (keyword : LineWord) (passed : List LineWord) (said : LineWord)
    → IsWaiting options line given place equal front keyword passed → (equal && is_equals_sign said) ≡ true
    → IsWaiting options line given place false (front ++ said ∷ []) keyword (said ∷ [])
passes options line given place equal front keyword [] said w alone =
    record {
      front_is = ap (λ l. l ++ said ∷ []) w.front_is;
      named = w.named;
      takes = w.takes;
      alone = w.alone;
      no_rest = w.no_rest;
      between = (refl, ap (λ b. b && is_equals_sign said) (sym w.between) ∙ alone);
    }
passes options line given place equal front keyword (one ∷ []) said w alone =
    let no : (equal && is_equals_sign said) ≡ false = ap (λ b. b && is_equals_sign said) w.between.0 in cc
passes options line given place equal front keyword (one ∷ other ∷ more) said w alone = absurd w.between

-- the word is the value
parted : (options : List TemplateOption) (line : List ℕ) (words : List LineWord) (readings : Readings) (answer : Result Readings ArgFault) (said : LineWord) (place : ℕ) (equal : Bool) (front : List LineWord)
    (keyword : LineWord) (passed : List LineWord) → IsWaiting options line readings.given place equal front keyword passed → is_open_quote said ≡ false
    → (equal && is_equals_sign said) ≡ false → may_fill options readings.given place ≡ true → GoesOn options line words answer
    → read_from options line (record readings { given = readings.given ++ Given place (item_of said) ∷ [] }) Free words ≡ answer
    → Comes options line readings (front ++ said ∷ words) answer
parted options line words readings answer said place equal front keyword [] w closed other free goes e =
    let P : List LineWord → Type 0 = λ l. Comes options line readings l answer in
    subst P (ap (λ l. l ++ said ∷ words) (sym w.front_is))
    (filling-said options line words readings answer (Parted place keyword [] said) (Given place (item_of said)) refl refl
    (record { keyword = w.named; free = free; no_rest = w.no_rest }, w.takes, w.alone, ap (λ b. b && is_equals_sign said) (sym w.between) ∙ other, closed)
    (λ _. tt) goes e)
parted options line words readings answer said place equal front keyword (one ∷ []) w closed other free goes e =
    let P : List LineWord → Type 0 = λ l. Comes options line readings l answer in
    subst P (ap (λ l. l ++ said ∷ words) (sym w.front_is))
    (filling-said options line words readings answer (Parted place keyword (one ∷ []) said) (Given place (item_of said)) refl refl
    (record { keyword = w.named; free = free; no_rest = w.no_rest }, w.takes, w.alone, w.between.1, closed)
    (λ _. tt) goes e)
parted options line words readings answer said place equal front keyword (one ∷ two ∷ more) w closed other free goes e = absurd w.between

-- what follows a keyword that waits for its value, in the words of phrases
between-is : (keyword said : LineWord) (equal : Bool) (passed : List LineWord) → IsPassed keyword equal passed → (equal && is_equals_sign said) ≡ false → IsBetween keyword passed said
between-is keyword said equal [] p other = ap (λ b. b && is_equals_sign said) (sym p) ∙ other
between-is keyword said equal (one ∷ []) p other = p.1
between-is keyword said equal (one ∷ two ∷ more) p other = absurd p

over-is : (keyword : LineWord) (equal : Bool) (passed : List LineWord) → IsPassed keyword equal passed → IsSkippedEqual keyword passed
over-is keyword equal [] p = tt
over-is keyword equal (one ∷ []) p = p.1
over-is keyword equal (one ∷ two ∷ more) p = absurd p

open-apart : (said : LineWord) (equal : Bool) → is_open_quote said ≡ true → (equal && is_equals_sign said) ≡ false
open-apart (word.Run from key to) equal e = cc
open-apart (word.Quoted from to) equal e = cc
open-apart (word.Open from) true e = refl
open-apart (word.Open from) false e = refl

opened-at : (options : List TemplateOption) (line : List ℕ) (words : List LineWord) (given : List Reading) (said : LineWord) (place : ℕ) (equal : Bool) (front : List LineWord)
    (keyword : LineWord) (passed : List LineWord) → IsWaiting options line given place equal front keyword passed → is_open_quote said ≡ true
    → IsFaultAt options line given (front ++ said ∷ words) fault.Unmatched
opened-at options line words given said place equal front keyword passed w opened =
    let P : List LineWord → Type 0 = λ l. IsFaultAt options line given (l ++ said ∷ words) fault.Unmatched in
    subst P (sym w.front_is)
    (open_value place keyword passed said words (record { named = w.named; no_rest = w.no_rest; takes = w.takes }) w.alone
    (between-is keyword said equal passed w.between (open-apart said equal opened)) opened)

full-at : (options : List TemplateOption) (line : List ℕ) (words : List LineWord) (given : List Reading) (said : LineWord) (place : ℕ) (equal : Bool) (front : List LineWord)
    (keyword : LineWord) (passed : List LineWord) → IsWaiting options line given place equal front keyword passed → is_open_quote said ≡ false
    → (equal && is_equals_sign said) ≡ false → is_full (option_qualifiers options place) (is_filled place given) ≡ true
    → IsFaultAt options line given (front ++ said ∷ words) fault.TooMany
full-at options line words given said place equal front keyword passed w closed other taken =
    let P : List LineWord → Type 0 = λ l. IsFaultAt options line given (l ++ said ∷ words) fault.TooMany in
    subst P (sym w.front_is)
    (full_parted place keyword passed said words (record { named = w.named; no_rest = w.no_rest; takes = w.takes }) w.alone
    (between-is keyword said equal passed w.between other) closed (full-is options given place w.takes taken))

valueless-at : (options : List TemplateOption) (line : List ℕ) (given : List Reading) (place : ℕ) (equal : Bool) (front : List LineWord)
    (keyword : LineWord) (passed : List LineWord) → IsWaiting options line given place equal front keyword passed
    → IsFaultAt options line given (front ++ []) fault.ValueMissing
valueless-at options line given place equal front keyword passed w =
    let P : List LineWord → Type 0 = λ l. IsFaultAt options line given l fault.ValueMissing in
    subst P (sym (append-nil front ∙ w.front_is))
    (no_value place keyword passed (record { named = w.named; no_rest = w.no_rest; takes = w.takes }) w.alone (over-is keyword equal passed w.between))

-- a word for which a keyword waits
waiting-said : (options : List TemplateOption) (line : List ℕ) (words : List LineWord) (readings : Readings) (answer : Result Readings ArgFault) (said : LineWord) (place : ℕ) (equal : Bool) (front : List LineWord)
    (keyword : LineWord) (passed : List LineWord) → IsWaiting options line readings.given place equal front keyword passed → GoesOn options line words answer
    → Ends options line words readings answer (value_meaning (is_full (option_qualifiers options place) (is_filled place readings.given)) place equal said)
    → Comes options line readings (front ++ said ∷ words) answer
waiting-said options line words readings answer said place equal front keyword passed w goes =
    let full = is_full (option_qualifiers options place) (is_filled place readings.given) in
    let P : Meaning → Type 0 = λ m. Ends options line words readings answer m → Comes options line readings (front ++ said ∷ words) answer in
    cond_both (is_open_quote said) (says.Refuse fault.Unmatched) _ P
    (λ opened e. stop options line readings (front ++ said ∷ words) fault.Unmatched answer
    (opened-at options line words readings.given said place equal front keyword passed w opened) e)
    (λ closed.
    cond_both (equal && is_equals_sign said) (says.Wait place false) (given_meaning full place (item_of said)) P
    (λ alone e.
    let Q : List LineWord → Type 0 = λ l. Comes options line readings l answer in
    subst Q (append_assoc front (said ∷ []) words)
    (goes readings (Value place false) (front ++ said ∷ []) (keyword, said ∷ [], passes options line readings.given place equal front keyword passed said w alone) e))
    (λ other e.
    given-said options line words readings answer full place (item_of said) (front ++ said ∷ words)
    (λ taken. full-at options line words readings.given said place equal front keyword passed w closed other taken)
    (λ free h. parted options line words readings answer said place equal front keyword passed w closed other (full-not options readings.given place free) goes h) e))

read-said : (options : List TemplateOption) (line : List ℕ) (words : List LineWord) (answer : Result Readings ArgFault) → GoesOn options line words answer
read-said options line [] answer readings Free front w e =
    let P : Result Readings ArgFault → Type 0 = λ r. Comes options line readings (front ++ []) r in
    let Q : List LineWord → Type 0 = λ l. Said options line readings readings l in
    subst P e (subst Q (sym (append-nil front ∙ w)) (says-none options line readings))
read-said options line [] answer readings (Value place equal) front w e =
    stop options line readings (front ++ []) fault.ValueMissing answer
    (valueless-at options line readings.given place equal front w.0 w.1 w.2) e
read-said options line (said ∷ words) answer readings Free front w e =
    let Q : List LineWord → Type 0 = λ l. Comes options line readings l answer in
    subst Q (ap (λ l. l ++ said ∷ words) (sym w))
    (free-said options line words readings answer said (next_open options readings.given) refl (read-said options line words answer) e)
read-said options line (said ∷ words) answer readings (Value place equal) front w e =
    waiting-said options line words readings answer said place equal front w.0 w.1 w.2 (read-said options line words answer) e

-- the words of a line, of which nothing is read yet
pub words-come : (options : List TemplateOption) (line : List ℕ) (words : List LineWord) (answer : Result Readings ArgFault)
    → read_from options line no_readings Free words ≡ answer → Comes options line no_readings words answer
words-come options line words answer = read-said options line words answer no_readings Free [] refl
