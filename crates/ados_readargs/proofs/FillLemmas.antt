-- a line's arguments are what its phrases say, and its fault is the first
use Rattle.std.proofs.Common.{ℕ, ◌≡◌, ◌∙◌, List, [], Bool, Result, Ok, Err, IfOk, OnOk, refl, ap, sym, subst, append-nil}
use Rattle.std.specs.List.{flat_map}
use Rattle.std.proofs.lemmas.Bool.{cond_both}
use Rattle.ados_readargs.specs.declared.errors.ArgFault.{ArgFault}
use Rattle.ados_readargs.specs.declared.errors.ArgFault.TheVariants as fault
use Rattle.ados_readargs.specs.declared.args.Arg.{Arg}
use Rattle.ados_readargs.specs.declared.options.TemplateOption.{TemplateOption}
use Rattle.ados_readargs.specs.declared.words.LineWord.{LineWord}
use Rattle.ados_readargs.specs.declared.meanings.Pending.TheVariants.{Free}
use Rattle.ados_readargs.specs.Readings.{Readings, no_readings}
use Rattle.ados_readargs.specs.Words.{line_words_of}
use Rattle.ados_readargs.specs.Meanings.{read_from, read_of, with_quotes, quotes_first}
use Rattle.ados_readargs.specs.Phrases.{Phrase, words_in, fillings, plain_words, readings_of_phrases, IsFilled}
use Rattle.ados_readargs.specs.FirstFault.{IsFaultAt, MayContinue, ArePhrasesAndWords, is_unclosed, IsFirstFault, at_words, open_after, left_over, missing, no_number, LinesHaveTheirFirstFault}
use Rattle.ados_readargs.specs.Shares.{TakesAll, is_left}
use Rattle.ados_readargs.specs.Args.{args_of}
use Rattle.ados_readargs.specs.Checks.{lacks, has_bad}
use Rattle.ados_readargs.specs.Fill.{checked_args, args_of_readings, parsed_args, LosesNoWord}
use Rattle.ados_readargs.proofs.PhraseLemmas.{Said}
use Rattle.ados_readargs.proofs.ReadingLemmas.{words-come}

quotes-not : (unclosed : Bool) (read : Result Readings ArgFault) (readings : Readings) → with_quotes unclosed read ≡ Ok readings → read ≡ Ok readings
quotes-not unclosed (Ok found) readings e = e
quotes-not unclosed (Err fault) readings e = cc

read-phrases : (options : List TemplateOption) (line : List ℕ) (readings : Readings) → read_of options line (line_words_of line) ≡ Ok readings
    → Said options line no_readings readings (line_words_of line)
read-phrases options line readings e =
    words-come options line (line_words_of line) (Ok readings) (quotes-not _ _ readings e)

args-of : (options : List TemplateOption) (left : Bool) (found args : List Arg) → checked_args options left found ≡ Ok args → found ≡ args
args-of options left found args =
    let P : Result (List Arg) ArgFault → Type 0 = λ r. r ≡ Ok args → found ≡ args in
    cond_both left (Err fault.TooMany) _ P (λ _ e. cc) (λ _.
    cond_both (lacks options found) (Err fault.ArgumentMissing) _ P (λ _ e. cc) (λ _.
    cond_both (has_bad options found) (Err fault.BadNumber) (Ok found) P (λ _ e. cc) (λ _ e. cc)))

by-read : (options : List TemplateOption) (line : List ℕ) (read : Result Readings ArgFault) (args : List Arg) → read_of options line (line_words_of line) ≡ read
    → args_of_readings options line read ≡ Ok args → IfOk read (λ readings. TakesAll options readings) → IsFilled options line args
by-read options line (Ok readings) args e given taken =
    let p = read-phrases options line readings e in
    let a = p.1 in
    let same : readings_of_phrases p.0 ≡ readings =
    ap (λ l. record { given = l; plain = flat_map plain_words p.0 }) (sym a.given) ∙ ap (λ l. record { given = readings.given; plain = l }) (sym a.plain) in (
      p.0,
      record {
        words = a.words;
        said = a.said;
        taken = subst (λ r. TakesAll options r) (sym same) taken;
        gives = sym (args-of options _ _ args given) ∙ ap (args_of options line) (sym same);
      },
    )
by-read options line (Err fault) args e given taken = cc

-- what a line gives to options is what its phrases say
pub filled : {T : Type 0} (result : Result T ArgFault) (args : List Arg) (options : List TemplateOption) (line : List ℕ) → OnOk result (parsed_args options line ≡ Ok args)
    → OnOk result (LosesNoWord options line) → OnOk result (IsFilled options line args)
filled (Ok value) args options line e taken = by-read options line _ args refl e taken
filled (Err fault) args options line e taken = tt

-- what was read is what the phrases say, if they begin with nothing read
all-said : (phrases : List Phrase) (readings : Readings) → readings.given ≡ flat_map fillings phrases → readings.plain ≡ flat_map plain_words phrases → readings_of_phrases phrases ≡ readings
all-said phrases readings given plain =
    ap (λ l. record { given = l; plain = flat_map plain_words phrases }) (sym given) ∙ ap (λ l. record { given = readings.given; plain = l }) (sym plain)

-- a fault at words, and whether a quote that is not closed comes before it
at-fault : (options : List TemplateOption) (line : List ℕ) (found told : ArgFault) (phrases : List Phrase) (after : List LineWord) → ArePhrasesAndWords options line phrases after → MayContinue phrases
    → IsFaultAt options line (readings_of_phrases phrases).given after found → quotes_first (is_unclosed line) found ≡ told → IsFirstFault options line told
at-fault options line fault.TooMany told phrases after stand onward here e =
    let P : ArgFault → Type 0 = λ f. f ≡ told → IsFirstFault options line told in
    cond_both (is_unclosed line) fault.Unmatched fault.TooMany P
    (λ unclosed same. subst (λ f. IsFirstFault options line f) same (open_after phrases after stand onward here unclosed))
    (λ closed same. subst (λ f. IsFirstFault options line f) same (at_words phrases after fault.TooMany stand onward here (λ _. closed))) e
at-fault options line fault.BadTemplate told phrases after stand onward here e = subst (λ f. IsFirstFault options line f) e (at_words phrases after fault.BadTemplate stand onward here (λ h. cc))
at-fault options line fault.BadNumber told phrases after stand onward here e = subst (λ f. IsFirstFault options line f) e (at_words phrases after fault.BadNumber stand onward here (λ h. cc))
at-fault options line fault.ArgumentMissing told phrases after stand onward here e = subst (λ f. IsFirstFault options line f) e (at_words phrases after fault.ArgumentMissing stand onward here (λ h. cc))
at-fault options line fault.ValueMissing told phrases after stand onward here e = subst (λ f. IsFirstFault options line f) e (at_words phrases after fault.ValueMissing stand onward here (λ h. cc))
at-fault options line fault.Unmatched told phrases after stand onward here e = subst (λ f. IsFirstFault options line f) e (at_words phrases after fault.Unmatched stand onward here (λ h. cc))
at-fault options line fault.NoMemory told phrases after stand onward here e = subst (λ f. IsFirstFault options line f) e (at_words phrases after fault.NoMemory stand onward here (λ h. cc))

-- the words are not all read
words-fault : (options : List TemplateOption) (line : List ℕ) (read : Result Readings ArgFault) (told : ArgFault) → read_from options line no_readings Free (line_words_of line) ≡ read
    → with_quotes (is_unclosed line) read ≡ Err told → IsFirstFault options line told
words-fault options line (Ok readings) told e refused = cc
words-fault options line (Err found) told e refused =
    let p = words-come options line (line_words_of line) (Err found) e in
    let s = p.3 in
    let same = all-said p.2 p.0 s.given s.plain in
    let P : Readings → Type 0 = λ r. IsFaultAt options line r.given p.1 found in
    let told_is : quotes_first (is_unclosed line) found ≡ told = cc in
    at-fault options line found told p.2 p.1 (record { words = s.words; said = s.said }) s.onward (subst P (sym same) p.4) told_is

-- all words are read
args-fault : (options : List TemplateOption) (line : List ℕ) (phrases : List Phrase) (told : ArgFault) → ArePhrasesAndWords options line phrases []
    → checked_args options (is_left options (readings_of_phrases phrases)) (args_of options line (readings_of_phrases phrases)) ≡ Err told → IsFirstFault options line told
args-fault options line phrases told stand =
    let found = args_of options line (readings_of_phrases phrases) in
    let P : Result (List Arg) ArgFault → Type 0 = λ r. r ≡ Err told → IsFirstFault options line told in
    cond_both (is_left options (readings_of_phrases phrases)) (Err fault.TooMany) _ P (λ left e. is fault.TooMany (Err fault.TooMany) refl e (left_over phrases stand left)) (λ none.
    cond_both (lacks options found) (Err fault.ArgumentMissing) _ P (λ lack e. is fault.ArgumentMissing (Err fault.ArgumentMissing) refl e (missing phrases stand none lack)) (λ has.
    cond_both (has_bad options found) (Err fault.BadNumber) (Ok found) P (λ bad e. is fault.BadNumber (Err fault.BadNumber) refl e (no_number phrases stand none has bad)) (λ _ e. cc)))
  where
    is : (found : ArgFault) (r : Result (List Arg) ArgFault) → r ≡ Err found → r ≡ Err told → IsFirstFault options line found → IsFirstFault options line told
    is found r one two it = let same : found ≡ told = cc in subst (λ f. IsFirstFault options line f) same it

line-fault : (options : List TemplateOption) (line : List ℕ) (read : Result Readings ArgFault) (told : ArgFault) → read_of options line (line_words_of line) ≡ read
    → args_of_readings options line read ≡ Err told → IsFirstFault options line told
line-fault options line (Err found) told e refused =
    let same : found ≡ told = cc in
    words-fault options line (read_from options line no_readings Free (line_words_of line)) told refl (e ∙ ap Err same)
line-fault options line (Ok readings) told e refused =
    let p = read-phrases options line readings e in
    let a = p.1 in
    let same = all-said p.0 readings a.given a.plain in
    let P : Readings → Type 0 = λ r. checked_args options (is_left options r) (args_of options line r) ≡ Err told in
    args-fault options line p.0 told (record { words = append-nil (flat_map words_in p.0) ∙ a.words; said = a.said }) (subst P (sym same) refused)

-- a line that does not fill options has its first fault
pub first-fault : LinesHaveTheirFirstFault
first-fault options line told e = line-fault options line (read_of options line (line_words_of line)) told refl e
