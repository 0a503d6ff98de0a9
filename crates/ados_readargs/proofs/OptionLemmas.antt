-- what holds of options whatever the line is
use Rattle.std.proofs.Common.{zero, suc, ◌≡◌, ◌<◌, ◌+◌, ◌==◌, ◌∙◌, ℕ, List, [], ◌∷◌, Bool, true, false, Option, Some, None, ◌||◌, ◌&&◌, not, if◌then◌else◌, length, drop, position, get_or, replicate, refl, ap, sym, arith}
use Rattle.std.specs.Prelude.{IfSome}
use Rattle.std.specs.List.{list_any, position_from}
use Rattle.std.proofs.lemmas.Bool.{false_from_ne_true, or_parts}
use Rattle.std.proofs.lemmas.Bool.Decides.{nat_tests}
use Rattle.std.proofs.lemmas.List.{length-map}
use Rattle.std.proofs.lemmas.Iterator.Adapters.{position_from-zero}
use Rattle.std.proofs.lemmas.Slice.Eq.{bytes_eq-Decides}
use Rattle.ados_text.specs.Text.{fold_of, folded_text, is_same}
use Rattle.ados_readargs.specs.NameLengths.{is_as_long, has_as_long, one_is_as_long}
use Rattle.ados_readargs.specs.Meanings.{is_keyword}
use Rattle.std.proofs.lemmas.List.Quantifiers.{position-Some}
use Rattle.ados_readargs.specs.declared.options.TemplateOption.{TemplateOption}
use Rattle.ados_readargs.specs.declared.args.Arg.{Arg}
use Rattle.ados_readargs.specs.Options.{is_required, takes_number, no_qualifiers}
use Rattle.ados_readargs.specs.Checks.{any_option, has_bad, has_bad_number, is_absent, lacks}
use Rattle.ados_readargs.specs.Shares.{is_middle, middle_of, vacant_count}
use Rattle.ados_readargs.specs.Readings.{is_vacant}
use Rattle.ados_readargs.specs.declared.readings.Reading.{Reading}

abbrev no_option : TemplateOption
no_option = record { names = []; qualifiers = no_qualifiers }

place-within : (options : List TemplateOption) (found : Option ℕ) → middle_of options ≡ found → IfSome found (λ middle. middle < length options)
place-within options None e = tt
place-within options (Some middle) e = (position-Some is_middle options middle no_option e).0

pub middle_within : (options : List TemplateOption) → IfSome (middle_of options) (λ middle. middle < length options)
middle_within options = place-within options (middle_of options) refl

-- if no option has a qualifier, none fails a test of what has it
none-pass : (is_tested : TemplateOption → Bool) (fails : Arg → Bool) (options : List TemplateOption) (args : List Arg)
    → list_any is_tested options ≡ false → any_option (λ option arg. is_tested option && fails arg) options args ≡ false
none-pass is_tested fails [] args e = refl
none-pass is_tested fails (option ∷ options) [] e = refl
none-pass is_tested fails (option ∷ options) (arg ∷ args) e =
    let others = or_parts (is_tested option) (list_any is_tested options) e in rw (others.0, none-pass is_tested fails options args others.1) refl

-- if no option has /A, none lacks a value
pub none_lacks : (options : List TemplateOption) (args : List Arg) → list_any is_required options ≡ false → lacks options args ≡ false
none_lacks = none-pass is_required is_absent

-- if no option has /N, no text is a bad number
pub none_bad : (options : List TemplateOption) (args : List Arg) → list_any takes_number options ≡ false → has_bad options args ≡ false
none_bad = none-pass takes_number has_bad_number

-- a name of another length is another name
other-length : (own name : List ℕ) → (length own == length name) ≡ false → is_same own name ≡ false
other-length own name e =
    false_from_ne_true (is_same own name) (λ same.
    let equal : folded_text own ≡ folded_text name = (bytes_eq-Decides (folded_text own) (folded_text name)).0 same in
    let alike : length own ≡ length name = sym (length-map own fold_of) ∙ ap length equal ∙ length-map name fold_of in
    absurd (grind (arith, nat_tests, e, alike)))

not-named : (names : List (List ℕ)) (name : List ℕ) → list_any (is_as_long (length name)) names ≡ false → list_any (λ own. is_same own name) names ≡ false
not-named [] name e = refl
not-named (own ∷ names) name e =
    let others = or_parts (is_as_long (length name) own) (list_any (is_as_long (length name)) names) e in
    rw (other-length own name others.0, not-named names name others.1) refl

none-from : (options : List TemplateOption) (name : List ℕ) (place : ℕ) → one_is_as_long (length name) options ≡ false → position_from (is_keyword name true) place options ≡ None
none-from [] name place e = refl
none-from (option ∷ options) name place e =
    let others = or_parts (has_as_long (length name) option) (one_is_as_long (length name) options) e in
    rw (not-named option.names name others.0, none-from options name (place + 1) others.1) refl

-- if no option has a name of that length, the name is a keyword of none
pub none_named : (options : List TemplateOption) (name : List ℕ) → one_is_as_long (length name) options ≡ false → position (is_keyword name true) options ≡ None
none_named options name e = position_from-zero (is_keyword name true) options ∙ none-from options name 0 e

-- in a list that only has `true`, no `false` is found
pub true-alone : (count size : ℕ) → get_or (replicate count true) size true ≡ true
true-alone zero size = refl
true-alone (suc count) zero = refl
true-alone (suc count) (suc size) = true-alone count size

not-counted : (vacant : Bool) → (if vacant && (not true || false) then 1 else 0) + 0 ≡ 0
not-counted true = refl
not-counted false = refl

none-needed : (options : List TemplateOption) (given : List Reading) (place : ℕ) → list_any is_required options ≡ false → vacant_count true place options given ≡ 0
none-needed [] given place e = refl
none-needed (option ∷ options) given place e =
    let others = or_parts (is_required option) (list_any is_required options) e in
    rw (others.0, none-needed options given (place + 1) others.1) (not-counted (is_vacant place option.qualifiers given))

none-after : (options : List TemplateOption) (n : ℕ) → list_any is_required options ≡ false → list_any is_required (drop n options) ≡ false
none-after options zero e = e
none-after [] (suc n) e = refl
none-after (option ∷ options) (suc n) e = none-after options n (or_parts (is_required option) (list_any is_required options) e).1

-- if no option has /A, none from a place on is needed
pub none_needed : (options : List TemplateOption) (given : List Reading) (place : ℕ) → list_any is_required options ≡ false → vacant_count true place (drop place options) given ≡ 0
none_needed options given place e = none-needed (drop place options) given place (none-after options place e)
