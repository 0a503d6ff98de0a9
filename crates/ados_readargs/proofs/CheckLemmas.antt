-- options and their arguments, one after another
use Rattle.std.proofs.Common.{ℕ, ◌≡◌, ◌+◌, ◌<◌, List, ◌∷◌, Bool, true, false, Option, Some, None, ◌||◌, ◌∙◌, length, drop, get_or, slice_get, refl, ap, sym, arith}
use Rattle.std.specs.List.{list_any}
use Rattle.std.proofs.lemmas.List.{drop_more}
use Rattle.std.proofs.lemmas.Option.{slice_get-get_or}
use Rattle.ados_readargs.specs.declared.options.TemplateOption.{TemplateOption}
use Rattle.ados_readargs.specs.declared.args.Arg.{Arg}
use Rattle.ados_readargs.specs.declared.args.Arg.TheVariants.{Absent, On, One, Many}
use Rattle.ados_readargs.specs.Args.{or_absent, option_texts, texts_or_none}
use Rattle.ados_readargs.specs.Checks.{any_option, is_bad_text, has_bad_number}

or-nothing : (b : Bool) → (b || false) ≡ b
or-nothing true = refl
or-nothing false = refl

bad-text : (found : Option Arg) → list_any is_bad_text (texts_or_none found) ≡ has_bad_number (or_absent found)
bad-text None = refl
bad-text (Some Absent) = refl
bad-text (Some On) = refl
bad-text (Some (One text)) = or-nothing (is_bad_text text)
bad-text (Some (Many texts)) = refl

pub bad_text : (args : List Arg) (place : ℕ) → list_any is_bad_text (option_texts args place) ≡ has_bad_number (or_absent (slice_get args place))
bad_text args place = bad-text (slice_get args place)

-- the options from a place on, by the one there
options-more : (options : List TemplateOption) (place : ℕ) (option : TemplateOption) → place < length options → option ≡ get_or options place option
    → drop place options ≡ option ∷ drop (place + 1) options
options-more options place option h e = drop_more options place option h ∙ ap (λ o. o ∷ drop (place + 1) options) (sym e)

args-more : (args : List Arg) (place : ℕ) → place < length args → drop place args ≡ or_absent (slice_get args place) ∷ drop (place + 1) args
args-more args place h = drop_more args place Absent h ∙ ap (λ arg. arg ∷ drop (place + 1) args) (sym (ap or_absent (slice_get-get_or args place Absent h)))

any-more : (test : TemplateOption → Arg → Bool) (options : List TemplateOption) (args : List Arg) (place : ℕ) (option : TemplateOption)
    → place < length options → length args ≡ length options → option ≡ get_or options place option
    → any_option test (drop place options) (drop place args) ≡ (test option (or_absent (slice_get args place)) || any_option test (drop (place + 1) options) (drop (place + 1) args))
any-more test options args place option h l e = rw (options-more options place option h e, args-more args place (omega (arith, h, l))) refl

-- a loop over the options goes on after one that does not pass, and ends at one that passes
pub any-goes_on : (test : TemplateOption → Arg → Bool) (options : List TemplateOption) (args : List Arg) (place : ℕ) (option : TemplateOption)
    → place < length options → length args ≡ length options → option ≡ get_or options place option
    → any_option test options args ≡ any_option test (drop place options) (drop place args) → test option (or_absent (slice_get args place)) ≡ false
    → any_option test options args ≡ any_option test (drop (place + 1) options) (drop (place + 1) args)
any-goes_on test options args place option h l e so_far fails =
    so_far ∙ any-more test options args place option h l e ∙ ap (λ b. b || any_option test (drop (place + 1) options) (drop (place + 1) args)) fails

pub any-found : (test : TemplateOption → Arg → Bool) (options : List TemplateOption) (args : List Arg) (place : ℕ) (option : TemplateOption)
    → place < length options → length args ≡ length options → option ≡ get_or options place option
    → any_option test options args ≡ any_option test (drop place options) (drop place args) → test option (or_absent (slice_get args place)) ≡ true
    → true ≡ any_option test options args
any-found test options args place option h l e so_far passes =
    sym (so_far ∙ any-more test options args place option h l e ∙ ap (λ b. b || any_option test (drop (place + 1) options) (drop (place + 1) args)) passes)
