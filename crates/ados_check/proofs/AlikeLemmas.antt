-- What a directive leads to with other arguments: the same marks and the same names of options.
use Rattle.std.proofs.Common.{◌≡◌, ◌⊎◌, ◌∙◌, ℕ, ◌+◌, List, [], ◌∷◌, Bool, true, false, Option, Some, None, is_some, Result, Ok, Err, length, map, if◌then◌else◌, refl, sym, ap, arith, inl, inr}
use Rattle.std.specs.List.{list_any}
use Rattle.std.specs.Option.{option_and_then, option_map}
use Rattle.std.proofs.lemmas.Bool.{cond_both}
use Rattle.ados_text.specs.Text.{Bytes, Text, is_same}
use Rattle.ados_items.specs.Parts.{first_word, rest_of}
use Rattle.ados_readargs.specs.declared.args.Arg.{Arg}
use Rattle.ados_readargs.specs.declared.errors.ArgFault.{ArgFault}
use Rattle.ados_readargs.specs.declared.errors.ArgFault.TheVariants as arg
use Rattle.ados_readargs.specs.declared.options.TemplateOption.{TemplateOption}
use Rattle.ados_readargs.specs.declared.readings.Reading.{Reading}
use Rattle.ados_readargs.specs.declared.words.LineWord.{LineWord}
use Rattle.ados_readargs.specs.Args.{args_from, args_of}
use Rattle.ados_readargs.specs.Checks.{lacks, has_bad}
use Rattle.ados_readargs.specs.Fill.{args_for_template, args_of_readings, parsed_args}
use Rattle.ados_readargs.specs.FirstFault.{IsFaultAt, twice, full_joined, full_parted, no_value, open_value, open_word, IsFirstFault, at_words, open_after, left_over, missing, no_number}
use Rattle.ados_readargs.specs.Meanings.{read_of}
use Rattle.ados_readargs.specs.Readings.{Readings}
use Rattle.ados_readargs.specs.Shares.{is_left}
use Rattle.ados_readargs.specs.Template.{options_or_none, template_of}
use Rattle.ados_readargs.specs.Words.{line_words_of}
use Rattle.ados_readargs.proofs.FillLemmas.{first-fault}
use Rattle.ados_subst.specs.declared.above.Above.{Above}
use Rattle.ados_subst.specs.declared.directives.Directive.{Directive}
use Rattle.ados_subst.specs.declared.directives.Directive.TheVariants.{Key, Default, Sets}
use Rattle.ados_subst.specs.declared.faults.SubstFault.{SubstFault}
use Rattle.ados_subst.specs.declared.faults.SubstFault.TheVariants as fault
use Rattle.ados_subst.specs.declared.marks.Mark.{Mark}
use Rattle.ados_subst.specs.declared.slots.Slot.{Slot}
use Rattle.ados_subst.specs.Directives.{above_of_default, above_of_slots, default_of, default_result, directive_named, directive_result, is_remark, key_result, mark_result, named_directive_result, slots_of_args}
use Rattle.ados_subst.specs.Faults.{args_fault}
use Rattle.ados_subst.specs.Marks.{with_mark}
use Rattle.ados_subst.specs.Slots.{is_named, slots_of, with_default, with_default_in}

abbrev pub slot_names : Slot → List Text
slot_names slot = slot.names

-- the names of the options, if there is a template
abbrev pub names_in : Above → Option (List (List Text))
names_in above = option_map (map slot_names) above.slots

-- two that hold of lines with different arguments: the marks and the names of the options are the same
pub record AreAlike (one two : Above) : Type 0 where
  pub marks : one.marks ≡ two.marks
  pub names : names_in one ≡ names_in two

-- the fault comes from the arguments
abbrev pub is_of_arguments : SubstFault → Bool
is_of_arguments (fault.Args arg.BadTemplate) = false
is_of_arguments (fault.Args other) = true
is_of_arguments (fault.BadDirective line) = false
is_of_arguments fault.NoMemory = true

-- the fault is one of the template or of the arguments
abbrev pub is_of_template : SubstFault → Bool
is_of_template (fault.Args any) = true
is_of_template other = false

-- a fault that is the same, or of the template
abbrev pub Stays : SubstFault → SubstFault → Type 0
Stays why other = (other ≡ why) ⊎ (is_of_template other ≡ true)

-- with other arguments a directive that was good leads to what is alike, unless they do not fill its template; a bad one stays bad
abbrev pub Follows : Result Above SubstFault → Result Above SubstFault → Type 0
Follows (Ok one) (Ok two) = AreAlike one two
Follows (Ok one) (Err why) = is_of_template why ≡ true
Follows (Err why) (Ok two) = is_of_arguments why ≡ true
Follows (Err why) (Err other) = Stays why other

-- lines that have a fault with other arguments too
abbrev pub StayBad : SubstFault → Result (List Text) SubstFault → Type 0
StayBad why (Ok lines) = ⊥
StayBad why (Err other) = Stays why other

-- a default changes no name, and finds its option by names alone
abbrev defaulted_names : Text → List (List Text) → Option (List (List Text))
defaulted_names name [] = None
defaulted_names name (own ∷ more) = if list_any (λ text. is_same text name) own then Some (own ∷ more) else option_map (λ rest. own ∷ rest) (defaulted_names name more)

names-behind : (slot : Slot) (found : Option (List Slot))
    → option_map (map slot_names) (option_map (λ more. slot ∷ more) found) ≡ option_map (λ rest. slot_names slot ∷ rest) (option_map (map slot_names) found)
names-behind slot None = refl
names-behind slot (Some slots) = refl

default-names : (name text : Text) (slots : List Slot) → option_map (map slot_names) (with_default_in name text slots) ≡ defaulted_names name (map slot_names slots)
default-names name text [] = refl
default-names name text (slot ∷ slots) = by (is_named name slot) refl (default-names name text slots)
  where
    by : (b : Bool) → is_named name slot ≡ b
        → option_map (map slot_names) (with_default_in name text slots) ≡ defaulted_names name (map slot_names slots)
        → option_map (map slot_names) (with_default_in name text (slot ∷ slots)) ≡ defaulted_names name (map slot_names (slot ∷ slots))
    by true own rest = rw own refl
    by false own rest = rw own (names-behind slot (with_default_in name text slots) ∙ ap (option_map (λ more. slot_names slot ∷ more)) rest)

-- the options are there in both, or in neither
same-presence : (one two : Option (List Slot)) → option_map (map slot_names) one ≡ option_map (map slot_names) two → is_some one ≡ is_some two
same-presence None None e = refl
same-presence (Some a) (Some b) e = refl
same-presence None (Some b) e = cc
same-presence (Some a) None e = cc

-- what is wrong with the words of a line
abbrev is_of_words : ArgFault → Bool
is_of_words arg.BadTemplate = false
is_of_words arg.NoMemory = false
is_of_words other = true

fault-of-words : {options : List TemplateOption} {line : Bytes} {before : List Reading} {words : List LineWord} {told : ArgFault}
    → IsFaultAt options line before words told → is_of_words told ≡ true
fault-of-words (twice place keyword after a b c d e) = refl
fault-of-words (full_joined place keyword after a b c) = refl
fault-of-words (full_parted place keyword between value after a b c d e) = refl
fault-of-words (no_value place keyword between a b c) = refl
fault-of-words (open_value place keyword between value after a b c d) = refl
fault-of-words (open_word word after a b) = refl

fault-of-line : {options : List TemplateOption} {line : Bytes} {told : ArgFault} → IsFirstFault options line told → is_of_words told ≡ true
fault-of-line (at_words phrases after told stand onward here closed) = fault-of-words here
fault-of-line (open_after phrases after stand onward here unclosed) = refl
fault-of-line (left_over phrases stand left) = refl
fault-of-line (missing phrases stand none lack) = refl
fault-of-line (no_number phrases stand none has bad) = refl

of-arguments : (told : ArgFault) → is_of_words told ≡ true → (is_of_arguments (args_fault told) ≡ true) × (is_of_template (args_fault told) ≡ true)
of-arguments arg.BadTemplate e = cc
of-arguments arg.NoMemory e = cc
of-arguments arg.BadNumber e = (refl, refl)
of-arguments arg.ArgumentMissing e = (refl, refl)
of-arguments arg.ValueMissing e = (refl, refl)
of-arguments arg.TooMany e = (refl, refl)
of-arguments arg.Unmatched e = (refl, refl)

not-filled : (options : List TemplateOption) (line : Bytes) (told : ArgFault) → parsed_args options line ≡ Err told
    → (is_of_arguments (args_fault told) ≡ true) × (is_of_template (args_fault told) ≡ true)
not-filled options line told e = of-arguments told (fault-of-line (first-fault options line told e))

-- options that are filled have the names of their template
args-length : (options : List TemplateOption) (line : Bytes) (readings : Readings) (place : ℕ) (more : List TemplateOption)
    → length (args_from options line readings place more) ≡ length more
args-length options line readings place [] = refl
args-length options line readings place (option ∷ more) = let rest = args-length options line readings (place + 1) more in omega (arith, rest)

filled-length : (options : List TemplateOption) (line : Bytes) (args : List Arg) → parsed_args options line ≡ Ok args → length args ≡ length options
filled-length options line args e = by (read_of options line (line_words_of line)) e
  where
    by : (read : Result Readings ArgFault) → args_of_readings options line read ≡ Ok args → length args ≡ length options
    by (Err why) e = cc
    by (Ok readings) e =
        let found = args_of options line readings in
        let P : Result (List Arg) ArgFault → Type 0 = λ r. r ≡ Ok args → length args ≡ length options in
        cond_both (is_left options readings) (Err arg.TooMany) _ P (λ _ e. cc) (λ _.
        cond_both (lacks options found) (Err arg.ArgumentMissing) _ P (λ _ e. cc) (λ _.
        cond_both (has_bad options found) (Err arg.BadNumber) (Ok found) P (λ _ e. cc) (λ _ e.
        let same : args ≡ found = cc in ap length same ∙ args-length options line readings 0 options))) e

filled-names : (options : List TemplateOption) (args : List Arg) → length args ≡ length options
    → map slot_names (slots_of options args) ≡ map (λ (option : TemplateOption). option.names) options
filled-names [] args e = refl
filled-names (option ∷ options) [] e = absurd (omega (arith, e))
filled-names (option ∷ options) (arg ∷ args) e = ap (λ rest. option.names ∷ rest) (filled-names options args (omega (arith, e)))

-- `.KEY`
key-follows : (one two : Above) (these those : Bytes) (number : ℕ) (text : Text) → AreAlike one two
    → Follows (key_result one these number text) (key_result two those number text)
key-follows one two these those number text alike = by (is_some one.slots) refl (sym (same-presence one.slots two.slots alike.names))
  where
    parsed : (options : List TemplateOption) (r s : Result (List Arg) ArgFault) → parsed_args options these ≡ r → parsed_args options those ≡ s
        → Follows (above_of_slots one (slots_of_args options r)) (above_of_slots two (slots_of_args options s))
    parsed options (Ok a) (Ok b) e f =
        let left = filled-names options a (filled-length options these a e) in
        let right = filled-names options b (filled-length options those b f) in
        record { marks = alike.marks; names = ap Some (left ∙ sym right) }
    parsed options (Ok a) (Err g) e f = (not-filled options those g f).1
    parsed options (Err g) (Ok b) e f = (not-filled options these g e).0
    parsed options (Err g) (Err h) e f = inr (not-filled options those h f).1

    filled : (found : Option (List TemplateOption))
        → Follows (above_of_slots one (slots_of_args (options_or_none found) (args_for_template these found)))
        (above_of_slots two (slots_of_args (options_or_none found) (args_for_template those found)))
    filled None = inl refl
    filled (Some options) = parsed options (parsed_args options these) (parsed_args options those) refl refl

    by : (b : Bool) → is_some one.slots ≡ b → is_some two.slots ≡ is_some one.slots
        → Follows (key_result one these number text) (key_result two those number text)
    by true here there = rw there (rw here (inl refl))
    by false here there = rw there (rw here (filled (template_of text)))

-- `.DEF`
default-follows : (one two : Above) (number : ℕ) (text : Text) → AreAlike one two → Follows (default_result one number text) (default_result two number text)
default-follows one two number text alike = by one.slots two.slots alike.names
  where
    found : (a b : Option (List Slot)) → option_map (map slot_names) a ≡ option_map (map slot_names) b
        → Follows (above_of_default one number a) (above_of_default two number b)
    found None None e = inl refl
    found None (Some b) e = cc
    found (Some a) None e = cc
    found (Some a) (Some b) e = record { marks = alike.marks; names = e }

    named : (name default : Text) (a b : List Slot) → map slot_names a ≡ map slot_names b
        → Follows (above_of_default one number (with_default a name default)) (above_of_default two number (with_default b name default))
    named [] default a b e = inl refl
    named (c ∷ cs) default a b e =
        found (with_default_in (c ∷ cs) default a) (with_default_in (c ∷ cs) default b)
        (default-names (c ∷ cs) default a ∙ ap (defaulted_names (c ∷ cs)) e ∙ sym (default-names (c ∷ cs) default b))

    by : (a b : Option (List Slot)) → option_map (map slot_names) a ≡ option_map (map slot_names) b
        → Follows (above_of_default one number (option_and_then (λ slots. with_default slots (first_word text) (default_of (rest_of text))) a))
        (above_of_default two number (option_and_then (λ slots. with_default slots (first_word text) (default_of (rest_of text))) b))
    by None None e = inl refl
    by None (Some b) e = cc
    by (Some a) None e = cc
    by (Some a) (Some b) e = let same : map slot_names a ≡ map slot_names b = cc in named (first_word text) (default_of (rest_of text)) a b same

-- `.BRA` and those like it
mark-follows : (one two : Above) (number : ℕ) (mark : Mark) (text : Text) → AreAlike one two → Follows (mark_result one number mark text) (mark_result two number mark text)
mark-follows one two number mark [] alike = inl refl
mark-follows one two number mark (c ∷ []) alike = record { marks = ap (with_mark mark c) alike.marks; names = alike.names }
mark-follows one two number mark (c ∷ d ∷ cs) alike = inl refl

pub directive-follows : (one two : Above) (these those : Bytes) (number : ℕ) (body : Text) → AreAlike one two
    → Follows (directive_result one these number body) (directive_result two those number body)
directive-follows one two these those number body alike = by (is_remark body) refl
  where
    named : (directive : Option Directive)
        → Follows (named_directive_result one these number (rest_of body) directive) (named_directive_result two those number (rest_of body) directive)
    named None = inl refl
    named (Some Key) = key-follows one two these those number (rest_of body) alike
    named (Some Default) = default-follows one two number (rest_of body) alike
    named (Some (Sets mark)) = mark-follows one two number mark (rest_of body) alike

    by : (b : Bool) → is_remark body ≡ b → Follows (directive_result one these number body) (directive_result two those number body)
    by true e = rw e alike
    by false e = rw e (named (directive_named (first_word body)))
