-- the options with a default, by the place of the one that has the name; texts joined in order
use Rattle.std.proofs.Common.{◌≡◌, ◌∙◌, ℕ, zero, suc, ◌+◌, ◌<◌, ◌≤◌, ◌==◌, List, [], ◌∷◌, ◌++◌, Bool, true, false, Some, None, length, drop, get_or, slice_get, slice_set, refl, sym, ap, arith, append_assoc}
use Rattle.std.specs.List.{join_with_byte, position, position_from}
use Rattle.std.specs.Option.{option_map}
use Rattle.std.proofs.lemmas.Iterator.Adapters.{position_from-zero}
use Rattle.std.proofs.lemmas.List.{drop_more, drop_all}
use Rattle.std.proofs.lemmas.List.Quantifiers.{position-Some}
use Rattle.std.proofs.lemmas.Option.{slice_get_within, get_or_from_slice_get}
use Rattle.ados_text.specs.Text.{Text}
use Rattle.ados_readargs.specs.declared.options.TemplateOption.{TemplateOption}
use Rattle.ados_readargs.specs.declared.args.Arg.{Arg}
use Rattle.ados_subst.specs.declared.slots.Slot.{Slot}
use Rattle.ados_subst.specs.Slots.{with_default, is_named, new_slot, slots_of, with_default_in}

-- the first option with the name
first-at : (name text : Text) (slots : List Slot) (i : ℕ) (d : Slot)
    → i < length slots → is_named name (get_or slots i d) ≡ true
    → ((k : ℕ) → k < i → is_named name (get_or slots k d) ≡ false)
    → with_default_in name text slots ≡ Some (slice_set slots i (record (get_or slots i d) { default = Some text }))
first-at name text [] i d h e before = absurd (omega arith)
first-at name text (slot ∷ slots) zero d h e before = simp e refl
first-at name text (slot ∷ slots) (suc i) d h e before =
    let other : is_named name slot ≡ false = before 0 (omega arith) in
    let rest = first-at name text slots i d (omega arith) e (λ k below. before (suc k) (omega arith)) in
    simp other (ap (option_map (λ more. slot ∷ more)) rest)

none-from : (name text : Text) (slots : List Slot) (n : ℕ) → position_from (is_named name) n slots ≡ None
    → with_default_in name text slots ≡ None
none-from name text [] n e = refl
none-from name text (slot ∷ slots) n e = by (is_named name slot) refl (none-from name text slots (n + 1)) e
  where
    by : (b : Bool) → is_named name slot ≡ b
        → (position_from (is_named name) (n + 1) slots ≡ None → with_default_in name text slots ≡ None)
        → position_from (is_named name) n (slot ∷ slots) ≡ None → with_default_in name text (slot ∷ slots) ≡ None
    by true own rest = simp own (λ none. cc)
    by false own rest = simp own (λ none. ap (option_map (λ more. slot ∷ more)) (rest none))

pub set-at : (slots : List Slot) (name text : Text) (i : ℕ) (d : Slot)
    → (length name == 0) ≡ false → position (is_named name) slots ≡ Some i
    → with_default slots name text ≡ Some (slice_set slots i (record (get_or slots i d) { default = Some text }))
set-at slots [] text i d h e = cc
set-at slots (c ∷ cs) text i d h e =
    let found = position-Some (is_named (c ∷ cs)) slots i d e in
    first-at (c ∷ cs) text slots i d found.0 found.1 found.2

pub set-nowhere : (slots : List Slot) (name text : Text) → position (is_named name) slots ≡ None
    → with_default slots name text ≡ None
set-nowhere slots [] text e = refl
set-nowhere slots (c ∷ cs) text e =
    none-from (c ∷ cs) text slots 0 (sym (position_from-zero (is_named (c ∷ cs)) slots) ∙ e)

-- options with their arguments, one after another
slots-nil : (options : List TemplateOption) → slots_of options [] ≡ []
slots-nil [] = refl
slots-nil (option ∷ options) = refl

pub slots-more : (whole done new : List Slot) (slot : Slot) (options : List TemplateOption) (args : List Arg)
    (place : ℕ) (option : TemplateOption) (arg : Arg)
    → place < length options → option ≡ get_or options place option → slice_get args place ≡ Some arg
    → slot ≡ new_slot option arg → new ≡ done ++ slot ∷ []
    → whole ≡ done ++ slots_of (drop place options) (drop place args)
    → whole ≡ new ++ slots_of (drop (place + 1) options) (drop (place + 1) args)
slots-more whole done new slot options args place option arg lt own given made grown e =
    let rest = slots_of (drop (place + 1) options) (drop (place + 1) args) in
    let left : drop place options ≡ option ∷ drop (place + 1) options =
    drop_more options place option lt ∙ ap (λ o. o ∷ drop (place + 1) options) (sym own) in
    let right : drop place args ≡ arg ∷ drop (place + 1) args =
    drop_more args place arg (slice_get_within args place arg given)
    ∙ ap (λ a. a ∷ drop (place + 1) args) (get_or_from_slice_get args place arg arg given) in
    e ∙ ap (λ o. done ++ slots_of o (drop place args)) left
    ∙ ap (λ a. done ++ slots_of (option ∷ drop (place + 1) options) a) right
    ∙ ap (λ s. done ++ s ∷ rest) (sym made)
    ∙ sym (append_assoc done (slot ∷ []) rest)
    ∙ ap (λ n. n ++ rest) (sym grown)

none-left : (args : List Arg) (place : ℕ) → slice_get args place ≡ None → length args ≤ place
none-left [] place e = omega arith
none-left (arg ∷ args) zero e = cc
none-left (arg ∷ args) (suc place) e = let rest = none-left args place e in omega arith

pub slots-past : (whole done : List Slot) (options : List TemplateOption) (args : List Arg) (place : ℕ)
    → slice_get args place ≡ None → whole ≡ done ++ slots_of (drop place options) (drop place args)
    → whole ≡ done ++ slots_of (drop (place + 1) options) (drop (place + 1) args)
slots-past whole done options args place none e =
    let past = none-left args place none in
    e ∙ ap (λ a. done ++ slots_of (drop place options) a) (drop_all place args past)
    ∙ ap (λ l. done ++ l) (slots-nil (drop place options) ∙ sym (slots-nil (drop (place + 1) options)))
    ∙ ap (λ a. done ++ slots_of (drop (place + 1) options) a) (sym (drop_all (place + 1) args (omega arith)))

-- the texts that are not yet joined: a blank comes before them if there are some before
abbrev pub further : ℕ → List Text → Text
further place [] = []
further zero (text ∷ texts) = join_with_byte 32 (text ∷ texts)
further (suc place) (text ∷ texts) = 32 ∷ join_with_byte 32 (text ∷ texts)
