-- the pairs after RC and Result2 are set
use Rattle.std.proofs.Common.{◌≡◌, ◌∙◌, ℕ, codes, [], true, false, Some, IsSome, ap, sym, refl, cond, inl, inr}
use Rattle.std.specs.Fmt.{decimal, signed_decimal}
use Rattle.std.proofs.lemmas.Bool.{cases_Bool, or_parts}
use Rattle.ados_text.specs.Text.{Text, is_same}
use Rattle.ados_text.specs.declared.codes.Code.{Code}
use Rattle.ados_text.specs.declared.codes.Result2.{Result2}
use Rattle.ados_vars.specs.Vars.{Pairs, set_pair, value_in, remove_pair}
use Rattle.ados_vars.specs.Locals.{code_name, fault_name, is_of_codes, with_codes, shown_pairs, unset_pair, own_pairs, copied_pairs, HasCodes, AnswerIsSeen, SettingIsSeen, UnsettingIsSeen, CodesBegin, CodesStay}
use Rattle.ados_vars.proofs.VarsLemmas.{value-set, value-without, set-there, set-keeps, set-again, set-swaps, set-over, without-over, without-set}

apart : is_same code_name fault_name ≡ false
apart = refl

apart-too : is_same fault_name code_name ≡ false
apart-too = refl

-- both exist after that, and stay
pub has-codes : (pairs : Pairs) (code fault : Text) → HasCodes (with_codes pairs code fault)
unfolding with_codes
has-codes pairs code fault = record {
  code = set-keeps (set_pair pairs code_name code) fault_name fault code_name (set-there pairs code_name code);
  fault = set-there (set_pair pairs code_name code) fault_name fault;
}

pub set-keeps-codes : (pairs : Pairs) (name value : Text) → HasCodes pairs → HasCodes (set_pair pairs name value)
set-keeps-codes pairs name value h = record {
  code = set-keeps pairs name value code_name h.code;
  fault = set-keeps pairs name value fault_name h.fault;
}

pub without-keeps-codes : (pairs : Pairs) (name : Text) → is_same name code_name ≡ false → is_same name fault_name ≡ false → HasCodes pairs
    → HasCodes (remove_pair pairs name)
without-keeps-codes pairs name e f h = record {
  code = rw (value-without pairs name code_name e) h.code;
  fault = rw (value-without pairs name fault_name f) h.fault;
}

-- of two settings of both the second one is shown
pub codes-again : (pairs : Pairs) (code fault next last : Text) → with_codes (with_codes pairs code fault) next last ≡ with_codes pairs next last
unfolding with_codes
codes-again pairs code fault next last =
    ap (λ ps. set_pair ps fault_name last)
    (set-swaps (set_pair pairs code_name code) code_name next fault_name fault (set-there pairs code_name code) apart
    ∙ ap (λ ps. set_pair ps fault_name fault) (set-again pairs code_name code next))
    ∙ set-again (set_pair pairs code_name next) fault_name fault last

-- a change of pairs gives the same with and without the values of both set before, if they are set after it
over : (change : Pairs → Pairs) → (pairs : Pairs) (code fault next last : Text) → HasCodes pairs
    → ((ps : Pairs) → IsSome (value_in ps fault_name) → IsSome (value_in (change ps) fault_name))
    → ((ps : Pairs) (own old new : Text) → IsSome (value_in ps own) → set_pair (change (set_pair ps own old)) own new ≡ set_pair (change ps) own new)
    → with_codes (change (with_codes pairs code fault)) next last ≡ with_codes (change pairs) next last
unfolding with_codes
over change pairs code fault next last h keeps plays =
    let under = set_pair pairs fault_name fault in
    ap (λ ps. set_pair (set_pair (change ps) code_name next) fault_name last) (set-swaps pairs fault_name fault code_name code h.fault apart-too)
    ∙ ap (λ ps. set_pair ps fault_name last) (plays under code_name code next (set-keeps pairs fault_name fault code_name h.code))
    ∙ set-swaps (change under) fault_name last code_name next (keeps under (set-there pairs fault_name fault)) apart-too
    ∙ ap (λ ps. set_pair ps code_name next) (plays pairs fault_name fault last h.fault)
    ∙ sym (set-swaps (change pairs) fault_name last code_name next (keeps pairs h.fault) apart-too)

pub set-below-codes : (pairs : Pairs) (code fault name value next last : Text) → HasCodes pairs
    → with_codes (set_pair (with_codes pairs code fault) name value) next last ≡ with_codes (set_pair pairs name value) next last
set-below-codes pairs code fault name value next last h =
    over (λ ps. set_pair ps name value) pairs code fault next last h
    (λ ps there. set-keeps ps name value fault_name there)
    (λ ps own old new there. set-over ps own old name value new there)

pub without-below-codes : (pairs : Pairs) (code fault name next last : Text) → is_same name fault_name ≡ false → HasCodes pairs
    → with_codes (remove_pair (with_codes pairs code fault) name) next last ≡ with_codes (remove_pair pairs name) next last
without-below-codes pairs code fault name next last other h =
    over (λ ps. remove_pair ps name) pairs code fault next last h
    (λ ps there. rw (value-without ps name fault_name other) there)
    (λ ps own old new there. without-over ps own old name new there)

pub shown-again : (pairs : Pairs) (code next : Code) (result2 last : Result2) → shown_pairs (shown_pairs pairs code result2) next last ≡ shown_pairs pairs next last
unfolding shown_pairs
shown-again pairs code next result2 last = codes-again pairs (signed_decimal code.0) (decimal result2.0) (signed_decimal next.0) (decimal last.0)

pub shown-over : (pairs : Pairs) (code : Code) (result2 : Result2) (before fault : Text) → shown_pairs (with_codes pairs before fault) code result2 ≡ shown_pairs pairs code result2
unfolding shown_pairs
shown-over pairs code result2 before fault = codes-again pairs before fault (signed_decimal code.0) (decimal result2.0)

pub shown-set : (pairs : Pairs) (code next : Code) (result2 last : Result2) (name value : Text) → HasCodes pairs
    → shown_pairs (set_pair pairs name value) next last ≡ shown_pairs (set_pair (shown_pairs pairs code result2) name value) next last
unfolding shown_pairs
shown-set pairs code next result2 last name value h =
    sym (set-below-codes pairs (signed_decimal code.0) (decimal result2.0) name value (signed_decimal next.0) (decimal last.0) h)

-- the values of both, and of others
value-shown : (pairs : Pairs) (code : Code) (result2 : Result2) (name : Text)
    → value_in (shown_pairs pairs code result2) name
    ≡ cond (is_same name fault_name) (Some (decimal result2.0)) (cond (is_same name code_name) (Some (signed_decimal code.0)) (value_in pairs name))
unfolding shown_pairs with_codes
value-shown pairs code result2 name =
    value-set (set_pair pairs code_name (signed_decimal code.0)) fault_name (decimal result2.0) name
    ∙ ap (λ o. cond (is_same name fault_name) (Some (decimal result2.0)) o) (value-set pairs code_name (signed_decimal code.0) name)

pub fault-value : (pairs : Pairs) (code : Code) (result2 : Result2) (name : Text) → is_same name fault_name ≡ true
    → value_in (shown_pairs pairs code result2) name ≡ Some (decimal result2.0)
fault-value pairs code result2 name e = value-shown pairs code result2 name ∙ simp e refl

pub code-value : (pairs : Pairs) (code : Code) (result2 : Result2) (name : Text) → is_same name fault_name ≡ false → is_same name code_name ≡ true
    → value_in (shown_pairs pairs code result2) name ≡ Some (signed_decimal code.0)
code-value pairs code result2 name e f = value-shown pairs code result2 name ∙ simp (e, f) refl

pub other-value : (pairs : Pairs) (code : Code) (result2 : Result2) (name : Text) → is_same name fault_name ≡ false → is_same name code_name ≡ false
    → value_in (shown_pairs pairs code result2) name ≡ value_in pairs name
other-value pairs code result2 name e f = value-shown pairs code result2 name ∙ simp (e, f) refl

-- names removed before the end of a command
without-fault : (pairs : Pairs) (code fault name next last : Text) → is_same name fault_name ≡ true → HasCodes pairs
    → with_codes (remove_pair (with_codes pairs code fault) name) next last ≡ with_codes (remove_pair pairs name) next last
unfolding with_codes
without-fault pairs code fault name next last same h =
    ap (λ ps. set_pair (set_pair ps code_name next) fault_name last) (without-set (set_pair pairs code_name code) fault_name name fault same)
    ∙ ap (λ ps. set_pair ps fault_name last) (without-over pairs code_name code name next h.code)

without-seen : (pairs : Pairs) (old code : Code) (before result2 : Result2) (name : Text) → HasCodes pairs
    → shown_pairs (remove_pair (shown_pairs pairs old before) name) code result2 ≡ shown_pairs (remove_pair pairs name) code result2
unfolding shown_pairs
without-seen pairs old code before result2 name h =
    elim (cases_Bool (is_same name fault_name)) [
      | inl e ↦ without-fault pairs (signed_decimal old.0) (decimal before.0) name (signed_decimal code.0) (decimal result2.0) e h
      | inr e ↦ without-below-codes pairs (signed_decimal old.0) (decimal before.0) name (signed_decimal code.0) (decimal result2.0) e h
    ]

-- The laws.
pub answer-seen : AnswerIsSeen
answer-seen pairs old code before result2 = shown-again pairs old code before result2

pub setting-seen : SettingIsSeen
setting-seen pairs old code before result2 name value h = sym (shown-set pairs old code before result2 name value h)

pub unsetting-seen : UnsettingIsSeen
unfolding unset_pair
unsetting-seen pairs old code before result2 name h =
    without-seen pairs old code before result2 name h
    ∙ elim (cases_Bool (is_of_codes name)) [
      | inl e ↦ rw e (sym (shown-over (remove_pair pairs name) code result2 [] []))
      | inr e ↦ rw e refl
    ]

unset-keeps-codes : (pairs : Pairs) (name : Text) → HasCodes pairs → HasCodes (unset_pair pairs name)
unfolding unset_pair
unset-keeps-codes pairs name h =
    elim (cases_Bool (is_of_codes name)) [
      | inl e ↦ rw e (has-codes (remove_pair pairs name) [] [])
      | inr e ↦ rw e (let other = or_parts _ _ e in without-keeps-codes pairs name other.0 other.1 h)
    ]

pub codes-begin : CodesBegin
unfolding value_in copied_pairs
codes-begin number pairs = (record { code = refl; fault = refl }, record { code = refl; fault = refl })

pub codes-stay : CodesStay
codes-stay pairs name value h = (set-keeps-codes pairs name value h, unset-keeps-codes pairs name h)

-- the initial variables of a shell, set one after another
pub first-pairs : (number : ℕ) (p0 p1 p2 p3 : Pairs) (process value code empty fault nothing : Text)
    → p0 ≡ [] → process ≡ codes "Process" → value ≡ decimal number → p1 ≡ set_pair p0 process value
    → code ≡ code_name → empty ≡ [] → p2 ≡ set_pair p1 code empty
    → fault ≡ fault_name → nothing ≡ [] → p3 ≡ set_pair p2 fault nothing → p3 ≡ own_pairs number
unfolding set_pair
first-pairs number p0 p1 p2 p3 process value code empty fault nothing e0 e1 f1 q1 e2 f2 q2 e3 f3 q3 =
    q3 ∙ ap (λ n. set_pair p2 n nothing) e3 ∙ ap (λ v. set_pair p2 fault_name v) f3
    ∙ ap (λ p. set_pair p fault_name [])
    (q2 ∙ ap (λ n. set_pair p1 n empty) e2 ∙ ap (λ v. set_pair p1 code_name v) f2
    ∙ ap (λ p. set_pair p code_name [])
    (q1 ∙ ap (λ n. set_pair p0 n value) e1 ∙ ap (λ v. set_pair p0 (codes "Process") v) f1
    ∙ ap (λ p. set_pair p (codes "Process") (decimal number)) e0))
