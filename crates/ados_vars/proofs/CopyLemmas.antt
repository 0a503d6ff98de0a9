-- The variables that are copied from another shell come after a shell's own.
use Rattle.std.proofs.Common.{◌≡◌, ◌∙◌, ℕ, [], ◌∷◌, ◌++◌, Bool, true, false, not, ◌||◌, Some, None, ap, sym, refl, subst, cond, append-nil, append_assoc}
use Rattle.std.proofs.lemmas.Cmp.{on_equiv, nat_list_eq_equiv}
use Rattle.std.specs.List.{AllByRecursion, IsDistinct, filter}
use Rattle.std.specs.Map.{keys_of}
use Rattle.ados_text.specs.Text.{Text, folded_text, is_same}
use Rattle.ados_vars.specs.Vars.{Pairs, AreDistinct, set_pair, set_all, value_in}
use Rattle.ados_vars.specs.Locals.{process_name, code_name, fault_name, own_pairs, is_other, copied_pairs}
use Rattle.ados_vars.proofs.VarsLemmas.{value-set}

-- a name that does not exist goes last
set-new : (pairs : Pairs) (name value : Text) → value_in pairs name ≡ None → set_pair pairs name value ≡ pairs ++ (name, value) ∷ []
unfolding set_pair value_in
set-new [] name value e = refl
set-new (p ∷ ps) name value e = by (is_same name p.0) refl (λ f. set-new ps name value f)
  where
    by : (b : Bool) → is_same name p.0 ≡ b → (value_in ps name ≡ None → set_pair ps name value ≡ ps ++ (name, value) ∷ [])
        → set_pair (p ∷ ps) name value ≡ p ∷ (ps ++ (name, value) ∷ [])
    by true f rest = let there : Some p.1 ≡ None = subst (λ b. cond b (Some p.1) (value_in ps name) ≡ None) f e in cc
    by false f rest = simp f (ap (λ l. p ∷ l) (rest (subst (λ b. cond b (Some p.1) (value_in ps name) ≡ None) f e)))

-- if the pair is copied, its name does not exist yet
abbrev IsNew : Pairs → Text × Text → Type 0
IsNew pairs p = is_other p ≡ true → value_in pairs p.0 ≡ None

-- after one more pair is set, names other than its own are as new as before
still-new : (pairs : Pairs) (p : Text × Text) (ps : Pairs) → AllByRecursion (λ name. is_same p.0 name ≡ false) (keys_of ps)
    → AllByRecursion (IsNew pairs) ps → AllByRecursion (IsNew (set_pair pairs p.0 p.1)) ps
still-new pairs p [] apart new = tt
still-new pairs p (q ∷ qs) apart new = (
  (λ other. value-set pairs p.0 p.1 q.0
      ∙ ap (λ b. cond b (Some p.1) (value_in pairs q.0)) ((on_equiv folded_text nat_list_eq_equiv).symm q.0 p.0 ∙ apart.0) ∙ new.0 other),
  still-new pairs p qs apart.1 new.1,
)

all-after : (pairs ps : Pairs) → AreDistinct ps → AllByRecursion (IsNew pairs) ps
    → set_all pairs (filter is_other ps) ≡ pairs ++ filter is_other ps
unfolding IsDistinct
all-after pairs [] distinct new = sym (append-nil pairs)
all-after pairs (p ∷ ps) distinct new =
    by (is_other p) refl (all-after pairs ps distinct.1 new.1)
    (all-after (set_pair pairs p.0 p.1) ps distinct.1 (still-new pairs p ps distinct.0 new.1))
  where
    by : (b : Bool) → is_other p ≡ b → set_all pairs (filter is_other ps) ≡ pairs ++ filter is_other ps
        → set_all (set_pair pairs p.0 p.1) (filter is_other ps) ≡ set_pair pairs p.0 p.1 ++ filter is_other ps
        → set_all pairs (filter is_other (p ∷ ps)) ≡ pairs ++ filter is_other (p ∷ ps)
    by true e without after = simp e (after ∙ ap (λ l. l ++ filter is_other ps) (set-new pairs p.0 p.1 (new.0 e)) ∙ append_assoc pairs (p ∷ []) (filter is_other ps))
    by false e without after = simp e without

-- a name that is not one of a shell's own is none of these
none-of : (a b c : Bool) (x y z : Text) → not (a || (b || c)) ≡ true → cond a (Some x) (cond b (Some y) (cond c (Some z) None)) ≡ None
none-of true b c x y z e = cc
none-of false true c x y z e = cc
none-of false false true x y z e = cc
none-of false false false x y z e = refl

others-new : (number : ℕ) (ps : Pairs) → AllByRecursion (IsNew (own_pairs number)) ps
unfolding value_in
others-new number [] = tt
others-new number (p ∷ ps) =
    ((λ other. none-of (is_same p.0 process_name) (is_same p.0 code_name) (is_same p.0 fault_name) _ _ _ other), others-new number ps)

pub copied : (number : ℕ) (pairs : Pairs) → AreDistinct pairs → set_all (own_pairs number) (filter is_other pairs) ≡ copied_pairs number pairs
unfolding copied_pairs
copied number pairs distinct = all-after (own_pairs number) pairs distinct (others-new number pairs)
