-- names that are set, removed and looked up, one after another
use Rattle.std.proofs.Common.{◌≡◌, ◌∙◌, [], ◌∷◌, Bool, true, false, Some, IsSome, ap, sym, refl, subst, cond}
use Rattle.std.proofs.lemmas.Cmp.{on_equiv, nat_list_eq_equiv}
use Rattle.std.specs.Map.{lookup, lookup_key, remove_entry}
use Rattle.indexmap.specs.IndexMap.{insert_entry}
use Rattle.ados_text.specs.Text.{Text, folded_text, is_same}
use Rattle.ados_vars.specs.Vars.{Pairs, set_pair, value_in, first_spelling, remove_pair}

-- the same with the definitions of the map
pub insert_entry-is : (pairs : Pairs) (name value : Text) → insert_entry is_same pairs name value ≡ set_pair pairs name value
unfolding set_pair
insert_entry-is [] name value = refl
insert_entry-is (p ∷ ps) name value = ap (λ rest. cond (is_same name p.0) ((p.0, value) ∷ ps) (p ∷ rest)) (insert_entry-is ps name value)

pub lookup-is : (pairs : Pairs) (name : Text) → lookup (is_same name) pairs ≡ value_in pairs name
unfolding value_in
lookup-is [] name = refl
lookup-is (p ∷ ps) name = ap (cond (is_same name p.0) _) (lookup-is ps name)

pub lookup_key-is : (pairs : Pairs) (name : Text) → lookup_key (is_same name) pairs ≡ first_spelling pairs name
unfolding first_spelling
lookup_key-is [] name = refl
lookup_key-is (p ∷ ps) name = ap (cond (is_same name p.0) _) (lookup_key-is ps name)

pub remove_entry-is : (pairs : Pairs) (name : Text) → remove_entry (is_same name) pairs ≡ remove_pair pairs name
unfolding remove_pair
remove_entry-is [] name = refl
remove_entry-is (p ∷ ps) name = ap (λ rest. cond (is_same name p.0) ps (p ∷ rest)) (remove_entry-is ps name)

-- two texts that are the same name match the same texts
same-name : (name : Text) → is_same name name ≡ true
same-name name = (on_equiv folded_text nat_list_eq_equiv).refl name

same-by : (a b c : Text) → is_same a b ≡ true → is_same c b ≡ is_same c a
same-by a b c e =
    let laws = on_equiv folded_text nat_list_eq_equiv in
    laws.symm c b ∙ sym (laws.congr a b c e) ∙ laws.symm a c

apart-by : (a b c : Text) → is_same a b ≡ true → is_same c b ≡ false → is_same a c ≡ false
apart-by a b c e f = (on_equiv folded_text nat_list_eq_equiv).symm a c ∙ sym (same-by a b c e) ∙ f

true-false : true ≡ false → ⊥
true-false e = cc

-- a value after one is set
pub value-set : (pairs : Pairs) (name value other : Text)
    → value_in (set_pair pairs name value) other ≡ cond (is_same other name) (Some value) (value_in pairs other)
unfolding value_in set_pair
value-set [] name value other = refl
value-set (p ∷ ps) name value other = by (is_same name p.0) (is_same other p.0) refl refl (value-set ps name value other)
  where
    by : (b d : Bool) → is_same name p.0 ≡ b → is_same other p.0 ≡ d
        → value_in (set_pair ps name value) other ≡ cond (is_same other name) (Some value) (value_in ps other)
        → value_in (set_pair (p ∷ ps) name value) other ≡ cond (is_same other name) (Some value) (value_in (p ∷ ps) other)
    by true true e f rest = let g : is_same other name ≡ true = sym (same-by name p.0 other e) ∙ f in simp (e, f, g) refl
    by true false e f rest = let g : is_same other name ≡ false = sym (same-by name p.0 other e) ∙ f in simp (e, f, g) refl
    by false true e f rest = let g : is_same other name ≡ false = apart-by other p.0 name f e in simp (e, f, g) refl
    by false false e f rest = simp (e, f) rest

-- and after another is removed
pub value-without : (pairs : Pairs) (name other : Text) → is_same name other ≡ false → value_in (remove_pair pairs name) other ≡ value_in pairs other
unfolding value_in remove_pair
value-without [] name other apart = refl
value-without (p ∷ ps) name other apart = by (is_same name p.0) (is_same other p.0) refl refl (value-without ps name other apart)
  where
    by : (b d : Bool) → is_same name p.0 ≡ b → is_same other p.0 ≡ d → value_in (remove_pair ps name) other ≡ value_in ps other
        → value_in (remove_pair (p ∷ ps) name) other ≡ value_in (p ∷ ps) other
    by true true e f rest = let g : is_same name other ≡ true = sym (same-by other p.0 name f) ∙ e in absurd (true-false (sym g ∙ apart))
    by true false e f rest = simp (e, f) refl
    by false true e f rest = simp (e, f) refl
    by false false e f rest = simp (e, f) rest

-- a name that was set has a value, and another keeps its own
pub set-there : (pairs : Pairs) (name value : Text) → IsSome (value_in (set_pair pairs name value) name)
set-there pairs name value = rw (value-set pairs name value name, same-name name) refl

pub set-keeps : (pairs : Pairs) (name value other : Text) → IsSome (value_in pairs other) → IsSome (value_in (set_pair pairs name value) other)
set-keeps pairs name value other there = rw (value-set pairs name value other) (by (is_same other name))
  where
    by : (b : Bool) → IsSome (cond b (Some value) (value_in pairs other))
    by true = refl
    by false = there

-- of two values that are set for a name the second one stays
pub set-again : (pairs : Pairs) (name value other : Text) → set_pair (set_pair pairs name value) name other ≡ set_pair pairs name other
unfolding set_pair
set-again [] name value other = rw (same-name name) refl
set-again (p ∷ ps) name value other = by (is_same name p.0) refl (set-again ps name value other)
  where
    by : (b : Bool) → is_same name p.0 ≡ b → set_pair (set_pair ps name value) name other ≡ set_pair ps name other
        → set_pair (set_pair (p ∷ ps) name value) name other ≡ set_pair (p ∷ ps) name other
    by true e rest = simp e refl
    by false e rest = simp e (ap (λ l. p ∷ l) rest)

-- setting an existing name and setting another may be swapped
pub set-swaps : (pairs : Pairs) (name value other more : Text) → IsSome (value_in pairs name) → is_same name other ≡ false
    → set_pair (set_pair pairs other more) name value ≡ set_pair (set_pair pairs name value) other more
unfolding set_pair value_in
set-swaps [] name value other more there apart = cc
set-swaps (p ∷ ps) name value other more there apart = by (is_same name p.0) (is_same other p.0) refl refl (λ h. set-swaps ps name value other more h apart)
  where
    by : (b d : Bool) → is_same name p.0 ≡ b → is_same other p.0 ≡ d
        → (IsSome (value_in ps name) → set_pair (set_pair ps other more) name value ≡ set_pair (set_pair ps name value) other more)
        → set_pair (set_pair (p ∷ ps) other more) name value ≡ set_pair (set_pair (p ∷ ps) name value) other more
    by true true e f rest = let g : is_same name other ≡ true = sym (same-by other p.0 name f) ∙ e in absurd (true-false (sym g ∙ apart))
    by true false e f rest = simp (e, f) refl
    by false true e f rest = simp (e, f) refl
    by false false e f rest = simp (e, f) (ap (λ l. p ∷ l) (rest (subst (λ it. IsSome (cond it (Some p.1) (value_in ps name))) e there)))

-- if an existing name is set last, its value before does not matter: not before another is set,
pub set-over : (pairs : Pairs) (own old name value new : Text) → IsSome (value_in pairs own)
    → set_pair (set_pair (set_pair pairs own old) name value) own new ≡ set_pair (set_pair pairs name value) own new
unfolding set_pair value_in
set-over [] own old name value new there = cc
set-over (p ∷ ps) own old name value new there = by (is_same own p.0) (is_same name p.0) refl refl (λ h. set-over ps own old name value new h)
  where
    by : (b d : Bool) → is_same own p.0 ≡ b → is_same name p.0 ≡ d
        → (IsSome (value_in ps own) → set_pair (set_pair (set_pair ps own old) name value) own new ≡ set_pair (set_pair ps name value) own new)
        → set_pair (set_pair (set_pair (p ∷ ps) own old) name value) own new ≡ set_pair (set_pair (p ∷ ps) name value) own new
    by true true e f rest = simp (e, f) refl
    by true false e f rest = simp (e, f) refl
    by false true e f rest = simp (e, f) (ap (λ l. (p.0, value) ∷ l) (set-again ps own old new))
    by false false e f rest = simp (e, f) (ap (λ l. p ∷ l) (rest (subst (λ it. IsSome (cond it (Some p.1) (value_in ps own))) e there)))

-- nor before one is removed
pub without-over : (pairs : Pairs) (own old name new : Text) → IsSome (value_in pairs own)
    → set_pair (remove_pair (set_pair pairs own old) name) own new ≡ set_pair (remove_pair pairs name) own new
unfolding set_pair value_in remove_pair
without-over [] own old name new there = cc
without-over (p ∷ ps) own old name new there = by (is_same own p.0) (is_same name p.0) refl refl (λ h. without-over ps own old name new h)
  where
    by : (b d : Bool) → is_same own p.0 ≡ b → is_same name p.0 ≡ d
        → (IsSome (value_in ps own) → set_pair (remove_pair (set_pair ps own old) name) own new ≡ set_pair (remove_pair ps name) own new)
        → set_pair (remove_pair (set_pair (p ∷ ps) own old) name) own new ≡ set_pair (remove_pair (p ∷ ps) name) own new
    by true true e f rest = simp (e, f) refl
    by true false e f rest = simp (e, f) refl
    by false true e f rest = simp (e, f) (set-again ps own old new)
    by false false e f rest = simp (e, f) (ap (λ l. p ∷ l) (rest (subst (λ it. IsSome (cond it (Some p.1) (value_in ps own))) e there)))

-- a value that was set is removed with its name
pub without-set : (pairs : Pairs) (own name value : Text) → is_same name own ≡ true → remove_pair (set_pair pairs own value) name ≡ remove_pair pairs name
unfolding set_pair remove_pair
without-set [] own name value same = simp same refl
without-set (p ∷ ps) own name value same =
    by (is_same own p.0) refl ((on_equiv folded_text nat_list_eq_equiv).congr name own p.0 same) (without-set ps own name value same)
  where
    by : (b : Bool) → is_same own p.0 ≡ b → is_same name p.0 ≡ is_same own p.0 → remove_pair (set_pair ps own value) name ≡ remove_pair ps name
        → remove_pair (set_pair (p ∷ ps) own value) name ≡ remove_pair (p ∷ ps) name
    by true e f rest = let g : is_same name p.0 ≡ true = f ∙ e in simp (e, g) refl
    by false e f rest = let g : is_same name p.0 ≡ false = f ∙ e in simp (e, g) (ap (λ l. p ∷ l) rest)
