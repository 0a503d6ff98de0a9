-- Of the lists with the same elements, those that tie in the same order, one is in order: the one that `in_order` gives.
use Rattle.std.proofs.Common.{◌≡◌, suc, Bool, true, false, not, cond, ◌&&◌, List, [], ◌∷◌, filter, length, drop, refl, sym, ap, ap₂, ◌∙◌, arith, add-one, true≢false, is_lt, Ordering}
use denote.Param.Members.{Mut}
use denote.Ref.{Bor}
use Rattle.std.specs.Fn.{Called, ComparesAs}
use Rattle.std.specs.List.{AllByRecursion}
use Rattle.std.specs.List.Sorted.{IsSortedBy, IsStableBy, ties}
use Rattle.std.specs.Cmp.{IsStrictWeakOrder, IsTotalOrder}
use Rattle.std.proofs.lemmas.Cmp.{then_total, on_total, int_cmp_total, nat_list_cmp_total}
use Rattle.std.proofs.lemmas.Fn.{always_returns_same}
use Rattle.std.proofs.lemmas.List.Sorted.{ranks_by}
use Rattle.ados_text.specs.Text.{Bytes}
use Rattle.ados_files.specs.SortOrder.{put_in_order, in_order, number_key, text_key, line_cmp, is_before}
use Rattle.ados_files.specs.declared.sort_order.SortOrder.{SortOrder}

neither : (a b : Bool) → (not a && not b) ≡ true → (a ≡ false) × (b ≡ false)
neither false false e = (refl, refl)
neither false true e = absurd (true≢false (sym e))
neither true b e = absurd (true≢false (sym e))

second_fails : (a b : Bool) → b ≡ true → (not a && not b) ≡ false
second_fails true b e = refl
second_fails false b e = rw e refl

module _ {X : Type 0} where
  exchange : (a b : Bool) (x y : X) (l : List X) → (a ≡ true → b ≡ false)
      → cond b (y ∷ cond a (x ∷ l) l) (cond a (x ∷ l) l) ≡ cond a (x ∷ cond b (y ∷ l) l) (cond b (y ∷ l) l)
  exchange true b x y l h = rw (h refl) refl
  exchange false b x y l h = refl

  without_one : (b : Bool) (x : X) (l m : List X) → cond b (x ∷ l) l ≡ cond b (x ∷ m) m → l ≡ m
  without_one true x l m e = ap (drop 1) e
  without_one false x l m e = e

  abbrev first_or : X → List X → X
  first_or d [] = d
  first_or d (x ∷ xs) = x

  all_weaker : (P Q : X → Type 0) → ((z : X) → P z → Q z) → (zs : List X) → AllByRecursion P zs → AllByRecursion Q zs
  all_weaker P Q f [] all = tt
  all_weaker P Q f (z ∷ zs) all = (f z all.0, all_weaker P Q f zs all.1)

module _ {X : Type 0} (lt : X → X → Bool) (order : IsStrictWeakOrder lt) where
  abbrev AtMost : X → X → Type 0
  AtMost a b = lt b a ≡ false

  abbrev Rises : List X → Type 0
  Rises [] = Unit {0}
  Rises (x ∷ xs) = AllByRecursion (AtMost x) xs × Rises xs

  irreflexive : (x : X) → lt x x ≡ false
  irreflexive x = go (lt x x) refl
    where
      go : (b : Bool) → lt x x ≡ b → lt x x ≡ false
      go false e = e
      go true e = order.one_way x x e

  at_most-trans : (x y z : X) → AtMost x y → AtMost y z → AtMost x z
  at_most-trans x y z p q = order.chain z y x q p

  below_all : (x : X) (ys : List X) → IsSortedBy lt (x ∷ ys) → Rises ys → AllByRecursion (AtMost x) ys
  below_all x [] sorted up = tt
  below_all x (y ∷ ys) sorted up =
      let first : AtMost x y = sorted 0 x (omega arith) (omega arith) in
      (first, all_weaker (AtMost y) (AtMost x) (λ z. at_most-trans x y z first) ys up.0)

  rises : (xs : List X) → IsSortedBy lt xs → Rises xs
  rises [] sorted = tt
  rises (x ∷ xs) sorted =
      let tail : IsSortedBy lt xs = λ k d p q. rw add-one (rw add-one at (sorted (suc k) d (omega arith) (omega arith))) in
      let up = rises xs tail in
      (below_all x xs sorted up, up)

  all-put : (P : X → Type 0) (x : X) (ys : List X) → P x → AllByRecursion P ys → AllByRecursion P (put_in_order lt x ys)
  all-put P x [] h all = (h, tt)
  all-put P x (y ∷ ys) h all =
      elim (lt y x) as (λ b. AllByRecursion P (cond b (y ∷ put_in_order lt x ys) (x ∷ y ∷ ys))) [ true ↦ (all.0, all-put P x ys h all.1) | false ↦ (h, all) ]

  rises-put : (x : X) (ys : List X) → Rises ys → Rises (put_in_order lt x ys)
  rises-put x [] up = (tt, tt)
  rises-put x (y ∷ ys) up = go (lt y x) refl (rises-put x ys up.1)
    where
      go : (b : Bool) → lt y x ≡ b → Rises (put_in_order lt x ys) → Rises (cond b (y ∷ put_in_order lt x ys) (x ∷ y ∷ ys))
      go true e more = (all-put (AtMost y) x ys (order.one_way y x e) up.0, more)
      go false e more = ((e, all_weaker (AtMost y) (AtMost x) (λ z. at_most-trans x y z e) ys up.0), up)

  rises-in_order : (xs : List X) → Rises (in_order lt xs)
  rises-in_order [] = tt
  rises-in_order (x ∷ xs) = rises-put x _ (rises-in_order xs)

  -- what comes before x ties with nothing that ties with x
  apart : (w x y : X) → lt y x ≡ true → ties lt w x ≡ true → ties lt w y ≡ false
  apart w x y before tie = go (lt y w) refl
    where
      go : (b : Bool) → lt y w ≡ b → ties lt w y ≡ false
      go true e = second_fails (lt w y) (lt y w) e
      go false e = absurd (true≢false (sym before ∙ order.chain y w x e (neither (lt w x) (lt x w) tie).0))

  keeps-put : (w x : X) (ys : List X) → filter (ties lt w) (put_in_order lt x ys) ≡ filter (ties lt w) (x ∷ ys)
  keeps-put w x [] = refl
  keeps-put w x (y ∷ ys) = go (lt y x) refl (keeps-put w x ys)
    where
      go : (b : Bool) → lt y x ≡ b → filter (ties lt w) (put_in_order lt x ys) ≡ filter (ties lt w) (x ∷ ys)
          → filter (ties lt w) (cond b (y ∷ put_in_order lt x ys) (x ∷ y ∷ ys)) ≡ filter (ties lt w) (x ∷ y ∷ ys)
      go false e more = refl
      go true e more =
          ap (λ l. cond (ties lt w y) (y ∷ l) l) more ∙ exchange (ties lt w x) (ties lt w y) x y (filter (ties lt w) ys) (apart w x y e)

  keeps-in_order : (w : X) (xs : List X) → filter (ties lt w) (in_order lt xs) ≡ filter (ties lt w) xs
  keeps-in_order w [] = refl
  keeps-in_order w (x ∷ xs) = keeps-put w x (in_order lt xs) ∙ ap (λ l. cond (ties lt w x) (x ∷ l) l) (keeps-in_order w xs)

  tied_first : (x : X) (xs : List X) → filter (ties lt x) (x ∷ xs) ≡ x ∷ filter (ties lt x) xs
  tied_first x xs = rw (irreflexive x) refl

  not_tied : (y z w : X) → lt y z ≡ true → AtMost z w → ties lt y w ≡ false
  not_tied y z w e h = go (lt y w) refl
    where
      go : (b : Bool) → lt y w ≡ b → ties lt y w ≡ false
      go true f = rw f refl
      go false f = absurd (true≢false (sym e ∙ order.chain y w z f h))

  none_tied : (y z : X) (ws : List X) → lt y z ≡ true → AllByRecursion (AtMost z) ws → filter (ties lt y) ws ≡ []
  none_tied y z [] e all = refl
  none_tied y z (w ∷ ws) e all = rw (not_tied y z w e all.0) (none_tied y z ws e all.1)

  -- the first of a list is not behind that of another one with the same elements
  not_before : (y z : X) (ys zs : List X) → AllByRecursion (AtMost z) zs → filter (ties lt y) (y ∷ ys) ≡ filter (ties lt y) (z ∷ zs) → lt y z ≡ false
  not_before y z ys zs up same = go (lt y z) refl
    where
      go : (b : Bool) → lt y z ≡ b → lt y z ≡ false
      go false e = e
      go true e =
          let none : y ∷ filter (ties lt y) ys ≡ [] = sym (tied_first y ys) ∙ same ∙ none_tied y z (z ∷ zs) e (irreflexive z, up) in
          absurd (omega (arith, ap length none))

  unique : (ys zs : List X) → Rises ys → Rises zs → ((w : X) → filter (ties lt w) ys ≡ filter (ties lt w) zs) → ys ≡ zs
  unique [] [] up vp same = refl
  unique [] (z ∷ zs) up vp same = absurd (omega (arith, ap length (same z ∙ tied_first z zs)))
  unique (y ∷ ys) [] up vp same = absurd (omega (arith, ap length (sym (same y) ∙ tied_first y ys)))
  unique (y ∷ ys) (z ∷ zs) up vp same =
      let p : lt y z ≡ false = not_before y z ys zs vp.0 (same y) in
      let q : lt z y ≡ false = not_before z y zs ys up.0 (sym (same z)) in
      let tied : filter (ties lt y) (z ∷ zs) ≡ z ∷ filter (ties lt y) zs = rw (p, q) refl in
      let head : y ≡ z = ap (first_or y) (sym (tied_first y ys) ∙ same y ∙ tied) in
      let tails : (w : X) → filter (ties lt w) ys ≡ filter (ties lt w) zs =
      λ w. without_one (ties lt w y) y (filter (ties lt w) ys) (filter (ties lt w) zs) (same w ∙ ap (λ x. filter (ties lt w) (x ∷ zs)) (sym head)) in
      ap₂ (λ x l. x ∷ l) head (unique ys zs up.1 vp.1 tails)

  -- what a stable sort gives
  pub sorted_is : (xs ys : List X) → IsSortedBy lt ys → IsStableBy lt xs ys → ys ≡ in_order lt xs
  sorted_is xs ys sorted stable = unique ys (in_order lt xs) (rises ys sorted) (rises-in_order xs) (λ w. stable w ∙ sym (keeps-in_order w xs))

lines_total : (order : SortOrder) → IsTotalOrder (line_cmp order)
lines_total order = then_total (on_total (number_key order) int_cmp_total) (on_total (text_key order) nat_list_cmp_total)

pub is_before-weak : (order : SortOrder) → IsStrictWeakOrder (is_before order)
is_before-weak order = ranks_by (lines_total order) (λ (line : Bytes). line)

-- a closure that answers by the order compares as it does
pub compares_as : {F : Type 0} {g : Mut F (Bor Bytes × (Bor Bytes × Unit {0})) Ordering} {f : F} (order : SortOrder)
    → ((a : Bor Bytes × (Bor Bytes × Unit {0})) (r : Ordering) (f' : F) → Called g f a r f' → (r ≡ line_cmp order a.0.now a.1.0.now) × (f' ≡ f))
    → ComparesAs g (is_before order) f
compares_as {g = g} {f = f} order h =
    always_returns_same g (λ a r. is_lt r ≡ is_before order a.0.now a.1.0.now) f (λ a r f' k. (ap is_lt (h a r f' k).0, (h a r f' k).1))
