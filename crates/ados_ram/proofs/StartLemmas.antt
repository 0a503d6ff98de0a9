-- Whether bytes that come in parts begin with others.
use Rattle.std.proofs.Common.{◌≡◌, ℕ, suc, ◌<◌, ◌≤◌, Bool, true, false, cond, nat_eq, ◌&&◌, List, [], ◌∷◌, ◌++◌, length, take, drop, Option, Some, None, Bor, ◌+◌, refl, sym, ap, ◌∙◌, arith}
use Rattle.std.specs.List.{concat, starts_with}
use Rattle.std.specs.Option.{option_copied, MatchOption}
use Rattle.std.specs.Cmp.Lexicographic.{pointwise}
use Rattle.std.specs.Str.{bytes_eq}
use Rattle.std.proofs.Math.Seq.{drop-cons}
use Rattle.std.proofs.Math.ListN.{get_or}
use Rattle.std.proofs.lemmas.Bool.Decides.{Decides-eqb}
use Rattle.ados_ram.proofs.CutLemmas.{same_test}
use Rattle.ados_ram.specs.Starts.{left_of, left_then, is_all}

pub left-nothing : (xs : List ℕ) → left_of xs [] ≡ Some []
left-nothing [] = refl
left-nothing (x ∷ xs) = refl

pub left-append : (xs ys ws : List ℕ) → left_of (xs ++ ys) ws ≡ left_then (left_of xs ws) ys
left-append [] ys ws = refl
left-append (x ∷ xs) ys [] = sym (left-nothing ys)
left-append (x ∷ xs) ys (w ∷ ws) =
    elim (nat_eq w x) as (λ b. cond b (left_of (xs ++ ys) ws) None ≡ left_then (cond b (left_of xs ws) None) ys) [
      | true ↦ left-append xs ys ws
      | false ↦ refl
    ]

pub starts-left : (xs ws : List ℕ) → starts_with nat_eq xs ws ≡ is_all (left_of xs ws)
starts-left [] [] = refl
starts-left (x ∷ xs) [] = refl
starts-left [] (w ∷ ws) = refl
starts-left (x ∷ xs) (w ∷ ws) = elim (nat_eq w x) as (λ b. (b && starts_with nat_eq xs ws) ≡ is_all (cond b (left_of xs ws) None)) [
  | true ↦ starts-left xs ws
  | false ↦ refl
]

-- the bytes that are there are fewer than those that are wanted, or as many
pub left-behind : (xs ws : List ℕ) → length xs ≤ length ws → left_of xs ws ≡ cond (pointwise nat_eq (take (length xs) ws) xs) (Some (drop (length xs) ws)) None
left-behind [] ws h = refl
left-behind (x ∷ xs) [] h = absurd (omega (arith, h))
left-behind (x ∷ xs) (w ∷ ws) h = elim (nat_eq w x) as (λ b. cond b (left_of xs ws) None ≡ cond (b && pointwise nat_eq (take (length xs) ws) xs) (Some (drop (length xs) ws)) None) [
  | true ↦ left-behind xs ws (omega (arith, h))
  | false ↦ refl
]

-- they are as many, or more
pub left-none : (xs ws : List ℕ) → length ws ≤ length xs → left_of xs ws ≡ cond (starts_with nat_eq xs ws) (Some []) None
left-none [] [] h = refl
left-none (x ∷ xs) [] h = refl
left-none [] (w ∷ ws) h = absurd (omega (arith, h))
left-none (x ∷ xs) (w ∷ ws) h = elim (nat_eq w x) as (λ b. cond b (left_of xs ws) None ≡ cond (b && starts_with nat_eq xs ws) (Some []) None) [
  | true ↦ left-none xs ws (omega (arith, h))
  | false ↦ refl
]

pub stripped : (r : Option (Bor (List ℕ))) (xs ws : List ℕ) → length xs ≤ length ws → MatchOption r (pointwise nat_eq (take (length xs) ws) xs ≡ false) (λ x. (pointwise nat_eq (take (length xs) ws) xs ≡ true) × (x.now ≡ drop (length xs) ws) × (length x.now + length xs ≡ length ws)) →
    option_copied r ≡ left_of xs ws
stripped None xs ws h m = sym (left-behind xs ws h ∙ ap (λ (b : Bool). cond b (Some (drop (length xs) ws)) None) m)
stripped (Some x) xs ws h m = ap Some m.1 ∙ sym (left-behind xs ws h ∙ ap (λ (b : Bool). cond b (Some (drop (length xs) ws)) None) m.0)

pub begun : (r : Bool) (xs ws : List ℕ) → length ws ≤ length xs → r ≡ starts_with nat_eq xs ws → cond r (Some []) None ≡ left_of xs ws
begun r xs ws h e = sym (left-none xs ws h ∙ ap (λ (b : Bool). cond b (Some []) None) (sym e))

-- one more part is there
pub left-step : (p : List ℕ) (ps : List (List ℕ)) (ws rest : List ℕ) (whole : Option (List ℕ)) → left_of (p ++ concat ps) ws ≡ whole → Some rest ≡ left_of p ws → left_of (concat ps) rest ≡ whole
left-step p ps ws rest whole e h = ap (λ (o : Option (List ℕ)). left_then o (concat ps)) h ∙ sym (left-append p (concat ps) ws) ∙ e

pub left-fails : (p : List ℕ) (ps : List (List ℕ)) (ws : List ℕ) (whole : Option (List ℕ)) → left_of (p ++ concat ps) ws ≡ whole → None ≡ left_of p ws → None ≡ whole
left-fails p ps ws whole e h = ap (λ (o : Option (List ℕ)). left_then o (concat ps)) h ∙ sym (left-append p (concat ps) ws) ∙ e

-- whether nothing is left, as a test
pub found : (o : Option (List ℕ)) (xs bytes ws : List ℕ) → xs ≡ bytes → o ≡ left_of xs ws → is_all o ≡ starts_with nat_eq bytes ws
found o xs bytes ws e h = ap is_all h ∙ sym (starts-left xs ws) ∙ ap (λ (t : List ℕ). starts_with nat_eq t ws) e

pub none-left : (rest : List ℕ) → nat_eq (length rest) 0 ≡ is_all (Some rest)
none-left [] = refl
none-left (x ∷ rest) = grind arith

turned : (x w : ℕ) → nat_eq x w ≡ nat_eq w x
turned x w = same_test (x ≡ w) (w ≡ x) _ _ (Decides-eqb x w) (Decides-eqb w x) sym sym

-- bytes that begin with as many others are the same
pub whole : (xs ws : List ℕ) → length xs ≡ length ws → starts_with nat_eq xs ws ≡ bytes_eq xs ws
whole [] [] h = refl
whole [] (w ∷ ws) h = absurd (omega (arith, h))
whole (x ∷ xs) [] h = absurd (omega (arith, h))
whole (x ∷ xs) (w ∷ ws) h = ap (λ (b : Bool). b && starts_with nat_eq xs ws) (turned w x) ∙ ap (λ (b : Bool). nat_eq x w && b) (whole xs ws (omega (arith, h)))

-- the parts from an index on
pub drop-at : (l : List (List ℕ)) (i : ℕ) (p : List ℕ) → i < length l → p ≡ get_or l i p → drop i l ≡ p ∷ drop (i + 1) l
drop-at l i p h e =
    let next : suc i ≡ i + 1 = omega arith in
    drop-cons l i p h ∙ ap (λ (q : List ℕ). q ∷ drop (suc i) l) (sym e) ∙ ap (λ (j : ℕ). p ∷ drop j l) next
