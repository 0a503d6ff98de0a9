-- what a list stands for in segments, item by item
use Rattle.std.proofs.Common.{◌≡◌, ◌∙◌, ℕ, zero, suc, ◌+◌, ◌-◌, ◌<◌, List, ◌∷◌, ◌++◌, length, drop, get_or, sym, ap, arith, append_assoc}
use Rattle.std.proofs.lemmas.List.{drop_more}
use Rattle.ados_text.specs.Text.{Text}
use Rattle.ados_items.specs.Segments.{joined}

passed : {A S : Type 0} (first : A → List A → S) (further : S → ℕ) (text : S → Text) (taken : ℕ) (x : A) (xs : List A) → 0 < taken
    → joined first further text taken (x ∷ xs) ≡ joined first further text (taken - 1) xs
passed first further text zero x xs h = absurd (omega arith)
passed first further text (suc taken) x xs h =
    let one : taken ≡ suc taken - 1 = omega arith in
    ap (λ n. joined first further text n xs) one

-- an item that belongs to the segment before
pub taken-one : {A S : Type 0} (first : A → List A → S) (further : S → ℕ) (text : S → Text) (whole put : Text) (taken place : ℕ) (list : List A) (d : A)
    → 0 < taken → place < length list → whole ≡ put ++ joined first further text taken (drop place list)
    → whole ≡ put ++ joined first further text (taken - 1) (drop (place + 1) list)
taken-one first further text whole put taken place list d h lt e =
    e ∙ ap (λ l. put ++ joined first further text taken l) (drop_more list place d lt)
    ∙ ap (λ l. put ++ l) (passed first further text taken (get_or list place d) (drop (place + 1) list) h)

-- an item with which a segment begins
pub segment-put : {A S : Type 0} (first : A → List A → S) (further : S → ℕ) (text : S → Text) (whole put new : Text) (taken count place : ℕ) (list rest : List A) (d : A)
    → place < length list → rest ≡ drop (place + 1) list → taken ≡ 0 → whole ≡ put ++ joined first further text taken (drop place list)
    → count ≡ further (first (get_or list place d) rest) → new ≡ put ++ text (first (get_or list place d) rest)
    → whole ≡ new ++ joined first further text count (drop (place + 1) list)
segment-put first further text whole put new taken count place list rest d lt same none e f g =
    let s = first (get_or list place d) rest in
    e ∙ ap (λ n. put ++ joined first further text n (drop place list)) none
    ∙ ap (λ l. put ++ joined first further text 0 l) (drop_more list place d lt)
    ∙ ap (λ l. put ++ joined first further text 0 (get_or list place d ∷ l)) (sym same)
    ∙ sym (append_assoc put (text s) (joined first further text (further s) rest))
    ∙ ap (λ l. l ++ joined first further text (further s) rest) (sym g)
    ∙ ap (λ n. new ++ joined first further text n rest) (sym f)
    ∙ ap (λ l. new ++ joined first further text count l) same
