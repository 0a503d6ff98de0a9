-- Words of a list that are kept, or found, as they are shown.
use Rattle.std.proofs.Common.{◌≡◌, ◌∙◌, Bool, true, false, cond, List, [], ◌∷◌, map, Bor, Option, Some, None, Result, Ok, Err, refl, sym, ap}
use Rattle.std.specs.Prelude.{◌||◌, IfOk, Vec, filter, find, option_map, vec_items}
use Rattle.std.specs.List.{list_any}
use Rattle.ados_text.specs.Text.{Bytes}

kept-first : {A B : Type 0} (b : Bool) (f : A → B) (x : A) (xs : List A) (ys : List B) → map f xs ≡ ys → map f (cond b (x ∷ xs) xs) ≡ cond b (f x ∷ ys) ys
kept-first true f x xs ys e = ap (λ l. f x ∷ l) e
kept-first false f x xs ys e = e

-- what is kept by what is shown of it
pub map-filter : {A B : Type 0} (p : B → Bool) (f : A → B) (xs : List A) → map f (filter (λ x. p (f x)) xs) ≡ filter p (map f xs)
map-filter p f [] = refl
map-filter p f (x ∷ xs) = kept-first (p (f x)) f x (filter (λ x. p (f x)) xs) (filter p (map f xs)) (map-filter p f xs)

any-map : {A B : Type 0} (p : B → Bool) (f : A → B) (xs : List A) → list_any (λ x. p (f x)) xs ≡ list_any p (map f xs)
any-map p f [] = refl
any-map p f (x ∷ xs) = ap (λ b. p (f x) || b) (any-map p f xs)

pub any_shown : (p : Bytes → Bool) (xs : List (Bor Bytes)) (result : Bool) → result ≡ list_any (λ x. p x.now) xs → result ≡ list_any p (map (λ x. x.now) xs)
any_shown p xs result e = e ∙ any-map p (λ x. x.now) xs

pub words_kept : {Z E : Type 0} (result : Result (Vec (Bor Bytes) Z) E) (p : Bytes → Bool) (xs : List (Bor Bytes)) → IfOk result (λ kept. vec_items kept ≡ filter (λ x. p x.now) xs)
    → IfOk result (λ kept. map (λ x. x.now) (vec_items kept) ≡ filter p (map (λ x. x.now) xs))
words_kept (Ok kept) p xs e = ap (map (λ x. x.now)) e ∙ map-filter p (λ x. x.now) xs
words_kept (Err why) p xs e = tt

found-first : {A B : Type 0} (b : Bool) (f : A → B) (x : A) (found : Option A) (other : Option B) → other ≡ option_map f found → cond b (Some (f x)) other ≡ option_map f (cond b (Some x) found)
found-first true f x found other e = refl
found-first false f x found other e = e

find-map : {A B : Type 0} (p : B → Bool) (f : A → B) (xs : List A) → find p (map f xs) ≡ option_map f (find (λ x. p (f x)) xs)
find-map p f [] = refl
find-map p f (x ∷ xs) = found-first (p (f x)) f x (find (λ x. p (f x)) xs) (find p (map f xs)) (find-map p f xs)

same-option : {A : Type 0} (o : Option A) → o ≡ option_map (λ x. x) o
same-option None = refl
same-option (Some x) = refl

pub find_shown : (p : Bytes → Bool) (xs : List (Bor Bytes)) (result : Option (Bor Bytes)) → option_map (λ x. x) result ≡ find (λ x. p x.now) xs
    → option_map (λ x. x.now) result ≡ find p (map (λ x. x.now) xs)
find_shown p xs result e = ap (option_map (λ x. x.now)) (same-option result ∙ e) ∙ sym (find-map p (λ x. x.now) xs)
