-- a list that is filled, item by item, with what a function gives for another list
use Rattle.std.proofs.Common.{ℕ, ◌+◌, ◌<◌, ◌≤◌, ◌≡◌, ◌∙◌, ◌++◌, ◌∷◌, [], List, length, take, map, get_or, ap, sym}
use Rattle.std.specs.Prelude.{slice_set}
use Rattle.std.proofs.lemmas.List.{take_more, take_more_set, take_all, map-append}

pub more-filled : {X Y : Type 0} (f : X → Y) (xs : List X) (ys : List Y) (i : ℕ) (x d : X) (y : Y)
    → i < length xs → i < length ys → x ≡ get_or xs i d → y ≡ f x
    → take i ys ≡ map f (take i xs) → take (i + 1) (slice_set ys i y) ≡ map f (take (i + 1) xs)
more-filled f xs ys i x d y a b e t h =
    take_more_set ys i y b ∙ ap (λ zs. zs ++ y ∷ []) h
    ∙ ap (λ z. map f (take i xs) ++ z ∷ []) (t ∙ ap f e)
    ∙ sym (ap (map f) (take_more xs i d a) ∙ map-append f (take i xs) _)

pub all-filled : {X Y : Type 0} (f : X → Y) (xs : List X) (ys : List Y) (i : ℕ) → length ys ≤ i → length xs ≤ i
    → take i ys ≡ map f (take i xs) → ys ≡ map f xs
all-filled f xs ys i a b h = sym (take_all i ys a) ∙ h ∙ ap (map f) (take_all i xs b)
