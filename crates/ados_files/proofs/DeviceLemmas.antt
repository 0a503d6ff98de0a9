-- Devices of several options.
use Rattle.std.proofs.Common.{◌≡◌, ◌∙◌, ◌++◌, List, ap}
use Rattle.std.specs.List.{flat_map}
use Rattle.std.proofs.lemmas.Grind.{flat_map-append}

pub both_texts : {X A B : Type 0} (f : A → List B) (g : X → List A) (xs ys : List X) →
    flat_map f (flat_map g (xs ++ ys)) ≡ flat_map f (flat_map g xs) ++ flat_map f (flat_map g ys)
both_texts f g xs ys = ap (flat_map f) (flat_map-append g xs ys) ∙ flat_map-append f (flat_map g xs) (flat_map g ys)
