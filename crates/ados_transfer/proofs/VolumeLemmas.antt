-- A list of names begins with those of a directory just where the place is at or below it.
use Rattle.std.proofs.Common.{ℕ, ◌≡◌, List, [], ◌∷◌, Bool, true, false, cond, ◌&&◌, refl, Option, None}
use Rattle.std.specs.List.{starts_with}
use Rattle.std.specs.Option.{is_some}
use Rattle.ados_text.specs.Text.{is_same}
use Rattle.ados_ram.specs.Place.{Key, is_at_or_below, key_of}
use Rattle.ados_text.proofs.NameLemmas.{alike}

step : (same : Bool) (begins : Bool) (way : Option Key) → begins ≡ is_some way → (same && begins) ≡ is_some (cond same way None)
step true begins way is = is
step false begins way is = refl

pub begins_by_key : (directory place : List (List ℕ)) → starts_with is_same place directory ≡ is_at_or_below (key_of directory) (key_of place)
begins_by_key [] place = refl
begins_by_key (name ∷ names) [] = refl
begins_by_key (name ∷ names) (other ∷ others) = rw (alike name other) (step _ _ _ (begins_by_key names others))
