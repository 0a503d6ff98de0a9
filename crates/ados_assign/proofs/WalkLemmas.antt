-- A step down in the files: the entries below a place are those that the map has there.
use Rattle.std.proofs.Common.{◌≡◌, ◌∙◌, [], ◌∷◌, ◌++◌, ap, sym}
use Rattle.std.proofs.lemmas.List.{map-append}
use Rattle.std.specs.FinMap as map
use Rattle.std.specs.FinMap.{get-entries}
use Rattle.ados_text.specs.Text.{folded_text}
use Rattle.ados_text.specs.Name.{Name}
use Rattle.ados_ram.specs.Place.{Key, Place, key_of, place_cmp}
use Rattle.ados_ram.specs.Files.{Files, Rows}
use Rattle.ados_ram.specs.Tree.{subtree_rows}
use Rattle.ados_ram.proofs.TreeLemmas.{find-here, from-further}

pub gone_down : (files : Files) (from : Place) (name : Name) (at here : Rows) → at ≡ subtree_rows (key_of from) (map.entries files) → here ≡ subtree_rows (folded_text name ∷ []) at → here ≡ subtree_rows (key_of (from ++ name ∷ [])) (map.entries files)
gone_down files from name at here a h =
    h ∙ ap (subtree_rows (folded_text name ∷ [])) a ∙ from-further (key_of from) (folded_text name ∷ []) (map.entries files) ∙ ap (λ (k : Key). subtree_rows k (map.entries files)) (sym (map-append folded_text from (name ∷ [])))

pub found_there : (files : Files) (key : Key) (here : Rows) → here ≡ subtree_rows key (map.entries files) → map.find place_cmp [] here ≡ map.get files key
found_there files key here h = find-here key (map.entries files) here h ∙ sym (get-entries files key)
