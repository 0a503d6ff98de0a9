-- Names as they are written: the names after the first are looked up in the object of the first name.
use Rattle.std.proofs.Common.{◌≡◌, ℕ, T, IsTrue, List, [], ◌∷◌, ◌++◌, Option, Some, refl, sym, ap, ◌∙◌}
use Rattle.std.proofs.lemmas.List.{map-append}
use Rattle.std.specs.FinMap as map
use Rattle.std.specs.FinMap.{is_sorted, find}
use Rattle.ados_text.specs.Text.{folded_text}
use Rattle.ados_text.specs.Name.{name_cmp}
use Rattle.ados_ram.specs.declared.entries.Entry.{Entry}
use Rattle.ados_ram.specs.Place.{Key, Place, key_of, place_cmp}
use Rattle.ados_ram.specs.Files.{Files, Rows}
use Rattle.ados_ram.specs.Written.{written_name, written_names}
use Rattle.ados_ram.specs.Tree.{Kids, rows_of, rows_found, rows_written}
use Rattle.ados_ram.proofs.RowsLemmas.{holds, get_rows}
use Rattle.ados_ram.proofs.ChangeLemmas.{find-flatten}

written_in : (entry : Entry) (x : List ℕ) (ks : Kids) (place : Key) (rest : Place) → T (is_sorted name_cmp ks) → rows_written (rows_of entry ks) (x ∷ place) rest ≡ rows_written (rows_found (find name_cmp x ks)) place rest
written_in entry x ks place [] s = refl
written_in entry x ks place (n ∷ rest) s =
    ap (λ (o : Option Entry). written_name o n ∷ rows_written (rows_of entry ks) (x ∷ (place ++ folded_text n ∷ [])) rest) (find-flatten x (place ++ folded_text n ∷ []) ks s)
    ∙ ap (λ (r : Place). written_name (find place_cmp (place ++ folded_text n ∷ []) (rows_found (find name_cmp x ks))) n ∷ r) (written_in entry x ks (place ++ folded_text n ∷ []) rest s)

-- the first name, and then those in its object
written_here : (entry : Entry) (n : List ℕ) (ks : Kids) (rows r : Rows) (rest names : Place) → rows_of entry ks ≡ rows → IsTrue (is_sorted name_cmp ks) → names ≡ n ∷ rest → r ≡ rows_found (find name_cmp (folded_text n) ks)
    → rows_written rows [] names ≡ written_name (find place_cmp [] r) n ∷ rows_written r [] rest
written_here entry n ks rows r rest names view s is e =
    ap (rows_written rows []) is ∙ ap (λ (t : Rows). rows_written t [] (n ∷ rest)) (sym view)
    ∙ ap (λ (o : Option Entry). written_name o n ∷ rows_written (rows_of entry ks) (folded_text n ∷ []) rest) (find-flatten (folded_text n) [] ks (holds _ s))
    ∙ ap (λ (t : Place). written_name (find place_cmp [] (rows_found (find name_cmp (folded_text n) ks))) n ∷ t) (written_in entry (folded_text n) ks [] rest (holds _ s))
    ∙ ap (λ (t : Rows). written_name (find place_cmp [] t) n ∷ rows_written t [] rest) (sym e)

-- an object that exists is written as its entry says
pub written_on : (entry : Entry) (n : List ℕ) (ks : Kids) (rows r : Rows) (rest names : Place) (there : Entry) → rows_of entry ks ≡ rows → IsTrue (is_sorted name_cmp ks) → names ≡ n ∷ rest → r ≡ rows_found (find name_cmp (folded_text n) ks)
    → find place_cmp [] r ≡ Some there → rows_written rows [] names ≡ there.name ∷ rows_written r [] rest
written_on entry n ks rows r rest names there view s is e f =
    written_here entry n ks rows r rest names view s is e ∙ ap (λ (o : Option Entry). written_name o n ∷ rows_written r [] rest) f

nothing_written : (place : Key) (rest : Place) → rows_written [] place rest ≡ rest
nothing_written place [] = refl
nothing_written place (n ∷ rest) = ap (λ (r : Place). n ∷ r) (nothing_written (place ++ folded_text n ∷ []) rest)

-- names that are not there stay as they are
pub written_as_asked : (entry : Entry) (n : List ℕ) (ks : Kids) (rows : Rows) (rest names : Place) → rows_of entry ks ≡ rows → IsTrue (is_sorted name_cmp ks) → names ≡ n ∷ rest → [] ≡ rows_found (find name_cmp (folded_text n) ks)
    → rows_written rows [] names ≡ names
written_as_asked entry n ks rows rest names view s is e =
    written_here entry n ks rows [] rest names view s is e ∙ ap (λ (r : Place). n ∷ r) (nothing_written [] rest) ∙ sym is

-- in the map and in the rows
pub written-rows : {m : Files} (es : Rows) (above rest : Place) → map.from_sorted es ≡ m → IsTrue (is_sorted place_cmp es) → rows_written es (key_of above) rest ≡ written_names m above rest
written-rows es above [] is sorted = refl
written-rows {m} es above (n ∷ rest) is sorted =
    let deeper : key_of above ++ folded_text n ∷ [] ≡ key_of (above ++ n ∷ []) = sym (map-append folded_text above (n ∷ [])) in
    ap (λ (k : Key). written_name (find place_cmp k es) n ∷ rows_written es k rest) deeper
    ∙ ap (λ (o : Option Entry). written_name o n ∷ rows_written es (key_of (above ++ n ∷ [])) rest) (sym (get_rows es (key_of (above ++ n ∷ [])) is sorted))
    ∙ ap (λ (r : Place). written_name (map.get m (key_of (above ++ n ∷ []))) n ∷ r) (written-rows es (above ++ n ∷ []) rest is sorted)
