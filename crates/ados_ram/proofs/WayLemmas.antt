-- The directories above a place are looked up in the object of the first name.
use Rattle.std.proofs.Common.{◌≡◌, ℕ, ◌==◌, Bool, true, false, cond, T, IsTrue, List, [], ◌∷◌, ◌++◌, length, Option, Some, refl, sym, ap, ◌∙◌, arith}
use Rattle.std.proofs.lemmas.Bool.Decides.{nat_tests}
use Rattle.std.specs.FinMap.{is_sorted, find}
use Rattle.ados_text.specs.declared.codes.TheConstants.Result2.{DIRECTORY_NOT_FOUND, WRONG_TYPE}
use Rattle.ados_text.specs.Name.{name_cmp}
use Rattle.ados_ram.specs.declared.entries.Entry.{Entry}
use Rattle.ados_ram.specs.Place.{Key, key_of, place_cmp}
use Rattle.ados_ram.specs.Entry.{is_directory}
use Rattle.ados_ram.specs.Files.{Rows}
use Rattle.ados_ram.specs.FileOperations.{parent_fault}
use Rattle.ados_ram.specs.Tree.{Kids, rows_of, rows_found, rows_way}
use Rattle.ados_ram.proofs.TreeLemmas.{holds}
use Rattle.ados_ram.proofs.ChangeLemmas.{find-flatten}

way_in : (entry : Entry) (x : List ℕ) (ks : Kids) (place rest : Key) → T (is_sorted name_cmp ks) → rows_way (rows_of entry ks) (x ∷ place) rest ≡ rows_way (rows_found (find name_cmp x ks)) place rest
way_in entry x ks place [] s = refl
way_in entry x ks place (n ∷ rest) s =
    ap (λ (o : Option Entry). parent_fault o (rows_way (rows_of entry ks) (x ∷ (place ++ n ∷ [])) rest)) (find-flatten x place ks s)
    ∙ ap (parent_fault (find place_cmp place (rows_found (find name_cmp x ks)))) (way_in entry x ks (place ++ n ∷ []) rest s)

-- the path from an object: the object is a directory, and the rest of the path is looked up below it
pub way_here : (entry : Entry) (x : List ℕ) (ks : Kids) (rows r : Rows) (key rest : Key) → rows_of entry ks ≡ rows → IsTrue (is_sorted name_cmp ks) → key ≡ x ∷ rest → r ≡ rows_found (find name_cmp x ks)
    → rows_way rows [] key ≡ parent_fault (Some entry) (rows_way r [] rest)
way_here entry x ks rows r key rest view s is e =
    ap (λ (k : Key). rows_way rows [] k) is ∙ ap (λ (t : Rows). rows_way t [] (x ∷ rest)) (sym view)
    ∙ ap (parent_fault (Some entry)) (way_in entry x ks [] rest (holds _ s) ∙ ap (λ (t : Rows). rows_way t [] rest) (sym e))

turn : (r d : Bool) → r ≡ d → r ≡ true → d ≡ true
turn r d e h = sym e ∙ h

-- the same, after a directory
pub way_on : (entry : Entry) (x : List ℕ) (ks : Kids) (rows r : Rows) (key rest : Key) → rows_of entry ks ≡ rows → IsTrue (is_sorted name_cmp ks) → key ≡ x ∷ rest → r ≡ rows_found (find name_cmp x ks) → is_directory entry ≡ true
    → rows_way rows [] key ≡ rows_way r [] rest
way_on entry x ks rows r key rest view s is e dir =
    way_here entry x ks rows r key rest view s is e ∙ ap (λ b. cond b (rows_way r [] rest) (Some WRONG_TYPE)) dir

pub lost : (names : Key) → false ≡ (length names == 0) → Some DIRECTORY_NOT_FOUND ≡ rows_way [] [] (key_of names)
lost [] h = absurd (grind (arith, nat_tests))
lost (n ∷ ns) h = refl
