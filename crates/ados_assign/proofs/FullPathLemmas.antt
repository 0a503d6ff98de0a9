-- Full paths lead back: their text gives their steps, and these lead down existing directories.
use Rattle.std.proofs.Common.{◌≡◌, ◌≤◌, ◌∙◌, ℕ, ◌&&◌, List, [], ◌∷◌, ◌++◌, Option, Some, None, length, refl, sym, ap, subst, arith, append-nil, append_assoc, nat_lt, nat_le}
use Rattle.std.specs.Prelude.{codes, map, Ok, Err, IsSome, IsTrue, if◌then◌else◌}
use Rattle.std.specs.List.{list_all}
use Rattle.std.specs.FinMap as files_map
use Rattle.std.proofs.lemmas.Bool.Decides.{nat_tests}
use Rattle.std.proofs.lemmas.List.{length-map, map-append}
use Rattle.ados_text.specs.Text.{fold_of, folded_text}
use Rattle.ados_text.specs.Name.{Name}
use Rattle.ados_text.specs.declared.codes.TheConstants.Result2.{WRONG_TYPE}
use Rattle.ados_names.specs.Names.{is_name, is_name_byte}
use Rattle.ados_names.specs.Path.{PathParts, IsPath, text_after_name, is_step, path_limit, path_of, text_of, steps_text}
use Rattle.ados_names.specs.declared.steps.Step.{Step}
use Rattle.ados_names.specs.declared.steps.Step.TheVariants as step
use Rattle.ados_names.proofs.PathLemmas.{path-text}
use Rattle.ados_ram.specs.declared.entries.Entry.{Entry}
use Rattle.ados_ram.specs.Place.{Key, Place, key_of, last_name}
use Rattle.ados_ram.specs.Files.{AreNamed, Files, IsTree, is_some_directory}
use Rattle.ados_ram.specs.Written.{slash_before, slash_joined, written_name, given_path, written_names, written_place}
use Rattle.ados_ram.proofs.ChangeLemmas.{last-deeper}
use Rattle.ados_assign.specs.Resolve.{Resolved, by_path, on_entry, resolve_path, walk_steps}
use Rattle.ados_assign.specs.FullPaths.{FullPathsLeadBack, IsThere, GivenPathsLeadBack, WrittenPlacesAreTheSame}

-- the steps into names
abbrev steps_into : Place → List Step
steps_into names = map step.Name names

-- the path of a place
abbrev path_to : Place → PathParts
path_to place = record { device = Some (codes "RAM"); steps = steps_into place }

-- its text
after-slash : (rest : Place) → steps_text (steps_into rest) ≡ slash_joined rest → text_after_name (steps_into rest) (steps_text (steps_into rest)) ≡ slash_before rest ++ slash_joined rest
after-slash [] h = h
after-slash (name ∷ rest) h = ap (λ (t : List ℕ). 47 ∷ t) h

written-slashed : (names : Place) → steps_text (steps_into names) ≡ slash_joined names
written-slashed [] = refl
written-slashed (name ∷ rest) =
    ap (λ (t : List ℕ). name ++ t) (after-slash rest (written-slashed rest)) ∙ sym (append_assoc name (slash_before rest) (slash_joined rest))

text-spelled : (place : Place) → text_of (path_to place) ≡ given_path place
text-spelled place = ap (λ (t : List ℕ). codes "RAM:" ++ t) (written-slashed place)

-- its names may be used in it
steps-names : (names : Place) → list_all is_step (steps_into names) ≡ list_all is_name names
steps-names [] = refl
steps-names (name ∷ rest) = ap (λ b. is_name name && b) (steps-names rest)

names-path : (place : Place) → IsTrue (list_all is_name place) → length (given_path place) ≤ path_limit → path_of (given_path place) ≡ Ok (path_to place)
names-path place names fits =
    let is : IsPath (path_to place) = record { parts = steps-names place ∙ names; fits = subst (λ (t : List ℕ). length t ≤ path_limit) (sym (text-spelled place)) fits } in
    ap path_of (sym (text-spelled place)) ∙ path-text (path_to place) is

-- a step into a directory continues
goes-on : (o : Option Entry) (next : Resolved) → IsTrue (is_some_directory o) → on_entry o next ≡ next
goes-on None next h = cc
goes-on (Some e) next h = ap (λ b. if b then next else Err WRONG_TYPE) h

walks : (files : Files) (from rest : Place) → IsTree files → IsSome (files_map.get files (key_of (from ++ rest))) → walk_steps files from (steps_into rest) ≡ Ok (from ++ rest)
walks files from [] are there = ap Ok (sym (append-nil from))
walks files from (name ∷ []) are there = refl
walks files from (name ∷ next ∷ more) are there =
    let here = from ++ name ∷ [] in
    let one : from ++ name ∷ next ∷ more ≡ here ++ next ∷ more = sym (append_assoc from (name ∷ []) (next ∷ more)) in
    let below : IsSome (files_map.get files (key_of (here ++ next ∷ more))) = subst (λ (p : Place). IsSome (files_map.get files (key_of p))) one there in
    let above : IsTrue (is_some_directory (files_map.get files (key_of here))) =
    are.above (key_of here) (folded_text next) (key_of more) (subst (λ (k : Key). IsSome (files_map.get files k)) (map-append folded_text here (next ∷ more)) below) in
    goes-on (files_map.get files (key_of here)) (walk_steps files here (steps_into (next ∷ more))) above
    ∙ walks files here (next ∷ more) are below
    ∙ ap Ok (sym one)

pub spelled-back : GivenPathsLeadBack
spelled-back files place are is fits assigns current =
    ap (by_path (resolve_path assigns files current)) (names-path place is.names fits) ∙ walks files [] place are is.there

-- the name of an object is that of its place, except for case
last-of : (above : Key) (name : Name) → last_name (above ++ name ∷ []) ≡ name
last-of [] name = refl
last-of (x ∷ []) name = refl
last-of (x ∷ y ∷ ys) name = last-deeper x y (ys ++ name ∷ []) ∙ last-of (y ∷ ys) name

spelled-same : (files : Files) (above : Place) (name : Name) (o : Option Entry) → AreNamed files → files_map.get files (key_of (above ++ name ∷ [])) ≡ o → folded_text (written_name o name) ≡ folded_text name
spelled-same files above name None are h = refl
spelled-same files above name (Some e) are h =
    let named = are (key_of (above ++ name ∷ [])) e h in
    named.own ∙ ap last_name (map-append folded_text above (name ∷ [])) ∙ last-of (key_of above) (folded_text name)

below-same : (files : Files) (above rest : Place) → AreNamed files → key_of (written_names files above rest) ≡ key_of rest
below-same files above [] are = refl
below-same files above (name ∷ rest) are =
    let here = above ++ name ∷ [] in
    ap (λ (n : Name). n ∷ key_of (written_names files here rest)) (spelled-same files above name (files_map.get files (key_of here)) are refl)
    ∙ ap (λ (k : Key). folded_text name ∷ k) (below-same files here rest are)

pub written-same : WrittenPlacesAreTheSame
written-same files place are = below-same files [] place are

-- a byte that may be used in a name may be so in either case
byte-folded : (byte : ℕ) → is_name_byte (fold_of byte) ≡ is_name_byte byte
byte-folded byte = grind (arith, nat_tests)

bytes-folded : (text : List ℕ) → list_all is_name_byte (folded_text text) ≡ list_all is_name_byte text
bytes-folded [] = refl
bytes-folded (c ∷ cs) = ap (λ b. b && list_all is_name_byte (folded_text cs)) (byte-folded c) ∙ ap (λ b. is_name_byte c && b) (bytes-folded cs)

name-folded : (name : Name) → is_name (folded_text name) ≡ is_name name
name-folded name =
    ap (λ n. nat_lt 0 n && nat_le n 30 && list_all is_name_byte (folded_text name)) (length-map name fold_of)
    ∙ ap (λ b. nat_lt 0 (length name) && nat_le (length name) 30 && b) (bytes-folded name)

names-folded : (names : Place) → list_all is_name (key_of names) ≡ list_all is_name names
names-folded [] = refl
names-folded (name ∷ rest) = ap (λ b. b && list_all is_name (key_of rest)) (name-folded name) ∙ ap (λ b. is_name name && b) (names-folded rest)

written-there : (files : Files) (place : Place) → AreNamed files → IsThere files place → IsThere files (written_place files place)
written-there files place are is =
    let one = written-same files place are in
    record {
      there = subst (λ (k : Key). IsSome (files_map.get files k)) (sym one) is.there;
      names = sym (names-folded (written_place files place)) ∙ ap (λ (k : Key). list_all is_name k) one ∙ names-folded place ∙ is.names;
    }

pub full-back : FullPathsLeadBack
full-back files place are is fits = spelled-back files (written_place files place) are.tree (written-there files place are.named is) fits
