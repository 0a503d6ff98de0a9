-- Files with an entry put where the directories above exist are files again: a tree of directories.
use Rattle.std.proofs.Common.{◌≡◌, ℕ, Bool, true, false, cond, not, T, List, [], ◌∷◌, ◌++◌, Option, Some, None, IsSome, IsTrue, refl, sym, ap, ◌∙◌, subst, append_assoc, ◌&&◌, ◌||◌}
use Rattle.std.proofs.lemmas.List.{append-nil}
use Rattle.std.specs.Ordering.{is_eq}
use Rattle.std.specs.declared.cmp.Ordering.{Ordering}
use Rattle.std.specs.declared.cmp.Ordering.TheVariants.{Less, Equal, Greater}
use Rattle.std.specs.Option.{option_or}
use Rattle.std.specs.FinMap as map
use Rattle.std.specs.FinMap.{find, get-insert, get-remove, get-entries}
use Rattle.std.specs.Cmp.{eq_by_cmp_equiv}
use Rattle.ados_text.specs.declared.codes.Result2.{Result2}
use Rattle.ados_text.specs.declared.codes.TheConstants.Result2.{OBJECT_IN_USE, WRONG_TYPE, DIRECTORY_NOT_EMPTY, DELETE_PROTECTED}
use Rattle.ados_text.specs.Name.{name_cmp_total}
use Rattle.ados_ram.specs.declared.entries.Entry.{Entry}
use Rattle.ados_ram.specs.Place.{place_cmp, place_cmp_total, place_cmp_exact, is_same_key, is_root, key_suffix, has_names, is_below}
use Rattle.ados_ram.specs.Entry.{is_directory, is_directory_body, file_entry, file_entry_with_bits, new_directory}
use Rattle.ados_ram.specs.Files.{Files, Rows, IsTree, is_some_directory, is_some_file, entry_bytes}
use Rattle.ados_ram.specs.declared.limits.Limits.{Limits}
use Rattle.ados_ram.specs.FileOperations.{parent_fault, way_fault, write_target_fault, write_fault, write_as_of, append_of, is_put, put_open_of, make_dir_of, make_dir_fault, has_descendants, delete_target_fault, delete_fault}
use Rattle.ados_ram.specs.InUse.{InUse, is_in_use}
use Rattle.ados_ram.specs.declared.entries.Bits.{Bits}
use Rattle.ados_ram.specs.declared.entries.Body.{Body}

pub equal : (r : Ordering) → is_eq r ≡ true → r ≡ Equal
equal Less p = absurd (subst T (sym p) tt)
equal Equal p = refl
equal Greater p = absurd (subst T (sym p) tt)

pub same : (a b : List (List ℕ)) → is_same_key a b ≡ true → a ≡ b
same a b e = place_cmp_exact a b (equal _ e)

clear_dir : (b : Bool) (rest : Option Result2) → cond b rest (Some WRONG_TYPE) ≡ None → IsTrue b
clear_dir true rest h = refl
clear_dir false rest h = cc

clear_step : (o : Option Entry) (rest : Option Result2) → parent_fault o rest ≡ None → IsTrue (is_some_directory o)
clear_step None rest h = cc
clear_step (Some e) rest h = clear_dir (is_directory e) rest h

dir_rest : (b : Bool) (rest : Option Result2) → cond b rest (Some WRONG_TYPE) ≡ None → rest ≡ None
dir_rest true rest h = h
dir_rest false rest h = cc

clear_rest : (o : Option Entry) (rest : Option Result2) → parent_fault o rest ≡ None → rest ≡ None
clear_rest None rest h = cc
clear_rest (Some e) rest h = dir_rest (is_directory e) rest h

-- without a fault of the directories above a place there is a directory at each of them
pub way_clear : (m : Files) (above rest : List (List ℕ)) (n : List ℕ) (more : List (List ℕ)) → way_fault m above (rest ++ n ∷ more) ≡ None → IsTrue (is_some_directory (map.get m (above ++ rest)))
way_clear m above [] n more e = subst (λ (k : List (List ℕ)). IsTrue (is_some_directory (map.get m k))) (sym (append-nil above)) (clear_step (map.get m above) _ e)
way_clear m above (x ∷ rest) n more e =
    subst (λ (k : List (List ℕ)). IsTrue (is_some_directory (map.get m k))) (append_assoc above (x ∷ []) rest) (way_clear m (above ++ x ∷ []) rest n more (clear_rest (map.get m above) _ e))

pub or_first : (a b : Option Result2) → option_or a b ≡ None → a ≡ None
or_first None b h = refl
or_first (Some x) b h = cc

pub or_second : (a b : Option Result2) → option_or a b ≡ None → b ≡ None
or_second None b h = h
or_second (Some x) b h = cc

-- a directory stays one, if what is put in its place is one
kept : (m : Files) (key : List (List ℕ)) (new : Entry) (k : List (List ℕ)) → (IsTrue (is_some_directory (map.get m key)) → IsTrue (is_directory new)) → IsTrue (is_some_directory (map.get m k)) → IsTrue (is_some_directory (map.get (map.insert m key new) k))
kept m key new k keeps d =
    subst (λ (o : Option Entry). IsTrue (is_some_directory o)) (sym (get-insert place_cmp_total m key new k))
    (elim (is_same_key k key) as (λ b. is_same_key k key ≡ b → IsTrue (is_some_directory (cond b (Some new) (map.get m k)))) [
      | true ↦ λ t. keeps (subst (λ (q : List (List ℕ)). IsTrue (is_some_directory (map.get m q))) (same k key t) d)
      | false ↦ λ t. d
    ] refl)

-- an entry put at a place with a directory at each place above, in place of nothing or of one of its kind, within the limits
pub put_files : {m : Files} (key : List (List ℕ)) (new : Entry) → IsTree m
    → ((place : List (List ℕ)) (name : List ℕ) (rest : List (List ℕ)) → place ++ name ∷ rest ≡ key → IsTrue (is_some_directory (map.get m place)))
    → (IsTrue (is_some_directory (map.get m key)) → IsTrue (is_directory new))
    → IsTree (map.insert m key new)
put_files {m} key new files clear keeps = record {
  root = kept m key new [] keeps files.root;
  above = λ place name rest h. kept m key new place keeps (
      elim (is_same_key (place ++ name ∷ rest) key) as (λ b. is_same_key (place ++ name ∷ rest) key ≡ b → IsSome (cond b (Some new) (map.get m (place ++ name ∷ rest))) → IsTrue (is_some_directory (map.get m place))) [
        | true ↦ λ t g. clear place name rest (same (place ++ name ∷ rest) key t)
        | false ↦ λ t g. files.above place name rest g
      ] refl (subst (λ (o : Option Entry). IsSome o) (get-insert place_cmp_total m key new (place ++ name ∷ rest)) h));
}

pub no_directory : (is_open : Bool) (o : Option Entry) → write_target_fault is_open o ≡ None → IsTrue (is_some_directory o) → ⊥
no_directory is_open None h d = cc
no_directory is_open (Some e) h d = not_free (is_directory e) _ h d
  where
    not_free : (b : Bool) (rest : Option Result2) → cond b (Some WRONG_TYPE) rest ≡ None → IsTrue b → ⊥
    not_free true rest h d = cc
    not_free false rest h d = cc

pub clash : {A : Type 0} → false ≡ true → A
clash e = absurd (subst T (sym e) tt)

abbrev pub nothing : Option Entry
nothing = None

-- the path from a place to that place followed by more
pub after-append : (place way : List (List ℕ)) → key_suffix place (place ++ way) ≡ Some way
after-append [] way = refl
after-append (n ∷ ns) way =
    ap (λ b. cond b (key_suffix ns (ns ++ way)) None) ((eq_by_cmp_equiv name_cmp_total).refl n) ∙ after-append ns way

-- after a write that is not refused
pub written_files : {m : Files} (limits : Limits) (is_open : Bool) (key : List (List ℕ)) (name bytes : List ℕ) (bits : Bits) → IsTree m → write_fault limits is_open m key name bytes ≡ None → IsTree (write_as_of m key name bytes bits)
written_files {m} limits is_open key name bytes bits files e =
    let new = file_entry_with_bits bits (map.get m key) name bytes in
    let way = or_first (way_fault m [] key) _ e in
    let rest = or_second (way_fault m [] key) _ e in
    put_files key new files
    (λ place n more t. way_clear m [] place n more (subst (λ (q : List (List ℕ)). way_fault m [] q ≡ None) (sym t) way))
    (λ d. absurd (no_directory is_open (map.get m key) (or_first (write_target_fault is_open (map.get m key)) _ rest) d))

not_both : (b : Bool) → not b ≡ true → IsTrue b → ⊥
not_both true h t = clash h
not_both false h t = clash t

pub a_file : (o : Option Entry) (more : Bool) → (is_some_file o && more) ≡ true → IsTrue (is_some_directory o) → ⊥
a_file None more h d = clash d
a_file (Some e) more h d = not_both (is_directory e) (first_of (not (is_directory e)) more h) d
  where
    first_of : (a b : Bool) → (a && b) ≡ true → a ≡ true
    first_of true b h = refl
    first_of false b h = h

there : (o : Option Entry) (more : Bool) → (is_some_file o && more) ≡ true → IsSome o
there None more h = clash h
there (Some e) more h = refl

-- after bytes were appended to an open output
pub put_open_files : {m : Files} (key : List (List ℕ)) (name bytes : List ℕ) → IsTree m → IsTree (put_open_of m key name bytes)
put_open_files {m} key name bytes files =
    elim (is_put (map.get m key) bytes) as (λ b. is_put (map.get m key) bytes ≡ b → IsTree (cond b (append_of m key name bytes) m)) [
      | true ↦ λ t.
          put_files key (file_entry (map.get m key) name (entry_bytes (map.get m key) ++ bytes)) files
          (λ place n more p. files.above place n more (subst (λ (q : List (List ℕ)). IsSome (map.get m q)) (sym p) (there (map.get m key) _ t)))
          (λ d. absurd (a_file (map.get m key) _ t d))
      | false ↦ λ t. files
    ] refl

-- after a directory was created, if that is not refused
pub made_files : {m : Files} (limits : Limits) (key : List (List ℕ)) (name : List ℕ) → IsTree m → make_dir_fault limits m key name ≡ None → IsTree (make_dir_of m key name)
made_files {m} limits key name files e =
    let way = or_first (way_fault m [] key) _ e in
    put_files key (new_directory name) files
    (λ place n more t. way_clear m [] place n more (subst (λ (q : List (List ℕ)). way_fault m [] q ≡ None) (sym t) way))
    (λ d. refl)

-- after an entry was changed, but not its bytes
pub changed_files : {m : Files} (key : List (List ℕ)) (change : Entry → Entry) (e : Entry) → IsTree m → map.get m key ≡ Some e → (change e).body ≡ e.body → IsTree (map.insert m key (change e))
changed_files {m} key change e files found body =
    put_files key (change e) files
    (λ place name rest t. files.above place name rest (subst (λ (o : Option Entry). IsSome o) (sym (ap (map.get m) t ∙ found)) refl))
    (λ d. subst (λ (b : Body). IsTrue (is_directory_body b)) (sym body) (subst (λ (o : Option Entry). IsTrue (is_some_directory o)) found d))

-- if none of the rows is below a place, nothing is found below it
has_descendants-there : (key q : List (List ℕ)) (es : Rows) → has_descendants key es ≡ false → is_below key q ≡ true → find place_cmp q es ≡ None
has_descendants-there key q [] h b = refl
has_descendants-there key q (e ∷ es) h b =
    elim (is_same_key q e.0) as (λ t. is_same_key q e.0 ≡ t → cond t (Some e.1) (find place_cmp q es) ≡ None) [
      | true ↦ λ t. absurd (both_false (is_below key e.0) (has_descendants key es) h (subst (λ (k : List (List ℕ)). is_below key k ≡ true) (same q e.0 t) b))
      | false ↦ λ t. has_descendants-there key q es (second_false (is_below key e.0) (has_descendants key es) h) b
    ] refl
  where
    both_false : (x y : Bool) → (x || y) ≡ false → x ≡ true → ⊥
    both_false true y h t = clash (sym h)
    both_false false y h t = clash t

    second_false : (x y : Bool) → (x || y) ≡ false → y ≡ false
    second_false true y h = clash (sym h)
    second_false false y h = h

no_root_left : (m : Files) (key : List (List ℕ)) → is_root key ≡ false → IsTrue (is_some_directory (map.get m [])) → IsTrue (is_some_directory (cond (is_same_key [] key) nothing (map.get m [])))
no_root_left m [] h d = clash (sym h)
no_root_left m (n ∷ ns) h d = d

nothing_in : (m : Files) (key place : List (List ℕ)) (name : List ℕ) (rest : List (List ℕ)) → has_descendants key (map.entries m) ≡ false → place ≡ key → IsSome (map.get m (place ++ name ∷ rest)) → ⊥
nothing_in m key place name rest empty t g =
    let way : is_below place (place ++ name ∷ rest) ≡ true = ap has_names (after-append place (name ∷ rest)) in
    let below : is_below key (place ++ name ∷ rest) ≡ true = subst (λ (k : List (List ℕ)). is_below k (place ++ name ∷ rest) ≡ true) t way in
    clash (subst (λ (o : Option Entry). IsSome o) (get-entries m (place ++ name ∷ rest) ∙ has_descendants-there key (place ++ name ∷ rest) (map.entries m) empty below) g)

above_left : {m : Files} (key place : List (List ℕ)) (name : List ℕ) (rest : List (List ℕ)) → IsTree m → has_descendants key (map.entries m) ≡ false → IsSome (cond (is_same_key (place ++ name ∷ rest) key) nothing (map.get m (place ++ name ∷ rest))) → IsTrue (is_some_directory (cond (is_same_key place key) nothing (map.get m place)))
above_left {m} key place name rest files empty =
    elim (is_same_key (place ++ name ∷ rest) key) as (λ b. IsSome (cond b nothing (map.get m (place ++ name ∷ rest))) → IsTrue (is_some_directory (cond (is_same_key place key) nothing (map.get m place)))) [
      | true ↦ λ g. clash g
      | false ↦ λ g. elim (is_same_key place key) as (λ b. is_same_key place key ≡ b → IsTrue (is_some_directory (cond b nothing (map.get m place)))) [
        | true ↦ λ t. absurd (nothing_in m key place name rest empty (same place key t) g)
        | false ↦ λ t. files.above place name rest g
      ] refl
    ]

-- after an object with nothing below it was removed
pub removed_files : {m : Files} (key : List (List ℕ)) → IsTree m → is_root key ≡ false → has_descendants key (map.entries m) ≡ false → IsTree (map.remove m key)
removed_files {m} key files not_root empty =
    record {
      root = subst (λ (o : Option Entry). IsTrue (is_some_directory o)) (sym (get-remove place_cmp_total m key [])) (no_root_left m key not_root files.root);
      above = λ place name rest h. subst (λ (o : Option Entry). IsTrue (is_some_directory o)) (sym (get-remove place_cmp_total m key place))
          (above_left key place name rest files empty (subst (λ (o : Option Entry). IsSome o) (get-remove place_cmp_total m key (place ++ name ∷ rest)) h));
    }

pub record CanDelete (key : List (List ℕ)) (es : Rows) : Type 0 where
  pub not_root : is_root key ≡ false
  pub empty : has_descendants key es ≡ false

pub can_delete : (busy : InUse) (force : Bool) (key : List (List ℕ)) (es : Rows) (o : Option Entry) → delete_target_fault busy force es key o ≡ None → CanDelete key es
can_delete busy force key es None h = cc
can_delete busy force key es (Some e) h = by_tests (is_in_use busy key) (is_root key) (force || e.bits.delete) (has_descendants key es) h refl refl
  where
    by_tests : (used root delete below : Bool) → cond (used || root) (Some OBJECT_IN_USE) (cond delete (cond below (Some DIRECTORY_NOT_EMPTY) None) (Some DELETE_PROTECTED)) ≡ None
        → is_root key ≡ root → has_descendants key es ≡ below → CanDelete key es
    by_tests true root delete below h a b = cc
    by_tests false true delete below h a b = cc
    by_tests false false true true h a b = cc
    by_tests false false true false h a b = record { not_root = a; empty = b }
    by_tests false false false below h a b = cc

-- after a delete that is not refused
pub deleted_files : {m : Files} (busy : InUse) (force : Bool) (key : List (List ℕ)) → IsTree m → delete_fault busy force m key ≡ None → IsTree (map.remove m key)
deleted_files {m} busy force key files e =
    let can = can_delete busy force key (map.entries m) (map.get m key) e in
    removed_files key files can.not_root can.empty
