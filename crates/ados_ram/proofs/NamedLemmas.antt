-- Each object stays at the key of its names.
use Rattle.std.proofs.Common.{◌≡◌, ◌∙◌, Bool, true, false, [], ◌∷◌, ◌++◌, Option, Some, None, is_some, unwrap_or, refl, sym, ap, subst}
use Rattle.std.proofs.lemmas.Bool.{cond_both}
use Rattle.std.proofs.lemmas.List.{append-nil, map-append}
use Rattle.std.specs.Option.{option_map}
use Rattle.std.specs.FinMap as map
use Rattle.std.specs.FinMap.{find, get-from_entries, get-insert, get-remove}
use Rattle.std.specs.Prelude.{codes}
use Rattle.ados_text.specs.Text.{Bytes, Text, folded_text}
use Rattle.ados_text.specs.Name.{Name}
use Rattle.ados_ram.specs.declared.entries.Bits.{Bits}
use Rattle.ados_ram.specs.declared.entries.Entry.{Entry}
use Rattle.ados_ram.specs.Place.{Key, Place, key_suffix, is_at_or_below, is_same_key, key_of, last_name, place_cmp, place_cmp_total}
use Rattle.ados_ram.specs.Entry.{new_directory, file_entry_with_bits, with_bits, with_comment}
use Rattle.ados_ram.specs.Files.{AreNamed, Files, IsNamedBy, IsTree, Rows, entry_bytes, directory_row, first_files}
use Rattle.ados_ram.specs.FileOperations.{append_of, with_entry_changed, comment_of, is_put, make_dir_of, protect_of, put_open_of, rename_fault, rename_of, write_as_of, write_of}
use Rattle.ados_ram.specs.InUse.{InUse}
use Rattle.ados_ram.specs.Renames.{HasMoved, entry_with_name}
use Rattle.ados_ram.proofs.ChangeLemmas.{last-deeper}
use Rattle.ados_ram.proofs.ContentsLaws.{key-twice}
use Rattle.ados_ram.proofs.FilesLemmas.{after-append, nothing, same}
use Rattle.ados_ram.proofs.MoveLemmas.{renames-move}
use Rattle.ados_ram.proofs.RenameLemmas.{after-exact}

-- the last name of a key
last-folded : (place : Place) → last_name (key_of place) ≡ folded_text (last_name place)
last-folded [] = refl
last-folded (x ∷ []) = refl
last-folded (x ∷ y ∷ ys) = last-deeper (folded_text x) (folded_text y) (key_of ys) ∙ (last-folded (y ∷ ys) ∙ ap folded_text (sym (last-deeper x y ys)))

last-after : (above : Key) (first : Name) (way : Key) → last_name (above ++ first ∷ way) ≡ last_name (first ∷ way)
last-after [] first way = refl
last-after (x ∷ []) first way = last-deeper x first way
last-after (x ∷ y ∷ ys) first way = last-deeper x y (ys ++ first ∷ way) ∙ last-after (y ∷ ys) first way

-- an object under the last name of its place
by-place : (place : Place) (e : Entry) → e.name ≡ last_name place → IsNamedBy (key_of place) e
by-place place e own = record { folded_key = key-twice place; own = ap folded_text own ∙ sym (last-folded place) }

insert-named : (files : Files) (key : Key) (new : Entry) → AreNamed files → IsNamedBy key new → AreNamed (map.insert files key new)
insert-named files key new are it other e h =
    (let P : Option Entry → Type 0 = λ o. o ≡ Some e → IsNamedBy other e in
    cond_both (is_same_key other key) (Some new) (map.get files other) P
    (λ here g.
    let one : other ≡ key = same other key here in
    let entry : new ≡ e = cc in
    subst (λ k. IsNamedBy k e) (sym one) (subst (λ x. IsNamedBy key x) entry it))
    (λ elsewhere g. are other e g)) (sym (get-insert place_cmp_total files key new other) ∙ h)

written-named : (files : Files) (place : Place) (bits : Bits) (bytes : Bytes) (there : Option Entry) → AreNamed files → map.get files (key_of place) ≡ there →
    IsNamedBy (key_of place) (file_entry_with_bits bits there (last_name place) bytes)
written-named files place bits bytes None are h = by-place place (file_entry_with_bits bits None (last_name place) bytes) refl
written-named files place bits bytes (Some e) are h =
    let it = are (key_of place) e h in
    record { folded_key = it.folded_key; own = it.own }

pub write-named : (files : Files) (place : Place) (bytes : Bytes) → AreNamed files → AreNamed (write_of files (key_of place) (last_name place) bytes)
write-named files place bytes are = insert-named files (key_of place) _ are (written-named files place _ bytes (map.get files (key_of place)) are refl)

pub write-as-named : (files : Files) (place : Place) (bytes : Bytes) (bits : Bits) → AreNamed files → AreNamed (write_as_of files (key_of place) (last_name place) bytes bits)
write-as-named files place bytes bits are = insert-named files (key_of place) _ are (written-named files place bits bytes (map.get files (key_of place)) are refl)

pub append-named : (files : Files) (place : Place) (bytes : Bytes) → AreNamed files → AreNamed (append_of files (key_of place) (last_name place) bytes)
append-named files place bytes = write-named files place (entry_bytes (map.get files (key_of place)) ++ bytes)

pub put-named : (files : Files) (place : Place) (bytes : Bytes) → AreNamed files → AreNamed (put_open_of files (key_of place) (last_name place) bytes)
put-named files place bytes are =
    cond_both (is_put (map.get files (key_of place)) bytes) (append_of files (key_of place) (last_name place) bytes) files AreNamed
    (λ some. append-named files place bytes are) (λ none. are)

pub make-dir-named : (files : Files) (place : Place) → AreNamed files → AreNamed (make_dir_of files (key_of place) (last_name place))
make-dir-named files place are = insert-named files (key_of place) (new_directory (last_name place)) are (by-place place (new_directory (last_name place)) refl)

pub delete-named : (files : Files) (key : Key) → AreNamed files → AreNamed (map.remove files key)
delete-named files key are other e h =
    (let P : Option Entry → Type 0 = λ o. o ≡ Some e → IsNamedBy other e in
    cond_both (is_same_key other key) nothing (map.get files other) P (λ here g. cc) (λ elsewhere g. are other e g))
    (sym (get-remove place_cmp_total files key other) ∙ h)

pub change-named : (files : Files) (key : Key) (change : Entry → Entry) (e : Entry) → ((e : Entry) → (change e).name ≡ e.name) → map.get files key ≡ Some e →
    AreNamed files → AreNamed (map.insert files key (change e))
change-named files key change e keeps h are =
    let it = are key e h in
    insert-named files key (change e) are (record { folded_key = it.folded_key; own = ap folded_text (keeps e) ∙ it.own })

changed-named : (files : Files) (key : Key) (change : Entry → Entry) (there : Option Entry) → ((e : Entry) → (change e).name ≡ e.name) → map.get files key ≡ there →
    AreNamed files → AreNamed (with_entry_changed files key change there)
changed-named files key change None keeps h are = are
changed-named files key change (Some e) keeps h are = change-named files key change e keeps h are

pub protect-named : (files : Files) (key : Key) (bits : Bits) → AreNamed files → AreNamed (protect_of files key bits)
protect-named files key bits are = changed-named files key (with_bits bits) (map.get files key) (λ e. refl) refl are

pub comment-named : (files : Files) (key : Key) (comment : Text) → AreNamed files → AreNamed (comment_of files key comment)
comment-named files key comment are = changed-named files key (with_comment comment) (map.get files key) (λ e. refl) refl are

-- a rename
same-way : (a b : Key) → Some a ≡ Some b → a ≡ b
same-way a b e = ap (λ (o : Option Key). unwrap_or o a) e

moved-itself : (files : Files) (to : Place) (e : Entry) (there : Option Entry) → option_map (entry_with_name (last_name to)) there ≡ Some e → IsNamedBy (key_of to) e
moved-itself files to e None h = cc
moved-itself files to e (Some found) h =
    let it : entry_with_name (last_name to) found ≡ e = cc in
    subst (λ x. IsNamedBy (key_of to) x) it (by-place to (entry_with_name (last_name to) found) refl)

-- the names of a path from one place down to another that are in lower case are so after each such place
moved-below : (from to : Place) (first : Name) (way : Key) (e : Entry) → IsNamedBy (key_of from ++ first ∷ way) e → IsNamedBy (key_of to ++ first ∷ way) e
moved-below from to first way e it =
    let deep = first ∷ way in
    let all : key_of from ++ key_of deep ≡ key_of from ++ deep =
    ap (λ k. k ++ key_of deep) (sym (key-twice from)) ∙ sym (map-append folded_text (key_of from) deep) ∙ it.folded_key in
    let ways : key_of deep ≡ deep =
    same-way (key_of deep) deep (sym (after-append (key_of from) (key_of deep)) ∙ ap (key_suffix (key_of from)) all ∙ after-append (key_of from) deep) in
    record {
      folded_key = map-append folded_text (key_of to) deep ∙ ap (λ k. k ++ key_of deep) (key-twice to) ∙ ap (λ w. key_of to ++ w) ways;
      own = it.own ∙ last-after (key_of from) first way ∙ sym (last-after (key_of to) first way);
    }

moved-to : (files : Files) (from to : Place) (new : Files) → AreNamed files → HasMoved (key_of from) (key_of to) (last_name to) files new →
    (way : Key) (e : Entry) → map.get new (key_of to ++ way) ≡ Some e → IsNamedBy (key_of to ++ way) e
moved-to files from to new are moves [] e h =
    subst (λ k. IsNamedBy k e) (sym (append-nil (key_of to)))
    (moved-itself files to e (map.get files (key_of from)) (sym moves.itself ∙ ap (map.get new) (sym (append-nil (key_of to))) ∙ h))
moved-to files from to new are moves (first ∷ way) e h =
    moved-below from to first way e (are (key_of from ++ first ∷ way) e (sym (moves.below first way) ∙ h))

-- what is neither at the old place nor at the new one, nor below these
moved-out : (files : Files) (from to : Place) (new : Files) → AreNamed files → HasMoved (key_of from) (key_of to) (last_name to) files new →
    (key : Key) (e : Entry) (was : Bool) → is_at_or_below (key_of from) key ≡ was → is_at_or_below (key_of to) key ≡ false → map.get new key ≡ Some e → IsNamedBy key e
moved-out files from to new are moves key e true was out h = let none : nothing ≡ Some e = sym (moves.gone key was out) ∙ h in cc
moved-out files from to new are moves key e false was out h = are key e (sym (moves.others key (rw (was, out) refl)) ∙ h)

pub rename-named : (busy : InUse) (files : Files) (from to : Place) → IsTree files → rename_fault busy files (key_of from) (key_of to) ≡ None → AreNamed files →
    AreNamed (rename_of files (key_of from) (key_of to) (last_name to))
rename-named busy files from to tree clear are key e h =
    let new = rename_of files (key_of from) (key_of to) (last_name to) in
    let moves = renames-move busy files (key_of from) (key_of to) (last_name to) tree clear in
    elim (key_suffix (key_of to) key) as (λ o. key_suffix (key_of to) key ≡ o → IsNamedBy key e) [
      | Some way ↦ λ p.
          let is : key ≡ key_of to ++ way = after-exact (key_of to) key way p in
          subst (λ k. IsNamedBy k e) (sym is) (moved-to files from to new are moves way e (ap (map.get new) (sym is) ∙ h))
      | None ↦ λ p. moved-out files from to new are moves key e (is_at_or_below (key_of from) key) refl (ap is_some p) h
    ] refl

-- the initial files
abbrev AreNamedRows : Rows → Type 0
AreNamedRows [] = Unit {0}
AreNamedRows (row ∷ rows) = IsNamedBy row.0 row.1 × AreNamedRows rows

found-named : (rows : Rows) (key : Key) (e : Entry) → AreNamedRows rows → find place_cmp key rows ≡ Some e → IsNamedBy key e
found-named [] key e are h = cc
found-named (row ∷ rows) key e are h =
    (let P : Option Entry → Type 0 = λ o. o ≡ Some e → IsNamedBy key e in
    cond_both (is_same_key key row.0) (Some row.1) (find place_cmp key rows) P
    (λ here g.
    let one : key ≡ row.0 = same key row.0 here in
    let entry : row.1 ≡ e = cc in
    subst (λ k. IsNamedBy k e) (sym one) (subst (λ x. IsNamedBy row.0 x) entry are.0))
    (λ elsewhere g. found-named rows key e are.1 g)) h

row-named : (name : Name) → IsNamedBy (directory_row name).0 (directory_row name).1
row-named name = by-place (name ∷ []) (new_directory name) refl

pub first-named : AreNamed first_files
first-named key e h =
    let rows : Rows = directory_row (codes "C") ∷ directory_row (codes "S") ∷ directory_row (codes "T") ∷ directory_row (codes "Env") ∷ ([], new_directory []) ∷ [] in
    found-named rows key e
    (row-named (codes "C"), (row-named (codes "S"), (row-named (codes "T"), (row-named (codes "Env"), (record { folded_key = refl; own = refl }, tt)))))
    (sym (get-from_entries place_cmp_total rows key) ∙ h)
