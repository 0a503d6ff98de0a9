-- A change of the rows at a place and below it, as one of the map.
use Rattle.std.proofs.Common.{◌≡◌, ℕ, Bool, true, false, cond, ◌||◌, IsTrue, List, [], ◌∷◌, ◌++◌, Option, Some, None, is_some, IsSome, refl, sym, ap, ◌∙◌, subst}
use Rattle.std.proofs.lemmas.List.{append-nil}
use Rattle.std.specs.Option.{option_map}
use Rattle.std.specs.FinMap as map
use Rattle.std.specs.FinMap.{is_sorted, find, get-from_sorted, get-insert, get-remove, same_map}
use Rattle.ados_ram.specs.declared.entries.Entry.{Entry}
use Rattle.ados_ram.specs.Place.{Key, place_cmp, place_cmp_total, place_cmp_exact, is_same_key, key_suffix, has_names, is_below, is_at_or_below}
use Rattle.ados_ram.specs.Entry.{renamed_entry}
use Rattle.ados_ram.specs.Files.{Files, Rows}
use Rattle.ados_ram.specs.FileOperations.{has_descendants, rename_of, parent_fault, way_fault}
use Rattle.ados_ram.specs.Tree.{subtree_rows, rows_way, entry_by_way, IsReplaced, IsEntryAt, IsRenamed}
use Rattle.ados_ram.proofs.FilesLemmas.{same, clash, nothing}
use Rattle.ados_ram.proofs.RenameLemmas.{after-exact, same_after, at_or_below, false_of, Within, get-moved_in, get-moved_out}
use Rattle.ados_ram.proofs.RenamedFiles.{none_of}
use Rattle.ados_ram.proofs.RowsLemmas.{get_rows}
use Rattle.ados_ram.proofs.TreeLemmas.{holds, find-from, find-here}

at_itself : (key w : Key) → is_same_key (key ++ w) key ≡ is_same_key w []
at_itself key w = ap (is_same_key (key ++ w)) (sym (append-nil key)) ∙ same_after key w []

elsewhere : (key q : Key) → key_suffix key q ≡ None → is_same_key q key ≡ false
elsewhere key q p = false_of _ (λ h. clash (sym (ap is_some p) ∙ at_or_below key [] q (same q key h ∙ sym (append-nil key))))

-- an entry inserted
pub inserted : {m : Files} (key : Key) (entry : Entry) (sub old new : Rows) → map.from_sorted old ≡ m → IsTrue (is_sorted place_cmp old) → IsReplaced key sub old new
    → ((w : Key) → find place_cmp w sub ≡ cond (is_same_key w []) (Some entry) (find place_cmp (key ++ w) old)) → map.from_sorted new ≡ map.insert m key entry
inserted {m} key entry sub old new is sorted r there = same_map place_cmp_total place_cmp_exact _ _ (λ q.
    get-from_sorted place_cmp new q (holds _ r.whole.sorted) ∙ r.found q
    ∙ elim (key_suffix key q) as (λ o. key_suffix key q ≡ o → entry_by_way o sub (find place_cmp q old) ≡ cond (is_same_key q key) (Some entry) (map.get m q)) [
      | None ↦ λ p. sym (get_rows old q is sorted) ∙ ap (λ b. cond b (Some entry) (map.get m q)) (sym (elsewhere key q p))
      | Some w ↦ λ p.
          let at : q ≡ key ++ w = after-exact key q w p in
          there w ∙ ap (λ b. cond b (Some entry) (find place_cmp (key ++ w) old)) (sym (at_itself key w))
          ∙ ap (λ o. cond (is_same_key (key ++ w) key) (Some entry) o) (sym (get_rows old (key ++ w) is sorted))
          ∙ ap (λ (k : Key). cond (is_same_key k key) (Some entry) (map.get m k)) (sym at)
    ] refl
    ∙ sym (get-insert place_cmp_total m key entry q))

-- nothing is found below a place with nothing below it
none_below : (key q : Key) (es : Rows) → has_descendants key es ≡ false → is_below key q ≡ true → find place_cmp q es ≡ nothing
none_below key q [] h b = refl
none_below key q (e ∷ es) h b =
    elim (is_same_key q e.0) as (λ t. is_same_key q e.0 ≡ t → cond t (Some e.1) (find place_cmp q es) ≡ nothing) [
      | true ↦ λ t. clash (sym h ∙ ap (λ c. c || has_descendants key es) (ap (is_below key) (sym (same q e.0 t)) ∙ b))
      | false ↦ λ t. none_below key q es (rest (is_below key e.0) (has_descendants key es) h) b
    ] refl
  where
    rest : (a c : Bool) → (a || c) ≡ false → c ≡ false
    rest true c h = clash (sym h)
    rest false c h = h

-- the object at a place removed, with nothing below it
pub removed : {m : Files} (key : Key) (old new : Rows) → map.from_sorted old ≡ m → IsTrue (is_sorted place_cmp old) → has_descendants key old ≡ false → IsReplaced key [] old new → map.from_sorted new ≡ map.remove m key
removed {m} key old new is sorted empty r = same_map place_cmp_total place_cmp_exact _ _ (λ q.
    get-from_sorted place_cmp new q (holds _ r.whole.sorted) ∙ r.found q
    ∙ elim (key_suffix key q) as (λ o. key_suffix key q ≡ o → entry_by_way o [] (find place_cmp q old) ≡ cond (is_same_key q key) nothing (map.get m q)) [
      | None ↦ λ p. sym (get_rows old q is sorted) ∙ ap (λ b. cond b nothing (map.get m q)) (sym (elsewhere key q p))
      | Some w ↦ λ p. sym (gone m key q w old p (λ b. get_rows old q is sorted ∙ none_below key q old empty b))
    ] refl
    ∙ sym (get-remove place_cmp_total m key q))
  where
    gone : (m : Files) (key q w : Key) (old : Rows) → key_suffix key q ≡ Some w → (is_below key q ≡ true → map.get m q ≡ nothing) → cond (is_same_key q key) nothing (map.get m q) ≡ nothing
    gone m key q [] old p h = ap (λ b. cond b nothing (map.get m q)) (ap (λ (k : Key). is_same_key k key) (after-exact key q [] p) ∙ at_itself key [])
    gone m key q (n ∷ ns) old p h =
        elim (is_same_key q key) as (λ b. cond b nothing (map.get m q) ≡ nothing) [
          | true ↦ refl
          | false ↦ h (ap has_names p)
        ]

-- an object moved with all that is below it
pub moved : {m : Files} (from to : Key) (name : List ℕ) (sub old mid new : Rows) → map.from_sorted old ≡ m → IsTrue (is_sorted place_cmp old) → Within to from (map.entries m)
    → IsReplaced from [] old mid → IsReplaced to sub mid new → ((w : Key) → find place_cmp w sub ≡ option_map (renamed_entry name w) (find place_cmp w (subtree_rows from old)))
    → map.from_sorted new ≡ rename_of m from to name
moved {m} from to name sub old mid new is sorted within out put there = same_map place_cmp_total place_cmp_exact _ _ (λ q.
    get-from_sorted place_cmp new q (holds _ put.whole.sorted) ∙ put.found q
    ∙ elim (key_suffix to q) as (λ o. key_suffix to q ≡ o → entry_by_way o sub (find place_cmp q mid) ≡ map.get (rename_of m from to name) q) [
      | Some w ↦ λ p.
          there w ∙ ap (option_map (renamed_entry name w)) (find-from from w old ∙ sym (get_rows old (from ++ w) is sorted))
          ∙ sym (get-moved_in m from to name w within) ∙ ap (map.get (rename_of m from to name)) (sym (after-exact to q w p))
      | None ↦ λ p.
          out.found q
          ∙ elim (key_suffix from q) as (λ o. entry_by_way o [] (find place_cmp q old) ≡ cond (is_some o) nothing (map.get m q)) [
            | Some w ↦ refl
            | None ↦ sym (get_rows old q is sorted)
          ]
          ∙ sym (get-moved_out m from to name q p)
    ] refl)

-- an object that takes a name
pub renamed_rows : (name : List ℕ) (e : Entry) (old new : Rows) → find place_cmp [] old ≡ Some e → IsEntryAt (renamed_entry name [] e) old new → IsRenamed name old new
renamed_rows name e old new is r = record { whole = r.whole; found = λ w. r.found w ∙ each w }
  where
    kept : (n : List ℕ) (ns : Key) (o : Option Entry) → o ≡ option_map (renamed_entry name (n ∷ ns)) o
    kept n ns None = refl
    kept n ns (Some x) = refl

    each : (w : Key) → cond (is_same_key w []) (Some (renamed_entry name [] e)) (find place_cmp w old) ≡ option_map (renamed_entry name w) (find place_cmp w old)
    each [] = ap (option_map (renamed_entry name [])) (sym is)
    each (n ∷ ns) = kept n ns (find place_cmp (n ∷ ns) old)

-- what is not at a place or below it stays when that is removed
pub stays : (from q : Key) (old mid : Rows) → IsReplaced from [] old mid → is_at_or_below from q ≡ false → IsSome (find place_cmp q old) → IsSome (find place_cmp q mid)
stays from q old mid r out h = subst (λ (o : Option Entry). IsSome o) (sym (r.found q ∙ ap (λ o. entry_by_way o [] (find place_cmp q old)) (none_of (key_suffix from q) out))) h

-- an object at a place is among the rows from there
pub absent : {m : Files} {A : Type 0} (key : Key) (es : Rows) → map.from_sorted es ≡ m → IsTrue (is_sorted place_cmp es) → [] ≡ subtree_rows key es → IsSome (map.get m key) → A
absent key es is sorted e h = clash (subst (λ (o : Option Entry). IsSome o) (get_rows es key is sorted ∙ sym (find-here key es [] e)) h)

-- the faults of the directories above, in the map and in the rows
pub way-rows : {m : Files} (es : Rows) (place rest : Key) → map.from_sorted es ≡ m → IsTrue (is_sorted place_cmp es) → rows_way es place rest ≡ way_fault m place rest
way-rows es place [] is sorted = refl
way-rows {m} es place (n ∷ rest) is sorted =
    ap (λ (o : Option Entry). parent_fault o (rows_way es (place ++ n ∷ []) rest)) (sym (get_rows es place is sorted)) ∙ ap (parent_fault (map.get m place)) (way-rows es (place ++ n ∷ []) rest is sorted)
