-- A rename moves rows: their number and the bytes of their files stay the same.
use Rattle.std.proofs.Common.{◌≡◌, ◌+◌, ℕ, true, false, T, cond, List, [], ◌∷◌, Some, None, is_some, refl, sym, ap, ◌∙◌, length, arith}
use Rattle.std.specs.Ordering.{is_eq}
use Rattle.std.specs.Option.{option_map}
use Rattle.std.specs.FinMap as map
use Rattle.std.specs.FinMap.{find, is_sorted, get-from_entries, entries_sorted}
use Rattle.std.specs.FinMap.Entries.{below_all}
use Rattle.ados_ram.specs.Place.{Key, place_cmp, place_cmp_total, is_same_key, key_suffix}
use Rattle.ados_ram.specs.Entry.{size_of, renamed_entry}
use Rattle.ados_ram.specs.Files.{Files, Rows, total_of}
use Rattle.ados_ram.specs.FileOperations.{moved_row, moved_rows, rename_of}
use Rattle.ados_ram.specs.Rows.{other_rows}
use Rattle.ados_ram.proofs.RowsLemmas.{holds, first, second, tied, sorted_of, sorted_of_rows, get_rows, entries_rows, total-put, length-put_without}
use Rattle.ados_ram.proofs.FilesLemmas.{clash, nothing}
use Rattle.ados_ram.proofs.RenameLemmas.{Within, later, here, after-exact, false_of, find-moved_in, find-moved_out, total-moved_rows, length-moved_rows}
use Rattle.ados_ram.proofs.RenamedFiles.{none_of}

-- no place occurs twice
abbrev Distinct : Rows → Type 0
Distinct [] = Unit {0}
Distinct (e ∷ es) = (find place_cmp e.0 es ≡ nothing) × Distinct es

left : (k : Key) (es : Rows) → find place_cmp k es ≡ nothing → other_rows k es ≡ es
left k [] h = refl
left k (e ∷ es) h =
    elim (is_same_key k e.0) as (λ b. cond b (Some e.1) (find place_cmp k es) ≡ nothing → cond b (other_rows k es) (e ∷ other_rows k es) ≡ e ∷ es) [
      | true ↦ λ g. cc
      | false ↦ λ g. ap (λ (r : Rows). e ∷ r) (left k es g)
    ] h

absent : (k : Key) (es : Rows) → find place_cmp k es ≡ nothing → find place_cmp k (sorted_of es) ≡ nothing
absent k es h = let s = sorted_of_rows es in sym (get_rows (sorted_of es) k s.is s.sorted) ∙ get-from_entries place_cmp_total es k ∙ h

total-distinct : (es : Rows) → Distinct es → total_of (sorted_of es) ≡ total_of es
total-distinct [] d = refl
total-distinct (e ∷ es) d =
    total-put e.0 e.1 (sorted_of es) (holds _ (sorted_of_rows es).sorted)
    ∙ ap (λ (r : Rows). size_of e.1 + total_of r) (left e.0 (sorted_of es) (absent e.0 es d.0)) ∙ ap (λ (n : ℕ). size_of e.1 + n) (total-distinct es d.1)

length-distinct : (es : Rows) → Distinct es → length (sorted_of es) ≡ length es
length-distinct [] d = refl
length-distinct (e ∷ es) d =
    let rest : length (other_rows e.0 (sorted_of es)) ≡ length es = ap (λ (r : Rows). length r) (left e.0 (sorted_of es) (absent e.0 es d.0)) ∙ length-distinct es d.1 in
    omega (arith, length-put_without e.0 e.1 (sorted_of es) (holds _ (sorted_of_rows es).sorted))

-- what moved is apart from what else moved and from what stayed
distinct-moved : (from to : Key) (name : List ℕ) (es : Rows) → T (is_sorted place_cmp es) → Within to from es → Distinct (moved_rows from to name es)
distinct-moved from to name [] s within = tt
distinct-moved from to name (e ∷ es) s within =
    let on : Within to from es = λ k h. within k (later k e es h) in
    let alone : find place_cmp e.0 es ≡ nothing = own e.0 es (first _ _ s) in (
      elim (key_suffix from e.0) as (λ o. key_suffix from e.0 ≡ o → find place_cmp (moved_row to name e.0 e.1 o).0 (moved_rows from to name es) ≡ nothing) [
        | None ↦ λ p.
            let out : key_suffix to e.0 ≡ None = none_of (key_suffix to e.0) (false_of _ (λ h. clash (sym (ap is_some p) ∙ within e.0 (here e es) h))) in
            find-moved_out from to name es e.0 out ∙ ap (λ b. cond b nothing (find place_cmp e.0 es)) (ap is_some p) ∙ alone
        | Some w ↦ λ p.
            find-moved_in from to name es w on ∙ ap (λ (k : Key). option_map (renamed_entry name w) (find place_cmp k es)) (sym (after-exact from e.0 w p)) ∙ ap (option_map (renamed_entry name w)) alone
      ] refl,
      distinct-moved from to name es (second _ _ s) on,
    )
  where
    own : (k : Key) (es : Rows) → T (below_all place_cmp k es) → find place_cmp k es ≡ nothing
    own k [] h = refl
    own k (e ∷ es) h = ap (λ o. cond (is_eq o) (Some e.1) (find place_cmp k es)) (tied (place_cmp k e.0) (first _ _ h)) ∙ own k es (second _ _ h)

pub total-renamed : (m : Files) (from to : Key) (name : List ℕ) → Within to from (map.entries m) → total_of (map.entries (rename_of m from to name)) ≡ total_of (map.entries m)
total-renamed m from to name within =
    let rows = moved_rows from to name (map.entries m) in
    ap total_of (entries_rows (sorted_of rows) (sorted_of_rows rows)) ∙ total-distinct rows (distinct-moved from to name (map.entries m) (entries_sorted m) within) ∙ total-moved_rows from to name (map.entries m)

pub length-renamed : (m : Files) (from to : Key) (name : List ℕ) → Within to from (map.entries m) → length (map.entries (rename_of m from to name)) ≡ length (map.entries m)
length-renamed m from to name within =
    let rows = moved_rows from to name (map.entries m) in
    ap (λ (r : Rows). length r) (entries_rows (sorted_of rows) (sorted_of_rows rows)) ∙ length-distinct rows (distinct-moved from to name (map.entries m) (entries_sorted m) within) ∙ length-moved_rows from to name (map.entries m)
