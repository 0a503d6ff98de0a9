-- What follows if a change is not refused: the place is not the root, and the directory above it exists.
use Rattle.std.proofs.Common.{◌≡◌, ℕ, Bool, true, false, cond, List, [], ◌∷◌, ◌++◌, Option, Some, None, is_some, IsSome, IsTrue, refl, sym, ap, ◌∙◌, subst, append_assoc, length, length-append, arith}
use Rattle.std.specs.Cmp.{eq_by_cmp_equiv}
use Rattle.std.specs.FinMap as map
use Rattle.std.specs.FinMap.{get-insert}
use Rattle.ados_text.specs.declared.codes.Result2.{Result2}
use Rattle.ados_ram.specs.declared.entries.Entry.{Entry}
use Rattle.ados_ram.specs.Place.{Key, Place, key_of, place_cmp_total, is_same_key, is_root, key_suffix, has_names, is_below, is_at_or_below}
use Rattle.ados_ram.specs.InUse.{InUse}
use Rattle.ados_ram.specs.declared.limits.Limits.{Limits}
use Rattle.ados_ram.specs.Files.{Files, IsTree, is_some_directory}
use Rattle.ados_ram.specs.FileOperations.{way_fault, write_target_fault, write_fault, free_fault, make_dir_fault, has_descendants, delete_target_fault, delete_fault, rename_target_fault, rename_fault}
use Rattle.ados_ram.specs.Tree.{parent_key, MayMove}
use Rattle.ados_ram.proofs.FilesLemmas.{same, clash, or_first, or_second, way_clear, after-append, no_directory, CanDelete, can_delete}
use Rattle.ados_ram.proofs.RenameLemmas.{CanMove, false_of, after-exact}
use Rattle.ados_ram.proofs.RenamedFiles.{IsAbove, can_move, within_from, some_of, no_root_after}

above_of : (key : Key) → is_root key ≡ false → IsAbove (parent_key key) key
above_of [] h = clash (sym h)
above_of (x ∷ []) h = record { name = x; rest = []; is = refl }
above_of (x ∷ y ∷ ys) h = let a = above_of (y ∷ ys) refl in record { name = a.name; rest = a.rest; is = ap (λ (k : Key). x ∷ k) a.is }

-- an object is in a directory that exists
pub above_there : (m : Files) (key : Key) → IsTree m → is_root key ≡ false → IsSome (map.get m key) → IsSome (map.get m (parent_key key))
above_there m key files root there =
    let a = above_of key root in
    some_of (map.get m (parent_key key)) (files.above (parent_key key) a.name a.rest (subst (λ (k : Key). IsSome (map.get m k)) a.is there))

longer : (place : Key) (n : List ℕ) (rest : Key) → place ≡ place ++ n ∷ rest → ⊥
longer place n rest e =
    let lengths : length place ≡ length (place ++ n ∷ rest) = ap (λ (k : Key). length k) e in
    omega (arith, lengths, length-append place (n ∷ rest))

-- if an object may be put at a place, the directory above exists
pub inside : (m : Files) (key : Key) (new : Entry) → is_root key ≡ false → IsTree (map.insert m key new) → IsSome (map.get m (parent_key key))
inside m key new root files =
    let a = above_of key root in
    let self : is_same_key key key ≡ true = (eq_by_cmp_equiv place_cmp_total).refl key in
    let put : IsSome (map.get (map.insert m key new) key) = subst (λ (o : Option Entry). IsSome o) (sym (get-insert place_cmp_total m key new key ∙ ap (λ b. cond b (Some new) (map.get m key)) self)) refl in
    let apart : is_same_key (parent_key key) key ≡ false = false_of _ (λ h. longer (parent_key key) a.name a.rest (same (parent_key key) key h ∙ a.is)) in
    subst (λ (o : Option Entry). IsSome o) (get-insert place_cmp_total m key new (parent_key key) ∙ ap (λ b. cond b (Some new) (map.get m (parent_key key))) apart)
    (above_there (map.insert m key new) key files root put)

by_root : (key : Key) → (key ≡ [] → ⊥) → is_root key ≡ false
by_root [] h = absurd (h refl)
by_root (n ∷ ns) h = refl

root_is : (m : Files) (key : Key) → IsTree m → key ≡ [] → IsTrue (is_some_directory (map.get m key))
root_is m key files e = subst (λ (k : Key). IsTrue (is_some_directory (map.get m k))) (sym e) files.root

pub written-inside : (limits : Limits) (m : Files) (is_open : Bool) (key : Key) (name bytes : List ℕ) → IsTree m → write_fault limits is_open m key name bytes ≡ None → is_root key ≡ false
written-inside limits m is_open key name bytes files e =
    by_root key (λ t. no_directory is_open (map.get m key) (or_first (write_target_fault is_open (map.get m key)) _ (or_second (way_fault m [] key) _ e)) (root_is m key files t))

pub made-inside : (limits : Limits) (m : Files) (key : Key) (name : List ℕ) → IsTree m → make_dir_fault limits m key name ≡ None → is_root key ≡ false
made-inside limits m key name files e =
    by_root key (λ t. taken (map.get m key) (or_first (free_fault (map.get m key)) _ (or_second (way_fault m [] key) _ e)) (root_is m key files t))
  where
    taken : (o : Option Entry) → free_fault o ≡ None → IsTrue (is_some_directory o) → ⊥
    taken None f d = clash d
    taken (Some e) f d = cc

-- a delete that is not refused
pub record MayGo (m : Files) (key : Key) : Type 0 where
  pub root : is_root key ≡ false
  pub inside : IsSome (map.get m (parent_key key))
  pub empty : has_descendants key (map.entries m) ≡ false

pub may_go : (busy : InUse) (force : Bool) (m : Files) (key : Key) → IsTree m → delete_fault busy force m key ≡ None → MayGo m key
may_go busy force m key files e =
    let can : CanDelete key (map.entries m) = can_delete busy force key (map.entries m) (map.get m key) e in
    record { root = can.not_root; inside = above_there m key files can.not_root (there (map.get m key) e); empty = can.empty }
  where
    there : (o : Option Entry) → delete_target_fault busy force (map.entries m) key o ≡ None → IsSome o
    there None h = cc
    there (Some e) h = refl

-- what is not refused at names that are lent is not refused at a place with them
pub free-rename : {refusal : Option Result2} {lent_from lent_to : Place} (busy : InUse) (m : Files) (from to : Place) → lent_from ≡ from → lent_to ≡ to
    → refusal ≡ rename_fault busy m (key_of lent_from) (key_of lent_to) → refusal ≡ None → rename_fault busy m (key_of from) (key_of to) ≡ None
free-rename {lent_from = lent_from} busy m from to e f refused none =
    ap (λ k. rename_fault busy m (key_of k) (key_of to)) (sym e) ∙ ap (λ k. rename_fault busy m (key_of lent_from) (key_of k)) (sym f) ∙ sym refused ∙ none

pub free-write : (limits : Limits) {refusal : Option Result2} {lent : Place} (is_open : Bool) (m : Files) (place : Place) (name bytes : List ℕ) → lent ≡ place
    → refusal ≡ write_fault limits is_open m (key_of lent) name bytes → refusal ≡ None → write_fault limits is_open m (key_of place) name bytes ≡ None
free-write limits is_open m place name bytes e refused none = ap (λ k. write_fault limits is_open m (key_of k) name bytes) (sym e) ∙ sym refused ∙ none

-- a rename that is not refused
pub may_move : (busy : InUse) (m : Files) (from to : Key) → IsTree m → rename_fault busy m from to ≡ None → MayMove from to m
may_move busy m from to files e =
    let clear : way_fault m [] to ≡ None = or_first (way_fault m [] to) _ e in
    let target : rename_target_fault busy from to (map.get m from) (map.get m to) ≡ None = or_second (way_fault m [] to) _ e in
    let can : CanMove from to (map.get m to) = can_move busy from to (map.get m from) (map.get m to) target in
    let root : is_root to ≡ false = by_root to (λ t. no_root from to can (some_of (map.get m to) (root_is m to files t)) t) in
    let a = above_of to root in
    let there : IsSome (map.get m from) = found (map.get m from) target in
    record {
      from_named = can.not_root;
      to_named = root;
      there = there;
      above_from = above_there m from files can.not_root there;
      above_to = some_of (map.get m (parent_key to)) (way_clear m [] (parent_key to) a.name a.rest (subst (λ (k : Key). way_fault m [] k ≡ None) a.is clear));
      apart = false_of _ (λ h. not_in a h can.not_below);
      within = within_from m from to files can.free;
    }
  where
    no_root : (from to : Key) → CanMove from to (map.get m to) → IsSome (map.get m to) → to ≡ [] → ⊥
    no_root from to can there t =
        let e : from ≡ [] = same from to (can.free there) ∙ t in
        clash (sym can.not_root ∙ ap is_root e)

    found : (o : Option Entry) → rename_target_fault busy from to o (map.get m to) ≡ None → IsSome o
    found None h = cc
    found (Some e) h = refl

    not_in : IsAbove (parent_key to) to → is_at_or_below from (parent_key to) ≡ true → is_below from to ≡ false → ⊥
    not_in a h out =
        elim (key_suffix from (parent_key to)) as (λ o. key_suffix from (parent_key to) ≡ o → ⊥) [
          | None ↦ λ p. clash (sym (ap is_some p) ∙ h)
          | Some w ↦ λ p.
              let is : to ≡ from ++ (w ++ a.name ∷ a.rest) = a.is ∙ ap (λ (q : Key). q ++ a.name ∷ a.rest) (after-exact from (parent_key to) w p) ∙ append_assoc from w (a.name ∷ a.rest) in
              clash (sym out ∙ ap has_names (ap (key_suffix from) is ∙ after-append from (w ++ a.name ∷ a.rest)) ∙ no_root_after w a.name a.rest)
        ] refl
