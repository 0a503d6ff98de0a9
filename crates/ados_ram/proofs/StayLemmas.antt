-- What an operation leaves unchanged.
use Rattle.std.proofs.Common.{◌≡◌, ℕ, Bool, true, false, cond, ◌||◌, List, ◌++◌, Option, Some, None, is_some, refl, sym, ap, ◌∙◌, append_assoc}
use Rattle.std.proofs.lemmas.List.{map-append}
use Rattle.std.specs.declared.cmp.Ordering.{Ordering}
use Rattle.std.specs.declared.cmp.Ordering.TheVariants.{Less, Equal, Greater}
use Rattle.std.specs.Ordering.{ordering_reverse, is_eq}
use Rattle.ados_text.specs.Text.{folded_text}
use Rattle.std.specs.FinMap as map
use Rattle.std.specs.FinMap.{get-insert, get-remove}
use Rattle.ados_ram.specs.declared.entries.Bits.{Bits}
use Rattle.ados_ram.specs.declared.entries.Entry.{Entry}
use Rattle.ados_ram.specs.Place.{Place, Key, key_of, place_cmp_total, is_same_key, place_cmp, key_suffix, has_names, is_below, is_at_or_below}
use Rattle.ados_ram.specs.Files.{Files, OthersStay}
use Rattle.ados_ram.specs.FileOperations.{append_of, is_put, put_open_of, rename_of, with_entry_changed, protect_of, comment_of}
use Rattle.ados_ram.specs.Entry.{with_bits, with_comment}
use Rattle.ados_ram.proofs.FilesLemmas.{clash, nothing, same}
use Rattle.ados_ram.proofs.RenameLemmas.{at_or_below, after-exact, false_of, get-moved_out}
use Rattle.ados_ram.proofs.RenamedFiles.{none_of}
use Rattle.ados_ram.proofs.ContentsLaws.{key-twice}

turned : (a b : Key) → is_same_key a b ≡ false → is_same_key b a ≡ false
turned a b h = ap is_eq (place_cmp_total.antisymm b a) ∙ still (place_cmp a b) ∙ h
  where
    still : (o : Ordering) → is_eq (ordering_reverse o) ≡ is_eq o
    still Less = refl
    still Equal = refl
    still Greater = refl

pub insert-stays : (files : Files) (key : Key) (new : Entry) → OthersStay (is_same_key key) files (map.insert files key new)
insert-stays files key new place h = get-insert place_cmp_total files key new place ∙ ap (λ b. cond b (Some new) (map.get files place)) (turned key place h)

pub remove-stays : (files : Files) (key : Key) → OthersStay (is_same_key key) files (map.remove files key)
remove-stays files key place h = get-remove place_cmp_total files key place ∙ ap (λ b. cond b nothing (map.get files place)) (turned key place h)

pub put-stays : (files : Files) (key : Key) (name bytes : List ℕ) → OthersStay (is_same_key key) files (put_open_of files key name bytes)
put-stays files key name bytes place h =
    elim (is_put (map.get files key) bytes) as (λ b. map.get (cond b (append_of files key name bytes) files) place ≡ map.get files place) [ true ↦ insert-stays files key _ place h | false ↦ refl ]

changed-stays : (files : Files) (key : Key) (change : Entry → Entry) (there : Option Entry) → OthersStay (is_same_key key) files (with_entry_changed files key change there)
changed-stays files key change None place h = refl
changed-stays files key change (Some e) place h = insert-stays files key (change e) place h

pub protect-stays : (files : Files) (key : Key) (bits : Bits) → OthersStay (is_same_key key) files (protect_of files key bits)
protect-stays files key bits = changed-stays files key (with_bits bits) (map.get files key)

pub comment-stays : (files : Files) (key : Key) (comment : List ℕ) → OthersStay (is_same_key key) files (comment_of files key comment)
comment-stays files key comment = changed-stays files key (with_comment comment) (map.get files key)

pub neither : (a b : Bool) → (a || b) ≡ false → (a ≡ false) × (b ≡ false)
neither true b h = clash (sym h)
neither false b h = (refl, h)

pub rename-stays : (files : Files) (from to : Key) (name : List ℕ) → OthersStay (λ place. is_at_or_below from place || is_at_or_below to place) files (rename_of files from to name)
rename-stays files from to name place h =
    let out = neither (is_at_or_below from place) (is_at_or_below to place) h in
    get-moved_out files from to name place (none_of (key_suffix to place) out.1) ∙ ap (λ b. cond b nothing (map.get files place)) out.0

-- what is not at or below a place is not at or below one in it, nor is it that one
pub none-below : (to names : Place) (key : Key) → is_at_or_below (key_of to) key ≡ false → is_at_or_below (key_of (to ++ names)) key ≡ false
none-below to names key out = false_of _ (λ h.
    elim (key_suffix (key_of (to ++ names)) key) as (λ o. key_suffix (key_of (to ++ names)) key ≡ o → ⊥) [
      | None ↦ λ p. clash (sym (ap is_some p) ∙ h)
      | Some way ↦ λ p. clash (sym out ∙ at_or_below (key_of to) (key_of names ++ way) key (after-exact (key_of (to ++ names)) key way p ∙ ap (λ q. q ++ way) (map-append folded_text to names) ∙ append_assoc (key_of to) (key_of names) way))
    ] refl)

pub place-outside : (to names : Place) (key : Key) → is_at_or_below (key_of to) key ≡ false → is_same_key (key_of (to ++ names)) key ≡ false
place-outside to names key out = false_of _ (λ h. clash (sym out ∙ at_or_below (key_of to) (key_of names) key (sym (same (key_of (to ++ names)) key h) ∙ map-append folded_text to names)))

-- nor is it one that is listed below the place
pub contents-outside : (place q : Place) (key : Key) → is_below (key_of place) q ≡ true → is_at_or_below (key_of place) key ≡ false → is_same_key (key_of q) key ≡ false
contents-outside place q key below out = false_of _ (λ h.
    elim (key_suffix (key_of place) q) as (λ o. key_suffix (key_of place) q ≡ o → ⊥) [
      | None ↦ λ p. clash (sym (ap has_names p) ∙ below)
      | Some way ↦ λ p. clash (sym out ∙ at_or_below (key_of place) (key_of way) key (sym (same (key_of q) key h) ∙ ap key_of (after-exact (key_of place) q way p) ∙ map-append folded_text (key_of place) way ∙ ap (λ d. d ++ key_of way) (key-twice place)))
    ] refl)
