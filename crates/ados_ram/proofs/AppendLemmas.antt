-- To append nothing to a file without bit a leaves the files as they are.
use Rattle.std.proofs.Common.{◌≡◌, Bool, true, false, cond, not, ◌&&◌, ◌==◌, [], ◌∷◌, ◌++◌, length, arith, Some, None, refl, sym, ap, ◌∙◌}
use Rattle.std.proofs.lemmas.List.{append-nil}
use Rattle.std.proofs.lemmas.Bool.Decides.{nat_tests}
use Rattle.std.specs.FinMap as map
use Rattle.std.specs.FinMap.{get-insert, same_map}
use Rattle.ados_text.specs.Text.{Bytes}
use Rattle.ados_text.specs.Name.{Name}
use Rattle.ados_ram.specs.declared.entries.Body.{Body}
use Rattle.ados_ram.specs.declared.entries.Body.TheVariants.{Directory, File}
use Rattle.ados_ram.specs.declared.entries.Entry.{Entry}
use Rattle.ados_ram.specs.Place.{Key, place_cmp_total, place_cmp_exact, is_same_key}
use Rattle.ados_ram.specs.Entry.{bytes_of, bytes_of_body, file_entry, is_directory, is_directory_body, without_archive_bit}
use Rattle.ados_ram.specs.Files.{Files, entry_bytes}
use Rattle.ados_ram.specs.FileOperations.{append_of, is_unarchived_file}
use Rattle.ados_ram.proofs.FilesLemmas.{same}

-- what is there is put there again
again : (m : Files) (key : Key) (e : Entry) → map.get m key ≡ Some e → map.insert m key e ≡ m
again m key e there = same_map place_cmp_total place_cmp_exact _ _ (λ q.
    get-insert place_cmp_total m key e q
    ∙ elim (is_same_key q key) as (λ b. is_same_key q key ≡ b → cond b (Some e) (map.get m q) ≡ map.get m q) [
      | true ↦ λ h. sym (ap (map.get m) (same q key h) ∙ there)
      | false ↦ λ h. refl
    ] refl)

left : (a b : Bool) → (a && b) ≡ true → a ≡ true
left true b h = refl
left false b h = h

right : (a b : Bool) → (a && b) ≡ true → b ≡ true
right true b h = h
right false b h = cc

off : (a : Bool) → not a ≡ true → false ≡ a
off true h = cc
off false h = refl

-- a file holds its own bytes
body_again : (b : Body) → not (is_directory_body b) ≡ true → File (bytes_of_body b ++ []) ≡ b
body_again Directory h = cc
body_again (File bytes) h = ap File (append-nil bytes)

own : (e : Entry) (name : Name) → is_unarchived_file (Some e) ≡ true → file_entry (Some e) name (bytes_of e ++ []) ≡ e
own e name h =
    ap (λ (b : Body). record e { body = b; bits = without_archive_bit e.bits }) (body_again e.body (left _ _ h))
    ∙ ap (λ (a : Bool). record e { bits = record e.bits { archive = a } }) (off e.bits.archive (right (not (is_directory e)) _ h))

pub nothing_appended : (m : Files) (key : Key) (name : Name) (bytes : Bytes) → true ≡ (length bytes == 0) → is_unarchived_file (map.get m key) ≡ true → append_of m key name bytes ≡ m
nothing_appended m key name [] none h =
    elim (map.get m key) as (λ o. map.get m key ≡ o → is_unarchived_file o ≡ true → map.insert m key (file_entry o name (entry_bytes o ++ [])) ≡ m) [
      | None ↦ λ there f. cc
      | Some e ↦ λ there f. ap (map.insert m key) (own e name f) ∙ again m key e there
    ] refl h
nothing_appended m key name (b ∷ bytes) none h = absurd (grind (arith, nat_tests))
