-- What a word stands for is what a manual says, place by place.
use Rattle.std.proofs.Common.{◌≡◌, ◌∙◌, List, [], ◌∷◌, ◌++◌, true, false, map, Option, Some, None, Result, Ok, Err, refl, ap, sym, inl, inr, if◌then◌else◌}
use Rattle.std.specs.Prelude.{codes}
use Rattle.std.specs.FinMap as finite
use Rattle.std.specs.Option.{option_or}
use Rattle.std.proofs.lemmas.Bool.{cases_Bool}
use Rattle.ados_text.specs.Text.{Text}
use Rattle.ados_ram.specs.Entry.{is_directory, bytes_of}
use Rattle.ados_ram.specs.Place.{Place, key_of}
use Rattle.ados_ram.specs.Files.{is_some_directory}
use Rattle.ados_ram.specs.declared.entries.Entry.{Entry}
use Rattle.ados_find.specs.declared.codes.Codes.{Codes}
use Rattle.ados_find.specs.declared.search.Found.{Found}
use Rattle.ados_find.specs.declared.search.Found.TheVariants as found
use Rattle.ados_find.specs.Paths.{place_of}
use Rattle.ados_find.specs.Search.{is_path, file_kind, file_lookup, file_of_entry, first_file, file_or, found_file, found_of, found_program, directory_or_unknown, internal_or, entry_listed, places_of_entries}
use Rattle.ados_find.specs.Shared.{SharedState}
use Rattle.ados_resident.specs.declared.programs.Program.{Program}
use Rattle.ados_resident.specs.declared.residents.Internal.{Internal}
use Rattle.ados_resident.specs.declared.residents.Resident.{Resident}
use Rattle.ados_resident.specs.Programs.{recognized_program}
use Rattle.ados_resident.specs.Residents.{resident_internal, entry_in}
use Rattle.ados_machine.specs.LookupOrder.{as_program, as_file, file_there, file_at, directory_there, directory_at_place, file_from, directory_from, file_on_path, if_enabled, if_listed, places_in_order, first_there, WordsAreLookedUpInOrder}

program-is : (place : Place) (program : Option Program) → found_program place program ≡ as_program place program
program-is place None = refl
program-is place (Some program) = refl

kind-is : (shared : SharedState) (place : Place) (entry : Entry) → file_kind shared place entry ≡ as_file shared place entry
kind-is shared place entry = rw (program-is place (recognized_program shared.dialect shared.hosts (bytes_of entry))) refl

there-is : (shared : SharedState) (place : Place) (entry : Option Entry) → file_of_entry shared place entry ≡ file_there shared place entry
there-is shared place None = refl
there-is shared place (Some entry) = rw (kind-is shared place entry) refl

file-is : (shared : SharedState) (at : Result Place Codes) → file_lookup shared at ≡ file_at shared at
file-is shared (Err codes) = refl
file-is shared (Ok place) = there-is shared place (finite.get shared.files (key_of place))

-- the first that is there: a file, or what comes after it
first-is : (it : Option Found) (others : List (Option Found)) → file_or it (first_there others) ≡ first_there (it ∷ others)
first-is None others = refl
first-is (Some it) others = refl

or-first : (it other : Option Found) (others : List (Option Found)) → file_or (option_or it other) (first_there others) ≡ first_there (it ∷ other ∷ others)
or-first None other others = first-is other others
or-first (Some it) other others = refl

one-first : (it : Option Found) (others rest : List (Option Found)) → first_there others ≡ first_there rest → first_there (it ∷ others) ≡ first_there (it ∷ rest)
one-first None others rest same = same
one-first (Some it) others rest same = refl

directory-there : (place : Place) (entry : Option Entry) → (if is_some_directory entry then found.Directory place else found.Unknown) ≡ first_there (directory_there place entry ∷ [])
directory-there place None = refl
directory-there place (Some entry) = elim (cases_Bool (is_directory entry)) [
  | inl e ↦ rw e refl
  | inr e ↦ rw e refl
]

directory-is : (shared : SharedState) (at : Result Place Codes) → directory_or_unknown shared.files at ≡ first_there (directory_at_place shared at ∷ [])
directory-is shared (Err codes) = refl
directory-is shared (Ok place) = directory-there place (finite.get shared.files (key_of place))

-- the first file at some places
files-first : (shared : SharedState) (places : List (Result Place Codes)) (others : List (Option Found)) →
    file_or (first_file shared places) (first_there others) ≡ first_there (map (file_at shared) places ++ others)
files-first shared [] others = refl
files-first shared (place ∷ places) others =
    or-first (file_lookup shared place) (first_file shared places) others
    ∙ (ap (λ it. first_there (it ∷ first_file shared places ∷ others)) (file-is shared place)
    ∙ one-first (file_at shared place) (first_file shared places ∷ others) (map (file_at shared) places ++ others)
    (sym (first-is (first_file shared places) others) ∙ files-first shared places others))

-- an entry of the path that is no directory counts for nothing
path-first : (shared : SharedState) (path : List Place) (word : Text) (places : List (Result Place Codes)) (others : List (Option Found)) →
    file_or (first_file shared (places_of_entries shared path word ++ places)) (first_there others)
    ≡ first_there (map (file_on_path shared word) path ++ (map (file_at shared) places ++ others))
path-first shared [] word places others = files-first shared places others
path-first shared (entry ∷ path) word places others = by-entry (finite.get shared.files (key_of entry)) refl (path-first shared path word places others)
  where
    by-entry : (there : Option Entry) → finite.get shared.files (key_of entry) ≡ there →
        file_or (first_file shared (places_of_entries shared path word ++ places)) (first_there others)
        ≡ first_there (map (file_on_path shared word) path ++ (map (file_at shared) places ++ others)) →
        file_or (first_file shared (places_of_entries shared (entry ∷ path) word ++ places)) (first_there others)
        ≡ first_there (map (file_on_path shared word) (entry ∷ path) ++ (map (file_at shared) places ++ others))
    by-entry None is on = rw is on
    by-entry (Some it) is on = elim (cases_Bool (is_directory it)) [
      | inl e ↦ rw (is, e)
          (or-first (file_lookup shared (place_of shared entry word)) (first_file shared (places_of_entries shared path word ++ places)) others
          ∙ (ap (λ file. first_there (file ∷ first_file shared (places_of_entries shared path word ++ places) ∷ others)) (file-is shared (place_of shared entry word))
          ∙ one-first (file_from shared entry word) _ _ (sym (first-is (first_file shared (places_of_entries shared path word ++ places)) others) ∙ on)))
      | inr e ↦ rw (is, e) on
    ]

listed-first : (internal : Option Internal) (entry : Option Resident) (others : List (Option Found)) →
    file_or (internal_or internal (entry_listed entry)) (first_there others) ≡ first_there (if_enabled internal ∷ if_listed entry ∷ others)
listed-first None None others = refl
listed-first None (Some entry) others = refl
listed-first (Some internal) entry others = elim (cases_Bool internal.is_disabled) [
  | inl e ↦ rw e (by-entry entry)
  | inr e ↦ rw e refl
]
  where
    by-entry : (entry : Option Resident) → file_or (entry_listed entry) (first_there others) ≡ first_there (None ∷ if_listed entry ∷ others)
    by-entry None = refl
    by-entry (Some entry) = refl

-- the files and the directory of a word that is no path
unlisted-is : (shared : SharedState) (directory : Place) (path : List Place) (word : Text) → is_path word ≡ false →
    found_file shared directory path word
    ≡ first_there (file_from shared directory word ∷ (map (file_on_path shared word) path ++ file_from shared directory (codes "C:" ++ word) ∷ directory_from shared directory word ∷ []))
unfolding found_file
unlisted-is shared directory path word plain =
    let last = place_of shared directory (codes "C:" ++ word) ∷ [] in
    let others = directory_from shared directory word ∷ [] in
    rw (plain, directory-is shared (place_of shared directory word))
    (or-first (file_lookup shared (place_of shared directory word)) (first_file shared (places_of_entries shared path word ++ last)) others
    ∙ (ap (λ file. first_there (file ∷ first_file shared (places_of_entries shared path word ++ last) ∷ others)) (file-is shared (place_of shared directory word))
    ∙ one-first (file_from shared directory word) _ _ (sym (first-is (first_file shared (places_of_entries shared path word ++ last)) others) ∙ path-first shared path word last others)))

path-is : (shared : SharedState) (directory : Place) (path : List Place) (word : Text) → is_path word ≡ true →
    found_file shared directory path word ≡ first_there (file_from shared directory word ∷ directory_from shared directory word ∷ [])
unfolding found_file
path-is shared directory path word plain =
    rw (plain, directory-is shared (place_of shared directory word)) (files-first shared (place_of shared directory word ∷ []) (directory_from shared directory word ∷ []))

word-is : (shared : SharedState) (directory : Place) (path : List Place) (word : Text) →
    found_of shared directory path word ≡ first_there (places_in_order shared directory path word)
word-is shared directory path word =
    elim (cases_Bool (is_path word)) [
      | inl plain ↦ rw plain (path-is shared directory path word plain)
      | inr plain ↦ rw (plain, unlisted-is shared directory path word plain) (listed-first (resident_internal shared.residents word) (entry_in shared.residents word) _)
    ]

pub words-in-order : WordsAreLookedUpInOrder
words-in-order w shell word = word-is w.shared shell.parts.directory shell.parts.settings.path word
