-- What a word that is not a path stands for apart from the resident list: what is found before C:, or otherwise there.
use Rattle.std.proofs.Common.{◌≡◌, ◌∙◌, List, [], ◌∷◌, ◌++◌, false, Option, Some, None, Result, refl, ap}
use Rattle.std.specs.Prelude.{codes}
use Rattle.std.specs.Option.{option_or}
use Rattle.ados_text.specs.Text.{Text}
use Rattle.ados_ram.specs.Place.{Place}
use Rattle.ados_find.specs.declared.codes.Codes.{Codes}
use Rattle.ados_find.specs.declared.search.Found.{Found}
use Rattle.ados_find.specs.Paths.{place_of}
use Rattle.ados_find.specs.Search.{directory_or_unknown, file_lookup, file_or, first_file_before_c, first_file, found_file, found_in_c, is_path, places_before_c}
use Rattle.ados_find.specs.Shared.{SharedState}

or-assoc : (a b c : Option Found) → option_or a (option_or b c) ≡ option_or (option_or a b) c
or-assoc None b c = refl
or-assoc (Some found) b c = refl

first-append : (s : SharedState) (places more : List (Result Place Codes)) →
    first_file s (places ++ more) ≡ option_or (first_file s places) (first_file s more)
first-append s [] more = refl
first-append s (place ∷ places) more =
    ap (option_or (file_lookup s place)) (first-append s places more) ∙ or-assoc (file_lookup s place) (first_file s places) (first_file s more)

or-none : (a : Option Found) → option_or a None ≡ a
or-none None = refl
or-none (Some found) = refl

abbrev in_c : SharedState → Place → Text → Result Place Codes
in_c s directory word = place_of s directory (codes "C:" ++ word)

plain-found : (s : SharedState) (directory : Place) (path : List Place) (word : Text) → is_path word ≡ false →
    found_file s directory path word
    ≡ file_or (option_or (first_file_before_c s directory path word) (file_lookup s (in_c s directory word))) (directory_or_unknown s.files (place_of s directory word))
unfolding found_file
plain-found s directory path word plain =
    rw (plain, first-append s (places_before_c s directory path word) (in_c s directory word ∷ []), or-none (file_lookup s (in_c s directory word))) refl

-- if a file is found before C:
pub found-before : (s : SharedState) (directory : Place) (path : List Place) (word : Text) (found : Found) → is_path word ≡ false →
    first_file_before_c s directory path word ≡ Some found → found_file s directory path word ≡ found
found-before s directory path word found plain is =
    plain-found s directory path word plain
    ∙ ap (λ before. file_or (option_or before (file_lookup s (in_c s directory word))) (directory_or_unknown s.files (place_of s directory word))) is

-- and if there is none
pub found-after : (s : SharedState) (directory : Place) (path : List Place) (word : Text) → is_path word ≡ false →
    first_file_before_c s directory path word ≡ None → found_file s directory path word ≡ found_in_c s directory word
found-after s directory path word plain is =
    plain-found s directory path word plain
    ∙ ap (λ before. file_or (option_or before (file_lookup s (in_c s directory word))) (directory_or_unknown s.files (place_of s directory word))) is
