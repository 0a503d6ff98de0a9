-- The cache: one more pair, and what a pair says of a text.
use Rattle.std.proofs.Common.{◌≡◌, ◌∙◌, ℕ, Bool, true, false, List, [], ◌∷◌, ◌++◌, Result, Ok, Err, refl, ap, sym, length, drop}
use Rattle.std.specs.Prelude.{if◌then◌else◌}
use Rattle.std.specs.List.{IsSplitAt}
use Rattle.std.specs.Str.{bytes_eq}
use Rattle.std.proofs.lemmas.Slice.Eq.{bytes_eq-Decides}
use Rattle.std.proofs.lemmas.List.{take-append-drop}
use Rattle.std.specs.List.{Contains}
use Rattle.std.proofs.lemmas.List.Elements.{All-cons, All-contains, All-contains_itself, All-nil, All-push, All-same, All-weaker, Contains-append_left, Contains-append_right, Contains-push}
use Rattle.ados_text.specs.Text.{Text}
use Rattle.ados_text.specs.declared.codes.Result2.{Result2}
use Rattle.ados_names.specs.Path.{PathParts, path_of}
use Rattle.ados_ram.specs.Place.{Place}
use Rattle.ados_find.specs.declared.cache.Known.{Known}
use Rattle.ados_find.specs.Cache.{AreResolved, IsKept, IsResolved, text_resolved}
use Rattle.ados_find.specs.Paths.{or_error_codes, place_by, place_of}
use Rattle.ados_find.specs.Shared.{SharedState}
use Rattle.ados_assign.specs.Assigns.{AssignMap}
use Rattle.ados_assign.specs.Resolve.{by_path, resolve_path}
use Rattle.ados_ram.specs.Files.{Files}

pair_there : (old : List Known) (pair : Known) → Contains (pair ∷ old) pair
pair_there old pair = Contains-append_left (pair ∷ []) old pair (Contains-push [] pair)

-- what was known before is kept, alone or with the pair after it; or nothing
pub kept_old : (old : List Known) (pair : Known) → IsKept old pair old
unfolding IsKept
kept_old old pair =
    All-weaker (Contains old) (Contains (pair ∷ old)) (λ x. Contains-append_right (pair ∷ []) old x) old (All-contains_itself old)

pub kept_more : (old : List Known) (pair : Known) → IsKept old pair (old ++ pair ∷ [])
unfolding IsKept
kept_more old pair = All-push (Contains (pair ∷ old)) old pair (kept_old old pair) (pair_there old pair)

pub kept_none : (old : List Known) (pair : Known) → IsKept old pair []
unfolding IsKept
kept_none old pair = All-nil (Contains (pair ∷ old))

-- each pair is what resolving gives, also after a pair was kept for which that holds
pub all_resolved : (assigns : AssignMap) (files : Files) (old new : List Known) (pair : Known) →
    AreResolved assigns files old → IsResolved assigns files pair → IsKept old pair new → AreResolved assigns files new
unfolding IsKept
all_resolved assigns files old new pair all is kept =
    All-weaker (Contains (pair ∷ old)) (IsResolved assigns files)
    (λ x there. All-contains (IsResolved assigns files) (pair ∷ old) x (All-cons (IsResolved assigns files) pair old is all) there) new kept

place_resolved : (s : SharedState) (directory : Place) (path : Result PathParts Result2) →
    place_by s directory path ≡ or_error_codes (by_path (resolve_path s.assigns s.files directory) path)
place_resolved s directory (Ok path) = refl
place_resolved s directory (Err fault) = refl

pub place_known : (s : SharedState) (directory place : Place) (text : Text) →
    text_resolved s.assigns s.files directory text ≡ Ok place → place_of s directory text ≡ Ok place
place_known s directory place text e = rw (place_resolved s directory (path_of text), e) refl

-- a call of `push`, and one on a list that was emptied before
pub kept_push : (ok : Bool) (old new : List Known) (pair : Known) → new ≡ (if ok then old ++ pair ∷ [] else old) → IsKept old pair new
unfolding IsKept
kept_push true old new pair e = All-same (Contains (pair ∷ old)) new (old ++ pair ∷ []) e (kept_more old pair)
kept_push false old new pair e = All-same (Contains (pair ∷ old)) new old e (kept_old old pair)

pub kept_anew : (old new : List Known) (pair : Known) → IsKept [] pair new → IsKept old pair new
unfolding IsKept
kept_anew old new pair kept =
    All-weaker (Contains (pair ∷ [])) (Contains (pair ∷ old)) (λ x. Contains-append_left (pair ∷ []) old x) new kept

-- bytes cut at a place are the two parts joined
pub joined : (bytes front word start end : List ℕ) → IsSplitAt bytes (length front) start end → bytes_eq start front ≡ true → bytes_eq end word ≡ true →
    bytes ≡ front ++ word
joined bytes front word start end (within, start-is, end-is, front-length, lengths) front-is word-is =
    sym (take-append-drop (length front) bytes)
    ∙ ap (λ xs. xs ++ drop (length front) bytes) (sym start-is ∙ (bytes_eq-Decides start front).0 front-is)
    ∙ ap (λ xs. front ++ xs) (sym end-is ∙ (bytes_eq-Decides end word).0 word-is)
