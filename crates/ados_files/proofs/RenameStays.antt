-- What Rename leaves unchanged: each place that is not at or below TO or what FROM names.
use Rattle.std.proofs.Common.{◌≡◌, ℕ, Bool, true, false, not, ◌&&◌, ◌||◌, List, [], ◌∷◌, ◌++◌, Option, Some, None, Result, Ok, Err, refl, ap, ◌∙◌, if◌then◌else◌}
use Rattle.std.specs.FinMap as map
use Rattle.std.specs.Prelude.{cond}
use Rattle.std.specs.List.{AllByRecursion}
use Rattle.ados_text.specs.declared.codes.Result2.{Result2}
use Rattle.ados_text.specs.declared.codes.TheConstants.Result2.{WRONG_TYPE}
use Rattle.ados_readargs.specs.declared.args.Arg.{Arg}
use Rattle.ados_readargs.specs.Args.{option_text, option_texts}
use Rattle.ados_ram.specs.declared.entries.Entry.{Entry}
use Rattle.ados_ram.specs.Place.{Place, Key, key_of, last_name, is_same_key, is_at_or_below}
use Rattle.ados_ram.specs.Entry.{is_directory}
use Rattle.ados_ram.specs.InUse.{InUse}
use Rattle.ados_ram.specs.Files.{Files, OthersStay, is_some_directory}
use Rattle.ados_ram.specs.FileOperations.{rename_fault, rename_of}
use Rattle.ados_ram.proofs.StayLemmas.{neither, none-below, rename-stays}
use Rattle.ados_find.specs.declared.codes.Codes.{Codes}
use Rattle.ados_find.specs.declared.outcomes.Renamed.{Renamed}
use Rattle.ados_find.specs.Codes.{error_codes}
use Rattle.ados_find.specs.Shared.{SharedState}
use Rattle.ados_find.specs.Views.{View}
use Rattle.ados_find.specs.Effects.{codes_effect, if_found, if_given, unless_refused}
use Rattle.ados_find.specs.Paths.{place_of}
use Rattle.ados_files.specs.declared.options.TheConstants.{RENAME_FROM, RENAME_TO}
use Rattle.ados_files.specs.declared.rename.Sources.{Sources}
use Rattle.ados_files.specs.declared.rename.Sources.TheVariants.{Alone, Several}
use Rattle.ados_files.specs.Gather.{Gathered, gather_each, gather_moves, gather_one, gather_there, move_into, moves_into, nothing_gathered, stop_gathering, unless_gathering_stopped}
use Rattle.ados_files.specs.Rename.{destination, rename_by_texts, rename_effect, rename_entry, rename_row, rename_sources, rename_to, rename_to_text}
use Rattle.ados_files.specs.MayChange.{is_under, is_under_any, is_under_path, is_under_sources, rename_may_change}
use Rattle.ados_files.proofs.Stays.{Stay, stay-kept}

abbrev Both : Place → Place → Key → Bool
Both from to key = is_at_or_below (key_of from) key || is_at_or_below (key_of to) key

unless-stays : (fault : Option Result2) (shared : SharedState) (from to : Place) → OthersStay (Both from to) shared.files (unless_refused (codes_effect shared) fault (rename_effect shared from to)).shared.files
unless-stays None shared from to = rename-stays shared.files (key_of from) (key_of to) (last_name to)
unless-stays (Some fault) shared from to = λ key out. refl

-- the target is TO or an object in it
target-outside : (files : Files) (from : Place) (e : Entry) (to : Place) (key : Key) → is_at_or_below (key_of to) key ≡ false → is_at_or_below (key_of (destination files from e to)) key ≡ false
target-outside files from e to key out =
    elim (is_some_directory (map.get files (key_of to)) && not (is_same_key (key_of to) (key_of from))) as (λ b. is_at_or_below (key_of (if b then to ++ e.name ∷ [] else to)) key ≡ false) [
      | true ↦ none-below to (e.name ∷ []) key out
      | false ↦ out
    ]

or-neither : (a b : Bool) → a ≡ false → b ≡ false → (a || b) ≡ false
or-neither a b p q = ap (λ x. x || b) p ∙ q

from-stays : (shared : SharedState) (view : View) (from : Place) (there : Option Entry) (to : Place) → OthersStay (Both from to) shared.files (rename_entry shared view from there to).shared.files
from-stays shared view from None to key out = refl
from-stays shared view from (Some e) to key out =
    let apart = neither (is_at_or_below (key_of from) key) (is_at_or_below (key_of to) key) out in
    let target = destination shared.files from e to in
    unless-stays (rename_fault view.busy shared.files (key_of from) (key_of target)) shared from target key
    (or-neither (is_at_or_below (key_of from) key) (is_at_or_below (key_of target) key) apart.0 (target-outside shared.files from e to key apart.1))

-- what FROM names, and TO
abbrev These : List Place → Place → Key → Bool
These places to key = is_under_any places key || is_at_or_below (key_of to) key

-- an object that is among these, and a place in TO for it
record IsMove (places : List Place) (to : Place) (move : Renamed) : Type 0 where
  from : (key : Key) → is_under_any places key ≡ false → is_at_or_below (key_of move.from) key ≡ false
  into : (key : Key) → is_at_or_below (key_of to) key ≡ false → is_at_or_below (key_of move.to) key ≡ false

after-fault : (may_change : Key → Bool) (fault : Option Result2) (gathered next : Gathered) → Stay may_change gathered.done.shared next.done.shared →
    Stay may_change gathered.done.shared (unless_refused (stop_gathering gathered) fault next).done.shared
after-fault may_change None gathered next h = h
after-fault may_change (Some fault) gathered next h = λ key out. refl

after-stop : (may_change : Key → Bool) (stopped : Option Codes) (gathered next : Gathered) → Stay may_change gathered.done.shared next.done.shared →
    Stay may_change gathered.done.shared (unless_gathering_stopped stopped gathered next).done.shared
after-stop may_change None gathered next h = h
after-stop may_change (Some codes) gathered next h = λ key out. refl

move-stays : (places : List Place) (to : Place) (files : Files) (move : Renamed) → IsMove places to move →
    OthersStay (These places to) files (rename_of files (key_of move.from) (key_of move.to) (last_name move.to))
move-stays places to files move is key out =
    let apart = neither (is_under_any places key) (is_at_or_below (key_of to) key) out in
    rename-stays files (key_of move.from) (key_of move.to) (last_name move.to) key
    (or-neither (is_at_or_below (key_of move.from) key) (is_at_or_below (key_of move.to) key) (is.from key apart.0) (is.into key apart.1))

one-stays : (busy : InUse) (places : List Place) (to : Place) (gathered : Gathered) (move : Renamed) → IsMove places to move →
    Stay (These places to) gathered.done.shared (gather_one busy gathered move).done.shared
one-stays busy places to gathered move is =
    after-fault (These places to) (rename_fault busy gathered.done.shared.files (key_of move.from) (key_of move.to)) gathered _
    (move-stays places to gathered.done.shared.files move is)

all-stay : (busy : InUse) (places : List Place) (to : Place) (gathered : Gathered) (moves : List Renamed) → AllByRecursion (IsMove places to) moves →
    Stay (These places to) gathered.done.shared (gather_each busy gathered moves).done.shared
all-stay busy places to gathered [] all = λ key out. refl
all-stay busy places to gathered (move ∷ moves) all =
    let next = gather_one busy gathered move in
    after-stop (These places to) gathered.done.stopped gathered (gather_each busy next moves)
    ((stay-kept (These places to)).joined gathered.done.shared next.done.shared (gather_each busy next moves).done.shared
    (one-stays busy places to gathered move all.0) (all-stay busy places to next moves all.1))

-- each move that is planned is one of these
one-planned : (places : List Place) (to place : Place) (there : Option Entry) (moves : List Renamed) →
    ((key : Key) → is_under_any places key ≡ false → is_at_or_below (key_of place) key ≡ false) → AllByRecursion (IsMove places to) moves →
    AllByRecursion (IsMove places to) (move_into to place there ++ moves)
one-planned places to place None moves apart all = all
one-planned places to place (Some e) moves apart all = (record { from = apart; into = λ key out. none-below to (e.name ∷ []) key out }, all)

all-planned : (files : Files) (to : Place) (places more : List Place) →
    ((key : Key) → is_under_any places key ≡ false → is_under_any more key ≡ false) → AllByRecursion (IsMove places to) (moves_into files to more)
all-planned files to places [] among = tt
all-planned files to places (place ∷ more) among =
    one-planned places to place (map.get files (key_of place)) (moves_into files to more)
    (λ key out. (neither (is_at_or_below (key_of place) key) (is_under_any more key) (among key out)).0)
    (all-planned files to places more (λ key out. (neither (is_at_or_below (key_of place) key) (is_under_any more key) (among key out)).1))

gather-stays : (shared : SharedState) (view : View) (places : List Place) (to : Place) (there : Option Entry) →
    OthersStay (These places to) shared.files (gather_there shared view places to there).shared.files
gather-stays shared view places to None = λ key out. refl
gather-stays shared view places to (Some e) =
    elim (is_directory e) as (λ b. OthersStay (These places to) shared.files (cond b (gather_moves shared view (moves_into shared.files to places)) (codes_effect shared (error_codes WRONG_TYPE))).shared.files) [
      | true ↦ all-stay view.busy places to (nothing_gathered shared) (moves_into shared.files to places) (all-planned shared.files to places places (λ key out. out))
      | false ↦ λ key out. refl
    ]

sources-stay : (shared : SharedState) (view : View) (sources : Sources) (to : Place) →
    OthersStay (λ key. is_under_sources (Ok sources) key || is_at_or_below (key_of to) key) shared.files (rename_to shared view sources to).shared.files
sources-stay shared view (Alone from) to = from-stays shared view from (map.get shared.files (key_of from)) to
sources-stay shared view (Several found) to = gather-stays shared view found.places to (map.get shared.files (key_of to))

to-stays : (shared : SharedState) (view : View) (sources : Sources) (to : Result Place Codes) →
    OthersStay (λ key. is_under_sources (Ok sources) key || is_under to key) shared.files (if_found (codes_effect shared) to (rename_to shared view sources)).shared.files
to-stays shared view sources (Err codes) = λ key out. refl
to-stays shared view sources (Ok to) = sources-stay shared view sources to

at-stays : (shared : SharedState) (view : View) (sources : Result Sources Codes) (to : List ℕ) →
    OthersStay (λ key. is_under_sources sources key || is_under_path shared view (Some to) key) shared.files (if_found (codes_effect shared) sources (rename_to_text shared view to)).shared.files
at-stays shared view (Err codes) to = λ key out. refl
at-stays shared view (Ok sources) to = to-stays shared view sources (place_of shared view.parts.directory to)

texts-stay : (shared : SharedState) (view : View) (from : List (List ℕ)) (to : Option (List ℕ)) →
    OthersStay (λ key. is_under_sources (rename_sources shared view.parts.directory from) key || is_under_path shared view to key) shared.files (if_given (codes_effect shared) to (rename_by_texts shared view from)).shared.files
texts-stay shared view from None = λ key out. refl
texts-stay shared view from (Some to) = at-stays shared view (rename_sources shared view.parts.directory from) to

pub rename-row-stays : (shared : SharedState) (view : View) (args : List Arg) → OthersStay (rename_may_change shared view args) shared.files (rename_row shared view args).shared.files
rename-row-stays shared view args = texts-stay shared view (option_texts args RENAME_FROM) (option_text args RENAME_TO)
