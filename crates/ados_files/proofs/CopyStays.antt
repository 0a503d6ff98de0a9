-- What Copy leaves unchanged: each place that is not at or below TO.
use Rattle.std.proofs.Common.{◌≡◌, ℕ, Bool, true, false, cond, List, [], ◌∷◌, ◌++◌, Option, Some, None, Result, Ok, Err, refl, sym, ap, ◌∙◌, subst, append_assoc, if◌then◌else◌}
use Rattle.std.proofs.lemmas.List.{append-nil}
use Rattle.std.specs.List.{AllByRecursion}
use Rattle.std.specs.FinMap as map
use Rattle.ados_text.specs.declared.codes.Result2.{Result2}
use Rattle.ados_text.specs.declared.codes.TheConstants.Result2.{WRONG_TYPE}
use Rattle.ados_readargs.specs.declared.args.Arg.{Arg}
use Rattle.ados_readargs.specs.Args.{option_texts, option_text, has_switch}
use Rattle.ados_ram.specs.declared.entries.Entry.{Entry}
use Rattle.ados_ram.specs.Place.{Place, Key, key_of, last_name, is_same_key, is_at_or_below}
use Rattle.ados_ram.specs.Entry.{is_directory}
use Rattle.ados_ram.specs.Files.{Files, OthersStay, is_some_directory}
use Rattle.ados_ram.specs.FileOperations.{comment_fault, protect_fault, make_dir_fault}
use Rattle.ados_ram.proofs.StayLemmas.{comment-stays, insert-stays, place-outside, protect-stays}
use Rattle.ados_find.specs.declared.codes.Codes.{Codes}
use Rattle.ados_find.specs.Done.{Done, fresh_work, refused_or, act_on_each}
use Rattle.ados_find.specs.Shared.{SharedState, limits_of}
use Rattle.ados_find.specs.Views.{View}
use Rattle.ados_find.specs.Effects.{codes_effect, if_found, if_given}
use Rattle.ados_find.specs.Paths.{place_of}
use Rattle.ados_files.specs.declared.copy_one.Manner.{Manner}
use Rattle.ados_files.specs.declared.jobs.Job.{Job}
use Rattle.ados_files.specs.declared.options.TheConstants.{COPY_FROM, COPY_TO, COPY_ALL}
use Rattle.ados_files.specs.Copy.{middle_directories, ensure_directory, make_missing, copy_fault, manner_of, written_files, files_unless, noted_files, cloned_files, copied_files, copied_fault, copy_written, copy_unless, copy_entry, copy_one, one_entry, target_directory, copy_to_directory, is_onto, copy_found, copy_to_place, copy_into_target, copy_by_texts, copy_row}
use Rattle.ados_files.specs.Jobs.{all_jobs, target_jobs, sources_of}
use Rattle.ados_files.specs.MakeDir.{make_one}
use Rattle.ados_objects.specs.Names.{FoundPlaces}
use Rattle.ados_files.specs.MayChange.{is_under, is_under_path, copy_may_change}
use Rattle.ados_files.proofs.Stays.{Stay, kept-each, kept-refused, kept-unless, stay-kept}

-- a place at or below another
record IsBelow (to place : Place) : Type 0 where
  pub way : Place
  pub is : place ≡ to ++ way

-- a key that is not at or below a place is none of those below it
apart : (to place : Place) (key : Key) → IsBelow to place → is_at_or_below (key_of to) key ≡ false → is_same_key (key_of place) key ≡ false
apart to place key below out = subst (λ (p : Place). is_same_key (key_of p) key ≡ false) (sym below.is) (place-outside to below.way key out)

made-stays : (to : Place) (done : Done) (place : Place) → IsBelow to place → Stay (is_at_or_below (key_of to)) done.shared (make_one done place).shared
made-stays to done place below =
    kept-refused (stay-kept (is_at_or_below (key_of to))) (make_dir_fault (limits_of done.shared.dialect) done.shared.files (key_of place) (last_name place)) done _
    (λ key out. insert-stays done.shared.files (key_of place) _ key (apart to place key below out))

at-stays : (to : Place) (done : Done) (place : Place) (there : Option Entry) → IsBelow to place → Stay (is_at_or_below (key_of to)) done.shared (ensure_directory done place there).shared
at-stays to done place None below = made-stays to done place below
at-stays to done place (Some e) below =
    elim (is_directory e) as (λ b. Stay (is_at_or_below (key_of to)) done.shared (cond b done (refused_or (Some WRONG_TYPE) done done)).shared) [ true ↦ λ key out. refl | false ↦ λ key out. refl ]

missing-stays : (to : Place) (done : Done) (place : Place) → IsBelow to place → Stay (is_at_or_below (key_of to)) done.shared (make_missing done place).shared
missing-stays to done place below = at-stays to done place (map.get done.shared.files (key_of place)) below

one-further : (to above : Place) (name : List ℕ) → IsBelow to above → IsBelow to (above ++ name ∷ [])
one-further to above name below = record { way = below.way ++ name ∷ []; is = ap (λ p. p ++ name ∷ []) below.is ∙ append_assoc to below.way (name ∷ []) }

between-below : (to above names : Place) → IsBelow to above → AllByRecursion (IsBelow to) (middle_directories above names)
between-below to above [] below = tt
between-below to above (name ∷ []) below = tt
between-below to above (name ∷ next ∷ rest) below = (one-further to above name below, between-below to (above ++ name ∷ []) (next ∷ rest) (one-further to above name below))

itself : (to : Place) → IsBelow to to
itself to = record { way = []; is = sym (append-nil to) }

unless-stays : (fault : Option Result2) (files changed : Files) (key : Key) → OthersStay (is_same_key key) files changed → OthersStay (is_same_key key) files (files_unless fault files changed)
unless-stays None files changed key stay = stay
unless-stays (Some fault) files changed key stay = λ k out. refl

noted-stays : (comment : Bool) (files : Files) (target : Place) (e : Entry) → OthersStay (is_same_key (key_of target)) files (noted_files comment files target e)
noted-stays true files target e = unless-stays (comment_fault files (key_of target) e.comment) files _ (key_of target) (comment-stays files (key_of target) e.comment)
noted-stays false files target e = λ key out. refl

cloned-stays : (bits : Bool) (files : Files) (target : Place) (e : Entry) → OthersStay (is_same_key (key_of target)) files (cloned_files bits files target e)
cloned-stays true files target e = unless-stays (protect_fault files (key_of target)) files _ (key_of target) (protect-stays files (key_of target) e.bits)
cloned-stays false files target e = λ key out. refl

copied-stays : (manner : Manner) (files : Files) (target : Place) (e : Entry) → OthersStay (is_same_key (key_of target)) files (copied_files manner files target e)
copied-stays manner files target e key out =
    let written = written_files manner files target e in
    let noted = noted_files manner.comment written target e in
    cloned-stays manner.bits noted target e key out ∙ noted-stays manner.comment written target e key out ∙ insert-stays files (key_of target) _ key out

written-stays : (view : View) (manner : Manner) (source to names : Place) (e : Entry) (done : Done) → Stay (is_at_or_below (key_of to)) done.shared (copy_written view manner source (to ++ names) e done).shared
written-stays view manner source to names e done =
    kept-refused (stay-kept (is_at_or_below (key_of to))) (copied_fault (limits_of done.shared.dialect) view.busy done.shared.files (to ++ names) e) done _
    (λ key out. copied-stays manner done.shared.files (to ++ names) e key (place-outside to names key out))

entry-stays : (view : View) (manner : Manner) (to : Place) (done : Done) (job : Job) (there : Option Entry) → Stay (is_at_or_below (key_of to)) done.shared (copy_entry view manner to done job there).shared
entry-stays view manner to done job None = λ key out. refl
entry-stays view manner to done job (Some e) =
    let ready = act_on_each make_missing done (middle_directories to job.names) in
    (stay-kept (is_at_or_below (key_of to))).joined done.shared ready.shared (copy_unless view manner job.source (to ++ job.names) e ready).shared
    (kept-each (stay-kept (is_at_or_below (key_of to))) make_missing (IsBelow to) (missing-stays to) done (middle_directories to job.names) (between-below to to job.names (itself to)))
    (kept-unless (stay-kept (is_at_or_below (key_of to))) ready.stopped ready (copy_written view manner job.source (to ++ job.names) e ready) (written-stays view manner job.source to job.names e ready))

one-stays : (view : View) (manner : Manner) (to : Place) (done : Done) (job : Job) → Unit {0} → Stay (is_at_or_below (key_of to)) done.shared (copy_one view manner to done job).shared
one-stays view manner to done job u =
    kept-refused (stay-kept (is_at_or_below (key_of to))) (copy_fault view.busy done.shared.files job.source (to ++ job.names)) done _
    (entry-stays view manner to done job (map.get done.shared.files (key_of job.source)))

all-free : {X : Type 0} (xs : List X) → AllByRecursion (λ _. Unit {0}) xs
all-free [] = tt
all-free (x ∷ xs) = (tt, all-free xs)

jobs-stay : (view : View) (manner : Manner) (to : Place) (done : Done) (jobs : List Job) → Stay (is_at_or_below (key_of to)) done.shared (act_on_each (copy_one view manner to) done jobs).shared
jobs-stay view manner to done jobs = kept-each (stay-kept (is_at_or_below (key_of to))) (copy_one view manner to) (λ _. Unit {0}) (one-stays view manner to) done jobs (all-free jobs)

directory-stays : (one : Bool) (to : Place) (done : Done) (there : Option Entry) → Stay (is_at_or_below (key_of to)) done.shared (target_directory one to done there).shared
directory-stays true to done there = at-stays to done to there (itself to)
directory-stays false to done None = λ key out. refl
directory-stays false to done (Some e) = at-stays to done to (Some e) (itself to)

into-stays : (view : View) (all : Bool) (manner : Manner) (found : FoundPlaces) (done : Done) (to : Place) → Stay (is_at_or_below (key_of to)) done.shared (copy_to_directory view all manner found done to).shared
into-stays view all manner found done to =
    let ready = target_directory (is_some_directory (one_entry done.shared.files found)) to done (map.get done.shared.files (key_of to)) in
    let jobs = all_jobs all done.shared.files found.places in
    (stay-kept (is_at_or_below (key_of to))).joined done.shared ready.shared (act_on_each (copy_one view manner to) ready jobs).shared
    (directory-stays (is_some_directory (one_entry done.shared.files found)) to done (map.get done.shared.files (key_of to)))
    (jobs-stay view manner to ready jobs)

found-stays : (view : View) (all : Bool) (manner : Manner) (found : FoundPlaces) (done : Done) (to : Place) → Stay (is_at_or_below (key_of to)) done.shared (copy_found view all manner found done to).shared
found-stays view all manner found done to =
    elim (is_onto done.shared.files found to) as (λ b. Stay (is_at_or_below (key_of to)) done.shared (if b then act_on_each (copy_one view manner to) done (target_jobs found.places) else copy_to_directory view all manner found done to).shared) [
      | true ↦ jobs-stay view manner to done (target_jobs found.places)
      | false ↦ into-stays view all manner found done to
    ]

to-stays : (shared : SharedState) (view : View) (all : Bool) (manner : Manner) (found : FoundPlaces) (to : Result Place Codes) →
    OthersStay (is_under to) shared.files (if_found (codes_effect shared) to (copy_to_place shared view all manner found)).shared.files
to-stays shared view all manner found (Err codes) = λ key out. refl
to-stays shared view all manner found (Ok to) = found-stays view all manner found (fresh_work shared) to

from-stays : (shared : SharedState) (view : View) (all : Bool) (manner : Manner) (found : Result FoundPlaces Codes) (to : List ℕ) →
    OthersStay (is_under_path shared view (Some to)) shared.files (if_found (codes_effect shared) found (copy_into_target shared view all manner to)).shared.files
from-stays shared view all manner (Err codes) to = λ key out. refl
from-stays shared view all manner (Ok found) to = to-stays shared view all manner found (place_of shared view.parts.directory to)

texts-stay : (shared : SharedState) (view : View) (all : Bool) (manner : Manner) (texts : List (List ℕ)) (to : Option (List ℕ)) →
    OthersStay (is_under_path shared view to) shared.files (if_given (codes_effect shared) to (copy_by_texts shared view all manner texts)).shared.files
texts-stay shared view all manner texts None = λ key out. refl
texts-stay shared view all manner [] (Some to) = λ key out. refl
texts-stay shared view all manner (text ∷ texts) (Some to) = from-stays shared view all manner (sources_of shared view.parts.directory (text ∷ texts)) to

pub copy-stays : (shared : SharedState) (view : View) (args : List Arg) → OthersStay (copy_may_change shared view args) shared.files (copy_row shared view args).shared.files
copy-stays shared view args = texts-stay shared view (has_switch args COPY_ALL) (manner_of args) (option_texts args COPY_FROM) (option_text args COPY_TO)
