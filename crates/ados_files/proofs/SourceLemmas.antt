-- The files that Search looks in, and those that Copy copies.
use Rattle.std.proofs.Common.{◌≡◌, Bool, true, false, cond, List, [], ◌∷◌, ◌++◌, Option, Some, None, map as each, refl, ap, ap₂, ◌∙◌}
use Rattle.std.specs.FinMap as map
use Rattle.std.proofs.lemmas.List.{map-append}
use Rattle.ados_ram.specs.Place.{Place, key_of}
use Rattle.ados_ram.specs.Entry.{is_directory}
use Rattle.ados_ram.specs.Files.{Files}
use Rattle.ados_ram.specs.Contents.{directory_files}
use Rattle.ados_ram.specs.declared.entries.Entry.{Entry}
use Rattle.ados_files.specs.Jobs.{all_jobs, directory_jobs, source_jobs}
use Rattle.ados_files.specs.Search.{object_files, searched_files}
use Rattle.ados_files.specs.declared.jobs.Job.{Job}

abbrev sources : List Job → List Place
sources jobs = each (λ job. job.source) jobs

below-sources : (files : Files) (directory : Place) (places : List Place) → sources (directory_jobs files directory places) ≡ places
below-sources files directory [] = refl
below-sources files directory (place ∷ places) = ap (λ (ps : List Place). place ∷ ps) (below-sources files directory places)

kind-sources : (b : Bool) (files : Files) (place : Place) (below : List Place) (names : Place) →
    sources (cond b (directory_jobs files place below) (record { source = place; names = names } ∷ [])) ≡ cond b below (place ∷ [])
kind-sources true files place below names = below-sources files place below
kind-sources false files place below names = refl

object-sources : (all : Bool) (files : Files) (place : Place) (there : Option Entry) → sources (source_jobs all files place there) ≡ object_files all files place there
object-sources all files place None = refl
object-sources all files place (Some e) = kind-sources (is_directory e) files place (directory_files all (key_of place) (map.entries files)) (e.name ∷ [])

pub copied-searched : (all : Bool) (files : Files) (places : List Place) → each (λ job. job.source) (all_jobs all files places) ≡ searched_files all files places
copied-searched all files [] = refl
copied-searched all files (place ∷ places) =
    map-append (λ (job : Job). job.source) (source_jobs all files place (map.get files (key_of place))) (all_jobs all files places)
    ∙ ap₂ (λ (ps qs : List Place). ps ++ qs) (object-sources all files place (map.get files (key_of place))) (copied-searched all files places)
