use Rattle.std.proofs.Common.{◌≡◌, ◌++◌, drop}
use Rattle.ados_files.specs.Jobs.{target_jobs}
use Rattle.ados_files.proofs.jobs.jobs_onto.Given as goal

abbrev pub invariant-loop-place : goal.invariant-loop-place
invariant-loop-place l = l.jobs.items ++ target_jobs (drop l.place-index l.places) ≡ target_jobs l.places
