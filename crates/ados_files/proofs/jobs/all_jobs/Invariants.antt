use Rattle.std.proofs.Common.{◌≡◌, ◌++◌, drop}
use Rattle.ados_files.specs.Jobs.{all_jobs}
use Rattle.ados_files.proofs.jobs.all_jobs.Given as goal

abbrev pub invariant-loop-place : goal.invariant-loop-place
invariant-loop-place l = l.jobs.items ++ all_jobs l.all l.ram (drop l.place-index l.places) ≡ all_jobs l.all l.ram l.places
