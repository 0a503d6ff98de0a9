use Rattle.std.proofs.Common.{◌≡◌, ◌++◌, drop}
use Rattle.ados_files.specs.Jobs.{directory_jobs}
use Rattle.ados_files.proofs.jobs.push_jobs.Given as goal

abbrev pub invariant-loop-file : goal.invariant-loop-file
invariant-loop-file l =
    l.jobs.items ++ directory_jobs l.ram l.place (drop l.file-index l.file-items) ≡ l.initial.jobs.items ++ directory_jobs l.ram l.place l.file-items
