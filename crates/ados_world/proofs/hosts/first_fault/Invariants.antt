use Rattle.std.proofs.Common.{◌≡◌, drop}
use Rattle.ados_world.specs.Hosts.{first_host_fault}
use Rattle.ados_world.proofs.hosts.first_fault.Given as goal

abbrev pub invariant-loop-place : goal.invariant-loop-place
invariant-loop-place l = first_host_fault l.dialect l.hosts l.place (drop l.place l.hosts) ≡ first_host_fault l.dialect l.hosts 0 l.hosts
