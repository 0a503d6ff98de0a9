use Rattle.std.proofs.Common.{◌≡◌, true, take}
use Rattle.ados_session.specs.Hosts.{are_hosts, parsed_hosts}
use Rattle.ados_session.proofs.hosts.hosts_of.Given as goal

abbrev pub invariant-loop-place : goal.invariant-loop-place
invariant-loop-place l = (are_hosts l.dialect (take l.place l.lines) ≡ true) × (l.hosts.items ≡ parsed_hosts (take l.place l.lines))
