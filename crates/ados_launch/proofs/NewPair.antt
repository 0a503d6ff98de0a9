-- A fresh world and a launcher without a call agree.
use Rattle.std.proofs.Common.{◌≡◌, List, []}
use Rattle.ados_resident.specs.declared.dialects.Dialect.{Dialect}
use Rattle.ados_resident.specs.declared.hosts.HostEntry.{HostEntry}
use Rattle.ados_machine.specs.World.{WorldState, fresh_world}
use Rattle.ados_machine.proofs.ChildLemmas.{fresh-closed}
use Rattle.ados_launcher.specs.declared.calls.Call.{Call}
use Rattle.ados_launch.specs.Agreement.{Agrees}
use Rattle.ados_launch.proofs.Agreeing.{new-pair}

pub new_pair : (w : WorldState) (dialect : Dialect) (hosts : List HostEntry) (calls : List Call) → w ≡ fresh_world dialect hosts → calls ≡ [] → Agrees w calls
new_pair w dialect hosts calls fresh none = rw fresh (new-pair (fresh_world dialect hosts) calls (fresh-closed dialect hosts) none)
