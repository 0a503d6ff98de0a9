-- The host's commands that a world is made with.
use Rattle.std.specs.Prelude.{◌≡◌, ◌⊎◌, ℕ, suc, List, [], ◌∷◌, take, length, Bool, not, ◌||◌, nat_lt, Option, Some, None, is_some, Result, Ok, Err, if◌then◌else◌}
use Rattle.std.specs.Option.{option_or}
use Rattle.std.specs.List.{list_any}
use Rattle.ados_text.specs.Text.{Text, is_same}
use Rattle.ados_names.specs.Names.{is_name}
use Rattle.ados_resident.specs.declared.dialects.Dialect.{Dialect}
use Rattle.ados_resident.specs.declared.hosts.HostEntry.{HostEntry}
use Rattle.ados_resident.specs.Names.{disk_named, internal_named}
use Rattle.ados_world.specs.declared.hosts.NewFault.{NewFault}
use Rattle.ados_world.specs.declared.hosts.NewFault.TheVariants.{TooMany, BadName, Double, NoMemory}

-- how many host commands a world takes at most
abbrev pub host_limit : ℕ
host_limit = 64

-- a command of the dialect itself has this name: an internal one, or a disk command
abbrev pub is_command : Dialect → Text → Bool
is_command dialect name = is_some (internal_named name) || is_some (disk_named dialect name)

-- one of these host commands has this name
abbrev pub is_host : List HostEntry → Text → Bool
is_host hosts name = list_any (λ host. is_same name host.name) hosts

-- a command has this name: an internal one, a disk command, or one of these host commands
abbrev pub is_reserved_name : Dialect → List HostEntry → Text → Bool
is_reserved_name dialect hosts name = is_command dialect name || is_host hosts name

-- why the name of a host command is refused, given its place (counted from 1) and the entries before it: it is not a name, or it is a
-- command's
abbrev pub name_fault : Dialect → List HostEntry → ℕ → Text → Option NewFault
name_fault dialect before place name =
    if not (is_name name) then Some (BadName place) else (if is_reserved_name dialect before name then Some (Double place) else None)

-- the fault of the first of these entries that has one; `hosts` are all entries, of which `before` come before these
abbrev pub first_host_fault : Dialect → List HostEntry → ℕ → List HostEntry → Option NewFault
first_host_fault dialect hosts before [] = None
first_host_fault dialect hosts before (entry ∷ entries) =
    option_or (name_fault dialect (take before hosts) (suc before) entry.name) (first_host_fault dialect hosts (suc before) entries)

-- why a world of a dialect is not made with these host commands: there are too many, or else the fault of the first that has one
abbrev pub hosts_fault : Dialect → List HostEntry → Option NewFault
hosts_fault dialect hosts = if nat_lt host_limit (length hosts) then Some TooMany else first_host_fault dialect hosts 0 hosts

-- a call makes a world only if there is no fault, and if there is one its refusal is the fault; without one `NoMemory` is possible
abbrev pub IsMadeUnless : {X : Type 0} → Result X NewFault → Option NewFault → Type 0
IsMadeUnless (Ok x) fault = fault ≡ None
IsMadeUnless (Err why) fault = (fault ≡ Some why) ⊎ ((why ≡ NoMemory) × (fault ≡ None))
