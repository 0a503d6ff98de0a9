-- Files of the programs of the host that are commands.
use Rattle.std.specs.Prelude.{Bool, true, false, ◌&&◌, ◌||◌, ◌==◌, List, length, slice_index, Option, Some, None, is_none, if◌then◌else◌}
use Rattle.std.specs.List.{filter_map, list_all}
use Rattle.ados_text.specs.Text.{Text}
use Rattle.ados_items.specs.Parts.{first_word, rest_of, trimmed_text}
use Rattle.ados_resident.specs.declared.dialects.Dialect.{Dialect}
use Rattle.ados_resident.specs.declared.hosts.HostEntry.{HostEntry}
use Rattle.ados_world.specs.Hosts.{hosts_fault}
use Rattle.ados_session.specs.declared.hosts.HostLine.{HostLine}
use Rattle.ados_session.specs.declared.hosts.HostLine.TheVariants.{Nothing, Host, Bad}

-- a line of a file of host commands begins with `#`
abbrev pub is_comment : Text → Bool
is_comment line = slice_index line 0 == 35

-- what the words of a line of a file of host commands say: a command's name and the path of its program, which must not be missing
abbrev pub words_say : Text → HostLine
words_say words = if length (rest_of words) == 0 then Bad else Host (record { name = first_word words; program = rest_of words })

-- what a line of a file of host commands says; blanks around it are dropped
abbrev pub host_line : Text → HostLine
host_line line = if length (trimmed_text line) == 0 || is_comment line then Nothing else words_say (trimmed_text line)

-- a line says nothing, or a command: it is valid
abbrev pub is_host_line : HostLine → Bool
is_host_line Bad = false
is_host_line _ = true

-- the host command that a line says, if it says one
abbrev pub host_in : HostLine → Option HostEntry
host_in (Host host) = Some host
host_in _ = None

-- the host commands that these lines say
abbrev pub parsed_hosts : List Text → List HostEntry
parsed_hosts lines = filter_map (λ line. host_in (host_line line)) lines

-- a world of a dialect can be made with these host commands
abbrev pub are_free : Dialect → List HostEntry → Bool
are_free dialect hosts = is_none (hosts_fault dialect hosts)

-- each of these lines says nothing or a host command, and a world of a dialect can be made with all of them
abbrev pub are_hosts : Dialect → List Text → Bool
are_hosts dialect lines = list_all (λ line. is_host_line (host_line line)) lines && are_free dialect (parsed_hosts lines)
