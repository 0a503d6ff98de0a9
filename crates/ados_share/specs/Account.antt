-- What one update of the shared folder could not write.
use Rattle.std.specs.Prelude.{List, [], ◌∷◌, ◌++◌, map, filter, is_err, Bool, true, false, ◌&&◌, not, ◌==◌, Option, Some, None, if◌then◌else◌, length, string_bytes}
use Rattle.std.specs.List.{list_any}
use Rattle.ados_text.specs.Text.{Bytes}
use Rattle.ados_ram.specs.declared.entries.Body.{Body}
use Rattle.ados_ram.specs.declared.entries.Body.TheVariants.{Directory, File}
use Rattle.ados_share.specs.declared.account.Moment.{Moment}
use Rattle.ados_share.specs.declared.account.Moment.TheVariants.{Meanwhile, Start, End}
use Rattle.ados_share.specs.declared.syncs.Attempt.{Attempt}
use Rattle.ados_share.specs.declared.syncs.NamedFile.{NamedFile}
use Rattle.ados_transfer.specs.declared.here.Here.{Here}
use Rattle.ados_transfer.specs.declared.here.Here.TheVariants.{File as Seen}
use Rattle.ados_transfer.specs.Within.{is_beginning, is_substring}

-- the path of the first object that could not be written: a later path does not replace it
abbrev pub first_path : Option Bytes → Bytes → Option Bytes
first_path None path = Some path
first_path (Some old) path = Some old

-- the script has ended
abbrev pub is_end : Moment → Bool
is_end Meanwhile = false
is_end Start = false
is_end End = true

-- what bars programs after an update: what the system refused to write; with `--dry` nothing was to be written
abbrev pub barred_by : {A : Type 0} → Bool → Option A → Option A
barred_by dry refused = if dry then None else refused

-- the contents of the files that could not be written, with this one; a directory has none
abbrev pub with_bytes_of : List Bytes → Body → List Bytes
with_bytes_of all Directory = all
with_bytes_of all (File bytes) = all ++ bytes ∷ []

-- the paths of those files, with this one
abbrev pub with_path_of : List Bytes → Bytes → Body → List Bytes
with_path_of all path Directory = all
with_path_of all path (File bytes) = all ++ path ∷ []

-- the path of the first object that could not be written, given one that is never written: a directory of that kind does not count
abbrev pub path_left_out : Option Bytes → Bytes → Body → Option Bytes
path_left_out old path Directory = old
path_left_out old path (File bytes) = first_path old path

-- the files that were written and that a power cut may empty, with this one; one without bytes is none of them
abbrev pub with_fresh : List NamedFile → NamedFile → List NamedFile
with_fresh all file = if length file.bytes == 0 then all else all ++ file ∷ []

-- the contents of files
abbrev pub contents_of : List NamedFile → List Bytes
contents_of files = map (λ file. file.bytes) files

-- the paths of files
abbrev pub paths_of : List NamedFile → List Bytes
paths_of files = map (λ file. string_bytes file.path) files

-- the files that were to be brought to the disk
abbrev pub files_of : List Attempt → List NamedFile
files_of attempts = map (λ attempt. attempt.file) attempts

-- the files that could not be brought to the disk
abbrev pub failed_files : List Attempt → List NamedFile
failed_files attempts = files_of (filter (λ attempt. is_err attempt.outcome) attempts)

-- the bytes are not empty, and occur in one of the files that could not be written
abbrev pub is_in_unwritten : List Bytes → Bytes → Bool
is_in_unwritten all bytes = not (length bytes == 0) && list_any (is_substring bytes) all

-- The bytes of a file that was seen were moved: they occur in a file that could not be written, and `new`, the bytes that are to replace
-- the file, does not begin with them.
abbrev pub is_moved_away : Here → Bytes → List Bytes → Bool
is_moved_away (Seen bytes stamp mode) new unwritten = not (is_beginning bytes new) && is_in_unwritten unwritten bytes
is_moved_away _ new unwritten = false
