-- Copy: files to a file or into a directory.
use Rattle.std.specs.Prelude.{Bool, true, false, not, cond, ◌&&◌, ◌||◌, List, [], ◌∷◌, ◌++◌, codes, Option, Some, None, if◌then◌else◌}
use Rattle.std.specs.Option.{option_or}
use Rattle.std.specs.FinMap as map
use Rattle.ados_text.specs.Text.{Bytes, Text}
use Rattle.ados_text.specs.declared.codes.Result2.{Result2}
use Rattle.ados_text.specs.declared.codes.TheConstants.Result2.{ARGUMENT_MISSING, OBJECT_IN_USE, DIRECTORY_NOT_FOUND, WRONG_TYPE}
use Rattle.ados_readargs.specs.declared.args.Arg.{Arg}
use Rattle.ados_readargs.specs.Args.{option_texts, option_text, has_switch}
use Rattle.ados_ram.specs.Place.{Place, key_of, last_name, is_same_key}
use Rattle.ados_ram.specs.Entry.{is_directory, bytes_of, fresh_bits}
use Rattle.ados_ram.specs.Files.{Files, is_some_file, is_some_directory}
use Rattle.ados_ram.specs.InUse.{InUse, is_output}
use Rattle.ados_ram.specs.FileOperations.{comment_fault, comment_of, protect_fault, protect_of, read_fault, write_as_of, write_fault}
use Rattle.ados_ram.specs.Written.{full_path}
use Rattle.ados_ram.specs.declared.limits.Limits.{Limits}
use Rattle.ados_ram.specs.declared.entries.Bits.{Bits}
use Rattle.ados_ram.specs.declared.entries.Entry.{Entry}
use Rattle.ados_find.specs.Codes.{fail_codes}
use Rattle.ados_find.specs.Shared.{SharedState, limits_of, with_files}
use Rattle.ados_find.specs.Views.{View}
use Rattle.ados_find.specs.Effects.{Effect, codes_effect, if_found, if_given}
use Rattle.ados_find.specs.Done.{Done, fresh_work, refused_or, unless_stopped, act_on_each, end_effect}
use Rattle.ados_find.specs.Paths.{place_of}
use Rattle.ados_objects.specs.Names.{FoundPlaces}
use Rattle.ados_files.specs.MakeDir.{make_one}
use Rattle.ados_objects.specs.Lines.{say}
use Rattle.ados_files.specs.Jobs.{sources_of, all_jobs, target_jobs}
use Rattle.ados_files.specs.declared.copy_one.Manner.{Manner}
use Rattle.ados_files.specs.declared.jobs.Job.{Job}
use Rattle.ados_files.specs.declared.options.TheConstants.{COPY_FROM, COPY_TO, COPY_ALL, COPY_QUIET, COPY_CLONE, COPY_COM, COPY_NOPRO}

-- the directories between a place `above` and one below it, of which the names from there down are given; from the top down, without both
abbrev pub middle_directories : Place → Place → List Place
middle_directories above [] = []
middle_directories above (name ∷ []) = []
middle_directories above (name ∷ next ∷ rest) = (above ++ name ∷ []) ∷ middle_directories (above ++ name ∷ []) (next ∷ rest)

-- a directory at a place, given the entry there: it is created if there is nothing; a file in its place is refused
abbrev pub ensure_directory : Done → Place → Option Entry → Done
ensure_directory done place None = make_one done place
ensure_directory done place (Some e) = cond (is_directory e) done (refused_or (Some WRONG_TYPE) done done)

-- creates the directory at a place, if there is nothing; a file in its place is refused
abbrev pub make_missing : Done → Place → Done
make_missing done place = ensure_directory done place (map.get done.shared.files (key_of place))

-- the fault of a file that is copied onto itself
abbrev pub itself_fault : Place → Place → Option Result2
itself_fault source target = if is_same_key (key_of source) (key_of target) then Some OBJECT_IN_USE else None

-- why a file is not copied: it is the target itself, or else it cannot be read
abbrev pub copy_fault : InUse → Files → Place → Place → Option Result2
copy_fault busy files source target =
    option_or (itself_fault source target) (read_fault (is_output busy (key_of source)) (map.get files (key_of source)))

-- what Copy reports of a file: its path and `..copied`
abbrev pub copied_line : Files → Place → Bytes
copied_line files source = full_path files source ++ codes "..copied\n"

-- how files are copied: CLONE and COM take the source's comment, CLONE without NOPRO takes its bits, and with NOPRO a new file takes those
-- of a new object
abbrev pub manner_of : List Arg → Manner
manner_of args = record {
  quiet = has_switch args COPY_QUIET;
  comment = has_switch args COPY_CLONE || has_switch args COPY_COM;
  bits = has_switch args COPY_CLONE && not (has_switch args COPY_NOPRO);
  fresh = has_switch args COPY_NOPRO;
}

-- the bits of a file that Copy makes: those of the source, or with NOPRO those of a new object
abbrev pub new_bits : Manner → Entry → Bits
new_bits manner e = if manner.fresh then fresh_bits else e.bits

-- the files after Copy wrote the bytes of an entry to the place of the target; if it is new it has the source's bits, or those of a new
-- object with NOPRO, and no comment
abbrev pub written_files : Manner → Files → Place → Entry → Files
written_files manner files target e = write_as_of files (key_of target) (last_name target) (bytes_of e) (new_bits manner e)

-- the files `changed` unless a fault refuses the change, and then `files`; for the comment of a file that was just written none does, as
-- that was the comment of a file before
abbrev pub files_unless : Option Result2 → Files → Files → Files
files_unless None files changed = changed
files_unless (Some fault) files changed = files

-- the files after the target took the comment of the source's entry, if `comment`
abbrev pub noted_files : Bool → Files → Place → Entry → Files
noted_files comment files target e =
    if comment then files_unless (comment_fault files (key_of target) e.comment) files (comment_of files (key_of target) e.comment) else files

-- the files after the target took the bits of the source's entry, bit a included, if `bits`
abbrev pub cloned_files : Bool → Files → Place → Entry → Files
cloned_files bits files target e =
    if bits then files_unless (protect_fault files (key_of target)) files (protect_of files (key_of target) e.bits) else files

-- the files with a copy of an entry at the place of the target
abbrev pub copied_files : Manner → Files → Place → Entry → Files
copied_files manner files target e =
    cloned_files manner.bits (noted_files manner.comment (written_files manner files target e) target e) target e

-- why the copy of an entry cannot be written at the place of the target
abbrev pub copied_fault : Limits → InUse → Files → Place → Entry → Option Result2
copied_fault limits busy files target e = write_fault limits (is_output busy (key_of target)) files (key_of target) (last_name target) (bytes_of e)

-- writes a copy of the source's entry at the target, and reports it unless QUIET
abbrev pub copy_written : View → Manner → Place → Place → Entry → Done → Done
copy_written view manner source target e done =
    refused_or (copied_fault (limits_of done.shared.dialect) view.busy done.shared.files target e) done
    (record done {
      shared = with_files done.shared (copied_files manner done.shared.files target e);
      output = say manner.quiet done.output (copied_line done.shared.files source);
    })

-- writes a copy of the source's entry at the target, unless the work is stopped
abbrev pub copy_unless : View → Manner → Place → Place → Entry → Done → Done
copy_unless view manner source target e done = unless_stopped done.stopped done (copy_written view manner source target e done)

-- copies the source of a job, if it exists (none: no entry), to the job's place below TO: missing directories are created, and it is
-- written
abbrev pub copy_entry : View → Manner → Place → Done → Job → Option Entry → Done
copy_entry view manner to done job None = done
copy_entry view manner to done job (Some e) =
    copy_unless view manner job.source (to ++ job.names) e (act_on_each make_missing done (middle_directories to job.names))

-- copies the source of a job to its place below `to`, unless it is refused
abbrev pub copy_one : View → Manner → Place → Done → Job → Done
copy_one view manner to done job =
    refused_or (copy_fault view.busy done.shared.files job.source (to ++ job.names)) done
    (copy_entry view manner to done job (map.get done.shared.files (key_of job.source)))

-- the entry at the first of these places, if there is one
abbrev pub first_entry : Files → List Place → Option Entry
first_entry files [] = None
first_entry files (place ∷ places) = map.get files (key_of place)

-- the entry at the source, if there is just one that is named by its path
abbrev pub one_entry : Files → FoundPlaces → Option Entry
one_entry files found = if found.literal then first_entry files found.places else None

-- TO as a directory, given the entry there; it may be created only if the source is a single directory (the Bool), and otherwise it is
-- refused, as is a file
abbrev pub target_directory : Bool → Place → Done → Option Entry → Done
target_directory true to done there = ensure_directory done to there
target_directory false to done None = refused_or (Some DIRECTORY_NOT_FOUND) done done
target_directory false to done (Some e) = ensure_directory done to (Some e)

-- copies the files that were found into the directory `to`; the list of them is made before the first write
abbrev pub copy_to_directory : View → Bool → Manner → FoundPlaces → Done → Place → Done
copy_to_directory view all manner found done to = (let files = done.shared.files in
    act_on_each (copy_one view manner to) (target_directory (is_some_directory (one_entry files found)) to done (map.get files (key_of to))) (all_jobs all files found.places))

-- just one file is copied, and TO is not a directory: TO itself is written
abbrev pub is_onto : Files → FoundPlaces → Place → Bool
is_onto files found to = is_some_file (one_entry files found) && not (is_some_directory (map.get files (key_of to)))

-- copies the files that were found: onto `to` if there is one file and `to` is no directory, otherwise into the directory `to`
abbrev pub copy_found : View → Bool → Manner → FoundPlaces → Done → Place → Done
copy_found view all manner found done to =
    if is_onto done.shared.files found to then act_on_each (copy_one view manner to) done (target_jobs found.places)
    else copy_to_directory view all manner found done to

-- Copy of the objects found to the place of TO
abbrev pub copy_to_place : SharedState → View → Bool → Manner → FoundPlaces → Place → Effect
copy_to_place shared view all manner found to = end_effect (copy_found view all manner found (fresh_work shared) to)

-- Copy of the objects found to the path TO; it is looked up after the sources
abbrev pub copy_into_target : SharedState → View → Bool → Manner → Text → FoundPlaces → Effect
copy_into_target shared view all manner to found =
    if_found (codes_effect shared) (place_of shared view.parts.directory to) (copy_to_place shared view all manner found)

-- Copy of the texts of FROM to TO; without FROM an argument is missing; the template ensures that TO is not
abbrev pub copy_by_texts : SharedState → View → Bool → Manner → List Text → Text → Effect
copy_by_texts shared view all manner [] to = codes_effect shared (fail_codes ARGUMENT_MISSING)
copy_by_texts shared view all manner (text ∷ texts) to =
    if_found (codes_effect shared) (sources_of shared view.parts.directory (text ∷ texts)) (copy_into_target shared view all manner to)

-- Copy, given its arguments
abbrev pub copy_row : SharedState → View → List Arg → Effect
copy_row shared view args =
    if_given (codes_effect shared) (option_text args COPY_TO) (copy_by_texts shared view (has_switch args COPY_ALL) (manner_of args) (option_texts args COPY_FROM))
