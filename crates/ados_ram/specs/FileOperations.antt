-- File operations: for each the fault, which is the first of its faults that applies, and what it gives. `limits` are
-- those that what is given keeps; `is_open` says that a place is an open output; `name` is the name that a new object
-- takes.
use Rattle.std.specs.Prelude.{ℕ, suc, Bool, false, cond, not, ◌&&◌, ◌||◌, nat_le, nat_lt, List, [], ◌∷◌, ◌++◌, length, Option, Some, None, is_some, Result, Ok, Err}
use Rattle.std.specs.Option.{option_or}
use Rattle.std.specs.FinMap as map
use Rattle.ados_text.specs.declared.codes.Result2.{Result2}
use Rattle.ados_text.specs.declared.codes.TheConstants.Result2.{OBJECT_IN_USE, OBJECT_EXISTS, DIRECTORY_NOT_FOUND, OBJECT_NOT_FOUND, WRONG_TYPE, DIRECTORY_NOT_EMPTY, COMMENT_TOO_LONG, DISK_FULL, DELETE_PROTECTED, WRITE_PROTECTED, READ_PROTECTED}
use Rattle.ados_text.specs.Text.{Text, Bytes}
use Rattle.ados_text.specs.Name.{Name}
use Rattle.ados_ram.specs.Place.{Place, Key, key_of, any_same, is_root, is_same_key, key_suffix, is_below, is_child}
use Rattle.ados_ram.specs.Entry.{is_directory, new_directory, file_entry, file_entry_with_bits, with_bits, with_comment, renamed_entry}
use Rattle.ados_ram.specs.Files.{Files, Rows, is_some_file, entry_bytes, total_of}
use Rattle.ados_ram.specs.Limits.{file_limit, bytes_limit, objects_limit}
use Rattle.ados_ram.specs.declared.limits.Limits.{Limits}
use Rattle.ados_ram.specs.InUse.{InUse, is_in_use, holds_output}
use Rattle.ados_ram.specs.declared.entries.Bits.{Bits}
use Rattle.ados_ram.specs.declared.entries.Entry.{Entry}

-- the fault of a directory above: it does not exist, or is a file; otherwise what follows
abbrev pub parent_fault : Option Entry → Option Result2 → Option Result2
parent_fault None further = Some DIRECTORY_NOT_FOUND
parent_fault (Some e) further = cond (is_directory e) further (Some WRONG_TYPE)

-- the fault of the directories above a place, from the root down
abbrev pub way_fault : Files → Key → Key → Option Result2
way_fault m above [] = None
way_fault m above (name ∷ rest) = parent_fault (map.get m above) (way_fault m (above ++ name ∷ []) rest)

-- the fault of the limits, for the size of one file, of all files, and the number of objects
abbrev pub limit_fault : Limits → ℕ → ℕ → ℕ → Option Result2
limit_fault limits size total count =
    cond (nat_le size (file_limit limits) && nat_le total (bytes_limit limits) && nat_le count (suc (objects_limit limits))) None (Some DISK_FULL)

-- the fault of files in which one has a new size
abbrev pub full_fault : Limits → ℕ → Files → Option Result2
full_fault limits size m = limit_fault limits size (total_of (map.entries m)) (map.len m)

-- Read
abbrev pub read_fault : Bool → Option Entry → Option Result2
read_fault is_open None = Some OBJECT_NOT_FOUND
read_fault is_open (Some e) =
    cond (is_directory e) (Some WRONG_TYPE) (cond is_open (Some OBJECT_IN_USE) (cond e.bits.read None (Some READ_PROTECTED)))

abbrev pub bytes_unless : Option Result2 → Bytes → Result Bytes Result2
bytes_unless None bytes = Ok bytes
bytes_unless (Some fault) bytes = Err fault

-- the bytes of the file at a place, or why they can't be read, with these outputs open
abbrev pub read_result : Files → List Place → Place → Result Bytes Result2
read_result m outputs place =
    (let entry = map.get m (key_of place) in bytes_unless (read_fault (any_same outputs (key_of place)) entry) (entry_bytes entry))

-- List
abbrev pub list_fault : Option Entry → Option Result2
list_fault None = Some OBJECT_NOT_FOUND
list_fault (Some e) = cond (is_directory e) None (Some WRONG_TYPE)

-- the names, as they are written, of the objects directly in a directory, in the order of their places
abbrev pub child_names : Key → Rows → List Name
child_names directory [] = []
child_names directory (e ∷ es) = cond (is_child directory e.0) (e.1.name ∷ child_names directory es) (child_names directory es)

-- Write
abbrev pub write_of : Files → Key → Name → Bytes → Files
write_of m key name bytes = map.insert m key (file_entry (map.get m key) name bytes)

abbrev pub write_target_fault : Bool → Option Entry → Option Result2
write_target_fault is_open None = None
write_target_fault is_open (Some e) =
    cond (is_directory e) (Some WRONG_TYPE) (cond is_open (Some OBJECT_IN_USE) (cond e.bits.write None (Some WRITE_PROTECTED)))

abbrev pub write_fault : Limits → Bool → Files → Key → Name → Bytes → Option Result2
write_fault limits is_open m key name bytes =
    option_or (way_fault m [] key)
    (option_or (write_target_fault is_open (map.get m key)) (full_fault limits (length bytes) (write_of m key name bytes)))

-- Write, with other bits for a new file; the faults are those of writing
abbrev pub write_as_of : Files → Key → Name → Bytes → Bits → Files
write_as_of m key name bytes bits = map.insert m key (file_entry_with_bits bits (map.get m key) name bytes)

-- Append: write the old bytes followed by the new ones
abbrev pub append_of : Files → Key → Name → Bytes → Files
append_of m key name bytes = write_of m key name (entry_bytes (map.get m key) ++ bytes)

abbrev pub append_fault : Limits → Bool → Files → Key → Name → Bytes → Option Result2
append_fault limits is_open m key name bytes = write_fault limits is_open m key name (entry_bytes (map.get m key) ++ bytes)

-- there is a file without bit a: to append nothing leaves the files as they are
abbrev pub is_unarchived_file : Option Entry → Bool
is_unarchived_file None = false
is_unarchived_file (Some e) = not (is_directory e) && not e.bits.archive

-- Append to an open output, whatever its bits say, if there is one byte or more and there is a file. Only the limits
-- refuse it
abbrev pub is_put : Option Entry → Bytes → Bool
is_put there bytes = is_some_file there && nat_lt 0 (length bytes)

abbrev pub put_open_of : Files → Key → Name → Bytes → Files
put_open_of m key name bytes = cond (is_put (map.get m key) bytes) (append_of m key name bytes) m

abbrev pub put_open_fault : Limits → Files → Key → Name → Bytes → Option Result2
put_open_fault limits m key name bytes =
    cond (is_put (map.get m key) bytes) (full_fault limits (length (entry_bytes (map.get m key) ++ bytes)) (append_of m key name bytes)) None

-- Make a directory: the only limit that it can exceed is the number of objects
abbrev pub make_dir_of : Files → Key → Name → Files
make_dir_of m key name = map.insert m key (new_directory name)

abbrev pub free_fault : Option Entry → Option Result2
free_fault None = None
free_fault (Some e) = Some OBJECT_EXISTS

abbrev pub make_dir_fault : Limits → Files → Key → Name → Option Result2
make_dir_fault limits m key name =
    option_or (way_fault m [] key) (option_or (free_fault (map.get m key)) (full_fault limits 0 (make_dir_of m key name)))

-- Delete: the files without a place. Where it is forced, bit d is not asked
abbrev pub has_descendants : Key → Rows → Bool
has_descendants key [] = false
has_descendants key (e ∷ es) = is_below key e.0 || has_descendants key es

abbrev pub delete_target_fault : InUse → Bool → Rows → Key → Option Entry → Option Result2
delete_target_fault busy force es key None = Some OBJECT_NOT_FOUND
delete_target_fault busy force es key (Some e) =
    cond (is_in_use busy key || is_root key) (Some OBJECT_IN_USE)
    (cond (force || e.bits.delete) (cond (has_descendants key es) (Some DIRECTORY_NOT_EMPTY) None) (Some DELETE_PROTECTED))

abbrev pub delete_fault : InUse → Bool → Files → Key → Option Result2
delete_fault busy force m key = delete_target_fault busy force (map.entries m) key (map.get m key)

-- Rename: the files in which each object at a place or below it is at another or below that, and the object itself has
-- the last name of the new place
abbrev pub moved_row : Key → Name → Key → Entry → Option Key → Key × Entry
moved_row to name key e None = (key, e)
moved_row to name key e (Some way) = (to ++ way, renamed_entry name way e)

abbrev pub moved_rows : Key → Key → Name → Rows → Rows
moved_rows from to name [] = []
moved_rows from to name (e ∷ es) = moved_row to name e.0 e.1 (key_suffix from e.0) ∷ moved_rows from to name es

abbrev pub rename_of : Files → Key → Key → Name → Files
rename_of m from to name = map.from_entries (moved_rows from to name (map.entries m))

abbrev pub rename_target_fault : InUse → Key → Key → Option Entry → Option Entry → Option Result2
rename_target_fault busy from to None there = Some OBJECT_NOT_FOUND
rename_target_fault busy from to (Some e) there =
    cond (holds_output busy from || is_root from || is_below from to) (Some OBJECT_IN_USE)
    (cond (is_some there && not (is_same_key from to)) (Some OBJECT_EXISTS) None)

abbrev pub rename_fault : InUse → Files → Key → Key → Option Result2
rename_fault busy m from to = option_or (way_fault m [] to) (rename_target_fault busy from to (map.get m from) (map.get m to))

-- Protect and comment: the files with an entry changed
abbrev pub with_entry_changed : Files → Key → (Entry → Entry) → Option Entry → Files
with_entry_changed m key change None = m
with_entry_changed m key change (Some e) = map.insert m key (change e)

abbrev pub change_fault : Key → Option Entry → Option Result2
change_fault key None = Some OBJECT_NOT_FOUND
change_fault key (Some e) = cond (is_root key) (Some WRONG_TYPE) None

abbrev pub protect_of : Files → Key → Bits → Files
protect_of m key bits = with_entry_changed m key (with_bits bits) (map.get m key)

abbrev pub protect_fault : Files → Key → Option Result2
protect_fault m key = change_fault key (map.get m key)

abbrev pub comment_of : Files → Key → Text → Files
comment_of m key comment = with_entry_changed m key (with_comment comment) (map.get m key)

abbrev pub comment_fault : Files → Key → Text → Option Result2
comment_fault m key comment =
    option_or (change_fault key (map.get m key)) (cond (nat_le (length comment) 79) None (Some COMMENT_TOO_LONG))
