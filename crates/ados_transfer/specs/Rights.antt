-- What is left of a file's permissions elsewhere. A mode is a number whose bits are rights: 0o700 are the user's, 0o070 the group's and
-- 0o007 those of others; of each the highest is to read, the next to write, and the lowest to execute a file or to enter a folder.
use Rattle.std.specs.Prelude.{ℕ, Bool, true, false, Option, Some, None, not, ◌==◌, ◌*◌, ◌&&◌, if◌then◌else◌, bit_and, bit_or}
use Rattle.ados_transfer.specs.declared.rights.Owner.{Owner}
use Rattle.ados_transfer.specs.declared.rights.Rights.{Rights}
use Rattle.ados_transfer.specs.declared.manner.Manner.{Manner}
use Rattle.ados_transfer.specs.declared.manner.Manner.TheVariants.{Plain, Executable, Mode, Kept, Copied}

-- a mode has a right
abbrev pub has_right : ℕ → ℕ → Bool
has_right mode right = not (bit_and mode right == 0)

-- group and others may enter a folder
abbrev pub may_all_enter : Rights → Bool
may_all_enter folder = has_right folder.mode 0o010 && has_right folder.mode 0o001

-- the group of this owner may enter a folder, since it is the folder's
abbrev pub group_enters : Owner → Rights → Bool
group_enters owner folder = has_right folder.mode 0o010 && folder.owner.group == owner.group

-- The rights that are left of the mode of a file of this owner in a folder: group and others have none if they can't enter it. The user,
-- whose file it is, keeps all.
abbrev pub left_within : Owner → Rights → ℕ
left_within owner folder = if may_all_enter folder then 0o777 else if group_enters owner folder then 0o770 else 0o700

-- the rights of others, as those of a group
abbrev pub as_group : ℕ → ℕ
as_group mode = bit_and mode 0o007 * 8

-- the mode of a file that has this group: one that is not the old one has only those rights that others have too
abbrev pub mode_in : Rights → ℕ → ℕ
mode_in rights group =
    if group == rights.owner.group then bit_and rights.mode 0o777
    else bit_and (bit_and rights.mode 0o777) (bit_or 0o707 (as_group rights.mode))

-- the mode of a copy that has this group: nobody but its user may write it
abbrev pub copy_mode : Rights → ℕ → ℕ
copy_mode rights group = bit_and (mode_in rights group) 0o755

-- the mode of a folder in place of one with these rights, or of its copy: its user may do all with it
abbrev pub folder_mode : Rights → ℕ → Bool → ℕ
folder_mode rights group is_copy = bit_or (if is_copy then copy_mode rights group else mode_in rights group) 0o700

-- the mode of a folder that was made with this group, if it is not that of a new one
abbrev pub mode_of_folder : Manner → ℕ → Option ℕ
mode_of_folder Plain group = None
mode_of_folder Executable group = None
mode_of_folder (Mode mode) group = Some mode
mode_of_folder (Kept rights) group = Some (folder_mode rights group false)
mode_of_folder (Copied rights) group = Some (folder_mode rights group true)
