-- LFORMAT of List: a text in which parts of an object are put.
use Rattle.std.specs.Prelude.{ℕ, suc, ◌+◌, ◌-◌, List, [], ◌∷◌, ◌++◌, take, drop, length, decimal, Bool, true, false, ◌&&◌, ◌||◌, not, ◌==◌, nat_le, Option, Some, None, if◌then◌else◌}
use Rattle.std.specs.List.{flat_map, suffix_len}
use Rattle.ados_text.specs.Text.{Bytes, Text, fold_of}
use Rattle.ados_text.specs.declared.lines.TheConstants.{LINE_BYTES}
use Rattle.ados_ram.specs.Entry.{bits_text, size_of}
use Rattle.ados_ram.specs.declared.entries.Entry.{Entry}
use Rattle.ados_files.specs.declared.formats.Part.{Part}
use Rattle.ados_files.specs.declared.formats.Part.TheVariants as part

-- what a letter in lower case stands for behind a percent sign; dates, times and blocks are not kept here
abbrev pub part_named : ℕ → Option Part
part_named letter =
    if letter == 110 then Some part.Name
    else (if letter == 112 then Some part.Path
    else (if letter == 102 then Some part.FullName
    else (if letter == 109 then Some part.Stem
    else (if letter == 101 then Some part.Extension
    else (if letter == 108 then Some part.Size
    else (if letter == 97 then Some part.Bits
    else (if letter == 99 then Some part.Comment
    else (if letter == 115 then Some part.Slot
    else (if (letter == 100) || (letter == 116) || (letter == 98) || (letter == 107) then Some part.NotKept
    else (if letter == 37 then Some (part.Byte 37)
    else None))))))))))

-- the parts of a percent sign and the byte behind it, given what the byte stands for; the sign stays before anything else
abbrev pub parts_behind_sign : ℕ → Option Part → List Part
parts_behind_sign byte (Some piece) = piece ∷ []
parts_behind_sign byte None = part.Byte 37 ∷ part.Byte byte ∷ []

-- the parts of a text, in which a letter stands for the same in either case; `true`: a percent sign stands before it
abbrev pub parts_from : Bool → Text → List Part
parts_from false [] = []
parts_from true [] = part.Byte 37 ∷ []
parts_from false (c ∷ cs) = if c == 37 then parts_from true cs else part.Byte c ∷ parts_from false cs
parts_from true (c ∷ cs) = parts_behind_sign c (part_named (fold_of c)) ++ parts_from false cs

-- how many `%S` there are among the parts
abbrev pub slot_count : List Part → ℕ
slot_count [] = 0
slot_count (part.Slot ∷ parts) = suc (slot_count parts)
slot_count (piece ∷ parts) = slot_count parts

-- what the `%S` with a number, from 0 on, is of so many: the first of two or three is the path, and so are the first and the third of four
-- or more; each other is the name
abbrev pub slot_part : ℕ → ℕ → Part
slot_part count number = if (nat_le 2 count && (number == 0)) || (nat_le 4 count && (number == 2)) then part.Path else part.Name

-- the parts with what each `%S` is in its place: of `count` in all, the first has this number
abbrev pub without_slots : ℕ → ℕ → List Part → List Part
without_slots count number [] = []
without_slots count number (part.Slot ∷ parts) = slot_part count number ∷ without_slots count (number + 1) parts
without_slots count number (piece ∷ parts) = piece ∷ without_slots count number parts

-- the parts of a format
abbrev pub format_of : Text → List Part
format_of text = (let parts = parts_from false text in without_slots (slot_count parts) 0 parts)

-- the byte is not a dot
abbrev pub is_no_dot : ℕ → Bool
is_no_dot byte = not (byte == 46)

-- the number of bytes before the place where a name goes on behind its last dot; 0 without a dot
abbrev pub behind_dot : Text → ℕ
behind_dot name = length name - suffix_len is_no_dot name

-- a name without its last dot and what is behind it; a dot that is the first byte ends no stem
abbrev pub stem_of : Text → Text
stem_of name = if nat_le (behind_dot name) 1 then name else take (behind_dot name - 1) name

-- what stands behind the last dot of a name; nothing without one, or if it is the first byte
abbrev pub extension_of : Text → Text
extension_of name = if nat_le (behind_dot name) 1 then [] else drop (behind_dot name) name

-- what is printed for a part, given an object and the path before its name
abbrev pub part_text : Text → Entry → Part → Bytes
part_text path e (part.Byte byte) = byte ∷ []
part_text path e part.Name = e.name
part_text path e part.Path = path
part_text path e part.FullName = path ++ e.name
part_text path e part.Stem = stem_of e.name
part_text path e part.Extension = extension_of e.name
part_text path e part.Size = decimal (size_of e)
part_text path e part.Bits = bits_text e.bits
part_text path e part.Comment = e.comment
part_text path e part.NotKept = []
part_text path e part.Slot = e.name

-- the line of an object by a format, given the path before its name; it is cut if it is too long
abbrev pub format_line : List Part → Text → Entry → Bytes
format_line parts path e = take LINE_BYTES (flat_map (part_text path e) parts) ++ 10 ∷ []
