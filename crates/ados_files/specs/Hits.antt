-- What Search finds in files: the lines, or the names, that have a hit.
use Rattle.std.specs.Prelude.{ℕ, ◌+◌, Bool, true, not, ◌&&◌, nat_lt, List, [], ◌∷◌, ◌++◌, codes, length, map, Option, Some, None, if◌then◌else◌}
use Rattle.std.specs.FinMap as finite
use Rattle.std.specs.List.{filter, flat_map}
use Rattle.ados_text.specs.Text.{Bytes, to_ascii}
use Rattle.ados_text.specs.Fault.{fault_text_of}
use Rattle.ados_text.specs.declared.codes.Result2.{Result2}
use Rattle.ados_pattern.specs.Matching.{is_match}
use Rattle.ados_ram.specs.Place.{Place, key_of}
use Rattle.ados_ram.specs.Files.{Files, entry_bytes}
use Rattle.ados_ram.specs.FileOperations.{read_fault}
use Rattle.ados_ram.specs.InUse.{InUse, is_output}
use Rattle.ados_ram.specs.Written.{full_path}
use Rattle.ados_ram.specs.declared.entries.Entry.{Entry}
use Rattle.ados_objects.specs.Lines.{say}
use Rattle.ados_files.specs.Dumps.{line_number}
use Rattle.ados_files.specs.Parts.{stands_in}
use Rattle.ados_files.specs.SortOrder.{plain_lines}
use Rattle.ados_files.specs.declared.hits.Hits.{Hits as HitsSoFar}
use Rattle.ados_files.specs.declared.hits.Searching.{Searching}
use Rattle.ados_files.specs.declared.hits.Wanted.{Wanted}
use Rattle.ados_files.specs.declared.hits.Wanted.TheVariants.{Inside, Matching}

-- a line is a hit: a text stands in it, with case ignored, or a pattern matches it and it has at most 512 bytes
abbrev pub is_hit : Wanted → Bytes → Bool
is_hit (Inside text) line = stands_in text line
is_hit (Matching pattern) line = not (nat_lt 512 (length line)) && is_match pattern.form (map to_ascii line)

-- what Search printed so far, and whether there was a hit
pub record Hits : Type 0 where
  pub output : Bytes
  pub has_hit : Bool

-- the hits after one with this line
abbrev pub with_hit : Bytes → Hits → Hits
with_hit line hits = record { output = hits.output ++ line; has_hit = true }

-- lines with their numbers, from `number` on
abbrev pub numbered_lines : ℕ → List Bytes → List (ℕ × Bytes)
numbered_lines number [] = []
numbered_lines number (line ∷ lines) = (number, line) ∷ numbered_lines (number + 1) lines

-- those of the numbered lines that are hits
abbrev pub hit_lines : Wanted → List (ℕ × Bytes) → List (ℕ × Bytes)
hit_lines wanted lines = filter (λ line. is_hit wanted line.1) lines

-- what is printed of a hit: the line, with its number in 6 places in front unless NONUM
abbrev pub hit_text : Bool → ℕ × Bytes → Bytes
hit_text numbered line = line_number 6 numbered line.0 ++ (line.1 ++ 10 ∷ [])

-- the hits after those of these numbered lines; with `numbered` each has its number in front
abbrev pub with_hits : Bool → Hits → List (ℕ × Bytes) → Hits
with_hits numbered hits [] = hits
with_hits numbered hits (line ∷ lines) = with_hit (flat_map (hit_text numbered) (line ∷ lines)) hits

-- the hits after those of the lines of a file
abbrev pub search_lines : Searching → Hits → List Bytes → Hits
search_lines searching hits lines = with_hits searching.numbered hits (hit_lines searching.wanted (numbered_lines 1 lines))

-- the path of a file before its lines, unless QUIET
abbrev pub with_header : Bool → Bytes → Hits → Hits
with_header quiet path hits = record hits { output = say quiet hits.output (path ++ codes "..\n") }

-- the report of a file that cannot be read and is passed over, with QUIET too: its path and the fault
abbrev pub unread_line : Bytes → Result2 → Bytes
unread_line path fault = path ++ (codes ": " ++ (fault_text_of fault.0 ++ 10 ∷ []))

-- the hits after those of a file, given its path, a fault of reading it, if any, and its bytes
abbrev pub search_read : Searching → Bytes → Hits → Option Result2 → Bytes → Hits
search_read searching path hits None bytes = search_lines searching (with_header searching.quiet path hits) (plain_lines bytes)
search_read searching path hits (Some fault) bytes = record hits { output = hits.output ++ unread_line path fault }

-- the hits after that of a file by its name, which FILE looks at in place of its lines; none is added if there is no entry
abbrev pub search_name : Searching → Bytes → Hits → Option Entry → Hits
search_name searching path hits None = hits
search_name searching path hits (Some e) = if is_hit searching.wanted e.name then with_hit (path ++ 10 ∷ []) hits else hits

-- the hits after those of the lines of the file at a place
abbrev pub search_bytes : Searching → InUse → Files → Place → Hits → Hits
search_bytes searching busy files place hits =
    search_read searching (full_path files place) hits (read_fault (is_output busy (key_of place)) (finite.get files (key_of place))) (entry_bytes (finite.get files (key_of place)))

-- the hits after those of one file
abbrev pub search_file : Searching → InUse → Files → Hits → Place → Hits
search_file searching busy files hits place =
    if searching.names then search_name searching (full_path files place) hits (finite.get files (key_of place)) else search_bytes searching busy files place hits

-- the hits after those of the files at these places, in order
abbrev pub search_files : Searching → InUse → Files → Hits → List Place → Hits
search_files searching busy files hits [] = hits
search_files searching busy files hits (place ∷ places) = search_files searching busy files (search_file searching busy files hits place) places

-- the hits so far, as the code keeps them
abbrev pub hits_of : HitsSoFar → Hits
hits_of hits = record { output = hits.output.items; has_hit = hits.has_hit }
