-- The variables of a line: it is a list of segments, and each is a character that stands for itself, or a reference that
-- stands for a value. Values are not expanded again.
use Rattle.std.specs.Prelude.{◌≡◌, ◌⊎◌, ℕ, ◌+◌, ◌-◌, List, [], ◌∷◌, ◌++◌, length, take, drop, slice_get, Bool, false, ◌==◌, ◌&&◌, ◌||◌, nat_lt, nat_le, Option, Some, None, if◌then◌else◌}
use Rattle.std.specs.List.{flat_map, prefix_len}
use Rattle.std.specs.Option.{option_or}
use Rattle.ados_text.specs.Text.{Text}
use Rattle.ados_items.specs.Segments.{joined, segments}
use Rattle.ados_ram.specs.Files.{Files}
use Rattle.ados_assign.specs.Assigns.{AssignMap}
use Rattle.ados_vars.specs.Vars.{Pairs, value_in}
use Rattle.ados_vars.specs.Global.{global_of}
use Rattle.ados_vars.specs.Locals.{shown_pairs}
use Rattle.ados_line.specs.declared.scopes.Scope.{Scope}
use Rattle.ados_line.specs.declared.letters.Letter.{Letter}
use Rattle.ados_line.specs.declared.letters.Letter.TheVariants.{Plain, Starred}
use Rattle.ados_line.specs.declared.references.Reference.{Reference}
use Rattle.ados_line.specs.Letters.{plain_letters, letter_text, starless_text, letters_of}

-- the values of variables, by their names
abbrev pub Variables : Type 0
Variables = Text → Option Text

-- the value of a variable by its name: that of the local one, by these pairs, or else of the global one, a file
abbrev pub variables_of : Pairs → AssignMap → Files → Variables
variables_of locals assigns files name = option_or (value_in locals name) (global_of assigns files name)

-- the values of the variables that a line sees where it is expanded: the local ones, with those of the two codes, and the global ones
abbrev pub visible_variables : Scope → Variables
visible_variables scope = variables_of (shown_pairs scope.locals.now scope.code scope.result2) scope.assigns.now scope.ram.now

-- a digit, a letter or `_`
abbrev pub is_identifier_byte : ℕ → Bool
is_identifier_byte c = (nat_le 48 c && nat_le c 57) || (nat_le 65 c && nat_le c 90) || (nat_le 97 c && nat_le c 122) || c == 95

-- a character may stand in the name of a variable, without braces and without a star before it
abbrev pub is_of_name : Letter → Bool
is_of_name (Plain c) = is_identifier_byte c
is_of_name (Starred c) = false

-- a character is this byte, without a star before it
abbrev pub is_plain : ℕ → Letter → Bool
is_plain byte (Plain c) = c == byte
is_plain byte (Starred c) = false

-- there is a character, and it is this byte, without a star before it
abbrev pub is_this : ℕ → Option Letter → Bool
is_this byte None = false
is_this byte (Some letter) = is_plain byte letter

-- the reference `{name}` whose `$` is before these characters; `to` is the place of its name's end, at which a `}` has to be
abbrev pub braced_reference : List Letter → ℕ → Option Reference
braced_reference rest to = if nat_lt 1 to && is_this 125 (slice_get rest to) then Some (record { from = 1; to = to; end = to + 1 }) else None

-- the reference `name` whose `$` is before it, up to the place of its end; a name of no bytes is no reference
abbrev pub bare_reference : ℕ → Option Reference
bare_reference to = if nat_lt 0 to then Some (record { from = 0; to = to; end = to }) else None

-- the reference whose `$` is before these characters, by the places of its name and of its end: a name, as long as it goes, or a name in
-- braces
abbrev pub reference : List Letter → Option Reference
reference rest =
    if is_this 123 (slice_get rest 0) then braced_reference rest (1 + prefix_len is_of_name (drop 1 rest)) else bare_reference (prefix_len is_of_name rest)

-- the name of a reference, whose `$` is before these characters
abbrev pub name_of : List Letter → Reference → Text
name_of rest r = flat_map letter_text (take (r.to - r.from) (drop r.from rest))

-- a segment of a line: a character that stands for itself, or a reference, by its characters after the `$` and the value that it stands for
pub data Segment : Type 0 where
  Literal : Letter → Segment
  Value : List Letter → Text → Segment

-- the characters that a segment covers
abbrev pub segment_letters : Segment → List Letter
segment_letters (Literal letter) = letter ∷ []
segment_letters (Value letters value) = Plain 36 ∷ letters

-- how many characters a segment covers after its first
abbrev pub later_letter_count : Segment → ℕ
later_letter_count (Literal letter) = 0
later_letter_count (Value letters value) = length letters

-- the text that a segment stands for: the star before a `$` is removed
abbrev pub text_of_segment : Segment → Text
text_of_segment (Literal letter) = starless_text 36 letter
text_of_segment (Value letters value) = value

-- the segment of a `$`, this letter, by the characters of its reference and the value of the variable; an unknown variable stays as it is
-- written
abbrev pub by_value : Letter → List Letter → Option Text → Segment
by_value letter letters None = Literal letter
by_value letter letters (Some value) = Value letters value

-- the segment of a `$`, this letter, by the characters after it and the reference that they begin, if they begin one
abbrev pub by_reference : Variables → Letter → List Letter → Option Reference → Segment
by_reference variables letter rest None = Literal letter
by_reference variables letter rest (Some r) = by_value letter (take r.end rest) (variables (name_of rest r))

-- the segment that begins with this character, by the characters after it
abbrev pub first_segment : Variables → Letter → List Letter → Segment
first_segment variables letter rest = if is_plain 36 letter then by_reference variables letter rest (reference rest) else Literal letter

-- the segments of a list of characters, of which the first `taken` ones belong to the segment before
abbrev pub letter_segments : Variables → ℕ → List Letter → List Segment
letter_segments variables taken letters = segments (first_segment variables) later_letter_count taken letters

-- the text that a list of characters stands for, without the first `taken` ones, which belong to the segment before
abbrev pub values : Variables → ℕ → List Letter → Text
values variables taken letters = joined (first_segment variables) later_letter_count text_of_segment taken letters

-- these characters, which follow a `$`, are a reference to this name: the name, or the name in braces
abbrev pub IsReference : List Letter → Text → Type 0
IsReference letters name = (letters ≡ plain_letters name) ⊎ (letters ≡ Plain 123 ∷ (plain_letters name ++ Plain 125 ∷ []))

-- a segment is a character for itself, or a reference to a name with the value that the variables give to it
abbrev pub IsSegment : Variables → Segment → Type 0
IsSegment variables (Literal letter) = Unit {0}
IsSegment variables (Value letters value) = (name : Text) × IsReference letters name × (variables name ≡ Some value)

-- each of these segments is a character for itself, or a reference with the value that the variables give to its name
abbrev pub AreSegments : Variables → List Segment → Type 0
AreSegments variables [] = Unit {0}
AreSegments variables (segment ∷ row) = IsSegment variables segment × AreSegments variables row

-- a list of segments covers a line's characters, in order, and stands for this text
pub record Stands (variables : Variables) (line text : Text) (row : List Segment) : Type 0 where
  pub covers : flat_map segment_letters row ≡ letters_of line
  pub known : AreSegments variables row
  pub means : flat_map text_of_segment row ≡ text

-- a text is a line with its variables expanded: its segments joined, each a character of the line or the value of a reference
abbrev pub IsInSegments : Variables → Text → Text → Type 0
IsInSegments variables line text = (row : List Segment) × Stands variables line text row
