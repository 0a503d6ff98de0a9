-- The tables in which a script looks up where its jumps lead: what each holds, so that a lookup finds what the definitions of the jumps
-- (Blocks, Skips) say.
use Rattle.std.specs.Prelude.{◌≡◌, ℕ, ◌+◌, ◌-◌, ◌<◌, ◌^◌, length, List, [], ◌∷◌, ◌++◌, map, reverse, slice_get, Bool, true, false, ◌&&◌, nat_lt, Option, Some, None, is_none, if◌then◌else◌}
use Rattle.std.specs.List.{filter, find}
use Rattle.std.specs.List.Sorted.{IsSortedByKey}
use Rattle.ados_text.specs.Text.{Text, folded_text, is_same}
use Rattle.ados_text.specs.Name.{name_cmp}
use Rattle.ados_resident.specs.declared.dialects.Dialect.{Dialect}
use Rattle.ados_script.specs.declared.heads.Head.{Head}
use Rattle.ados_script.specs.declared.heads.Head.TheVariants.{If, Else, EndIf, Lab}
use Rattle.ados_script.specs.declared.blocks.Ends.{Ends}
use Rattle.ados_script.specs.declared.labels.Label.{Label}
use Rattle.ados_script.specs.declared.tables.Tables.{Tables}
use Rattle.ados_script.specs.declared.jumps.Jump.{Jump}
use Rattle.ados_script.specs.declared.jumps.Jump.TheVariants.{To, EndSkip as AfterEndSkip, None as Nowhere}
use Rattle.ados_script.specs.Heads.{head_of, label_of}
use Rattle.ados_script.specs.Lines.{line_of, is_some_and, numbers_below}
use Rattle.ados_script.specs.Blocks.{ends_block}
use Rattle.ados_script.specs.Phrases.{phrase_of}
use Rattle.ados_script.specs.Skips.{is_end_skip_at, is_sought}

-- where the block that line i begins or stands in ends, by the kinds of the script's lines: at the first EndIf below it at depth 0, and at
-- the first Else or EndIf there
abbrev pub first_ends : List Head → ℕ → Ends
first_ends heads i = record { end_if = find (ends_block false heads i) (numbers_below heads i); branch = find (ends_block true heads i) (numbers_below heads i) }

-- the entry of a line at which no block ends
abbrev pub no_ends : Ends
no_ends = record { end_if = None; branch = None }

-- an entry says that no block ends
abbrev pub is_nowhere : Ends → Bool
is_nowhere entry = is_none entry.end_if && is_none entry.branch

-- an entry, or the one that says that no block ends if there is none
abbrev pub entry_or_none : Option Ends → Ends
entry_or_none None = no_ends
entry_or_none (Some entry) = entry

-- Entries are made from the script's last line up, each put at the end of the list, so the last is that of the topmost line so far. This is
-- the entry of the line `down` lines below that one; at a line that has none no block ends.
abbrev pub kept_ends : List Ends → ℕ → Ends
kept_ends entries down = entry_or_none (slice_get (reverse entries) down)

-- the entry of the line `end`, at which a block ends (none: it does not end), if the topmost entry is that of the line `line`
abbrev pub entry_at_end : List Ends → ℕ → Option ℕ → Ends
entry_at_end entries line None = no_ends
entry_at_end entries line (Some end) = kept_ends entries (end - line)

-- The entry of the line above the line `line`, given the kind of `line` and the entries from it down. An If is passed over with all lines
-- to its EndIf: what counts is the entry of that EndIf.
abbrev pub ends_above : List Ends → ℕ → Head → Ends
ends_above entries line EndIf = record { end_if = Some line; branch = Some line }
ends_above entries line Else = record { end_if = (kept_ends entries 0).end_if; branch = Some line }
ends_above entries line If = entry_at_end entries line (kept_ends entries 0).end_if
ends_above entries line _ = kept_ends entries 0

-- the entries with one more on top; as long as no entry says that a block ends, none is kept
abbrev pub with_entry : List Ends → Ends → List Ends
with_entry [] entry = if is_nowhere entry then [] else entry ∷ []
with_entry (last ∷ entries) entry = (last ∷ entries) ++ entry ∷ []

-- a line of this kind is a Lab
abbrev pub is_lab : Head → Bool
is_lab Lab = true
is_lab _ = false

-- line j is a Lab
abbrev pub is_lab_at : List Text → ℕ → Bool
is_lab_at lines j = is_some_and (λ line. is_lab (head_of line)) (line_of lines j)

-- a line's text, or the empty text if there is no line
abbrev pub text_or : Option Text → Text
text_or None = []
text_or (Some line) = line

-- line j is a Lab with the label that is looked for (none: any Lab)
abbrev pub sought_at : Dialect → Option Text → List Text → ℕ → Bool
sought_at dialect label lines j = is_lab_at lines j && is_sought dialect label (text_or (line_of lines j))

-- the first of these line numbers that is below line i
abbrev pub first_below : List ℕ → ℕ → Option ℕ
first_below numbers i = find (λ line. nat_lt i line) numbers

-- the label of line j, with its number; `text_of` gives the label that a line has
abbrev pub label_at : (Text → Text) → List Text → ℕ → Label
label_at text_of lines j = record { text = text_of (text_or (line_of lines j)); line = j }

-- the labels of the Lab lines below line i, in the order of the lines; `text_of` gives the label that a line has
abbrev pub labels_below : (Text → Text) → List Text → ℕ → List Label
labels_below text_of lines i = map (label_at text_of lines) (filter (is_lab_at lines) (numbers_below lines i))

-- a label has this text, with case ignored
abbrev pub has_text : Text → Label → Bool
has_text text label = is_same label.text text

-- these are the labels that `text_of` gives for the Lab lines of a script, in the order of their texts, ignoring case, and those with the
-- same text in the order of their lines
pub record AreByText (text_of : Text → Text) (lines : List Text) (labels : List Label) : Type 0 where
  pub sorted : IsSortedByKey (λ (label : Label). folded_text label.text) name_cmp labels
  pub all : (text : Text) → filter (has_text text) labels ≡ filter (has_text text) (labels_below text_of lines 0)

-- the tables are those of these lines, which are few enough that the one after the last has a number too
pub record AreTables (lines : List Text) (tables : Tables) : Type 0 where
  pub few : length lines < 2 ^ 63
  pub ends : (i : ℕ) → kept_ends tables.ends.items i ≡ first_ends (map head_of lines) i
  pub end_skips : tables.end_skips.items ≡ filter (is_end_skip_at lines) (numbers_below lines 0)
  pub labs : tables.labs.items ≡ filter (is_lab_at lines) (numbers_below lines 0)
  pub labels : AreByText label_of lines tables.labels.items
  pub phrases : AreByText phrase_of lines tables.phrases.items

-- the smaller of two line numbers, of which one or both may be missing
abbrev pub nearer_of : Option ℕ → Option ℕ → Option ℕ
nearer_of None other = other
nearer_of (Some line) None = Some line
nearer_of (Some line) (Some other) = if nat_lt line other then Some line else Some other

-- the jump to after the Lab (the first parameter) or the EndSkip (the second) that was found, whichever comes first; nowhere if neither was
abbrev pub jump_past_first : Option ℕ → Option ℕ → Jump
jump_past_first None None = Nowhere
jump_past_first (Some lab) None = To (lab + 1)
jump_past_first None (Some end) = AfterEndSkip (end + 1)
jump_past_first (Some lab) (Some end) = if nat_lt end lab then AfterEndSkip (end + 1) else To (lab + 1)
