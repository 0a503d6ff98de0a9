-- Where a script continues after a Skip: after the first line at which it stops.
use Rattle.std.specs.Prelude.{ℕ, ◌+◌, List, Bool, true, false, ◌||◌, Option, Some, None, if◌then◌else◌}
use Rattle.std.specs.List.{find}
use Rattle.ados_text.specs.Text.{Text, is_same}
use Rattle.ados_resident.specs.declared.dialects.Dialect.{Dialect}
use Rattle.ados_resident.specs.declared.dialects.Dialect.TheVariants.{Core, Full}
use Rattle.ados_script.specs.declared.heads.Head.{Head}
use Rattle.ados_script.specs.declared.heads.Head.TheVariants.{Lab, EndSkip}
use Rattle.ados_script.specs.declared.jumps.Jump.{Jump}
use Rattle.ados_script.specs.declared.jumps.Jump.TheVariants.{To, EndSkip as AfterEndSkip, None as Nowhere}
use Rattle.ados_script.specs.Heads.{head_of, label_of}
use Rattle.ados_script.specs.Lines.{line_of, is_some_and, numbers_below}
use Rattle.ados_script.specs.Phrases.{phrase_of}

-- a Lab line has a label if its second item is it, and in Full also if its phrase is
abbrev pub has_label : Dialect → Text → Text → Bool
has_label Core label line = is_same (label_of line) label
has_label Full label line = is_same (label_of line) label || is_same (phrase_of line) label

-- a Lab line has the label that is looked for; if none is named, each Lab line will do
abbrev pub is_sought : Dialect → Option Text → Text → Bool
is_sought dialect None line = true
is_sought dialect (Some label) line = has_label dialect label line

-- a search for a label (none: any) stops at a line of this text and kind: at each EndSkip, and at a Lab with the label
abbrev pub stops : Dialect → Option Text → Text → Head → Bool
stops dialect label line EndSkip = true
stops dialect label line Lab = is_sought dialect label line
stops dialect label line _ = false

-- a search for a label (none: any) stops at line j
abbrev pub stops_at : Dialect → Option Text → List Text → ℕ → Bool
stops_at dialect label lines j = is_some_and (λ line. stops dialect label line (head_of line)) (line_of lines j)

-- a line of this kind is an EndSkip
abbrev pub is_end_skip : Head → Bool
is_end_skip EndSkip = true
is_end_skip _ = false

-- line j is an EndSkip
abbrev pub is_end_skip_at : List Text → ℕ → Bool
is_end_skip_at lines j = is_some_and (λ line. is_end_skip (head_of line)) (line_of lines j)

-- the jump to after the line at which a search stopped, or nowhere if it stopped at none; it says if that line is an EndSkip
abbrev pub jump_past_stop : List Text → Option ℕ → Jump
jump_past_stop lines None = Nowhere
jump_past_stop lines (Some j) = if is_end_skip_at lines j then AfterEndSkip (j + 1) else To (j + 1)

-- the jump to after the first line below line i at which a search for a label (none: any) stops
abbrev pub skip_below : Dialect → Option Text → List Text → ℕ → Jump
skip_below dialect label lines i = jump_past_stop lines (find (stops_at dialect label lines) (numbers_below lines i))

-- the jump of a Skip at line i that looks for `label`, or for any if none is named: below line i, or with `back`, BACK, from the first line
-- on
abbrev pub skip : Dialect → List Text → ℕ → Option Text → Bool → Jump
skip dialect lines i label back = skip_below dialect label lines (if back then 0 else i)
