-- Where a jump leads: to the line after the one that was found.
use Rattle.std.specs.Prelude.{ℕ, ◌+◌, ◌<◌, ◌≤◌, ⊤, List, length, Option, Some, None}
use Rattle.ados_text.specs.Text.{Text}
use Rattle.ados_script.specs.declared.jumps.Jump.{Jump}
use Rattle.ados_script.specs.declared.jumps.Jump.TheVariants.{To, EndSkip, None as Nowhere}

-- the jump to the line after a line that was found, or nowhere if none was
abbrev pub jump_to_next : Option ℕ → Jump
jump_to_next None = Nowhere
jump_to_next (Some j) = To (j + 1)

-- a jump leads to a line below the first, at most to the one after the last, or nowhere
abbrev pub LeadsWithin : List Text → Jump → Type 0
LeadsWithin lines (To j) = (1 < j) × (j ≤ length lines + 1)
LeadsWithin lines (EndSkip j) = (1 < j) × (j ≤ length lines + 1)
LeadsWithin lines Nowhere = ⊤
