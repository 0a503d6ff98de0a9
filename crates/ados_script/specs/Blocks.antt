-- Where a script continues after an If that fails, and after an Else. Depth is counted from the line that jumps: the
-- lines above it do not matter, even if their If and EndIf lines do not match.
use Rattle.std.specs.Prelude.{ℕ, List, map, Bool, true, false, ◌==◌, ◌&&◌}
use Rattle.std.specs.List.{count_by, find}
use Rattle.ados_text.specs.Text.{Text}
use Rattle.ados_script.specs.declared.heads.Head.{Head}
use Rattle.ados_script.specs.declared.heads.Head.TheVariants.{If, Else, EndIf}
use Rattle.ados_script.specs.declared.jumps.Jump.{Jump}
use Rattle.ados_script.specs.Heads.{head_of}
use Rattle.ados_script.specs.Lines.{line_of, is_some_and, numbers_below, lines_between}
use Rattle.ados_script.specs.Jumps.{jump_to_next}

-- a line of this kind is an If
abbrev pub is_if : Head → Bool
is_if If = true
is_if _ = false

-- a line of this kind is an EndIf
abbrev pub is_end_if : Head → Bool
is_end_if EndIf = true
is_end_if _ = false

-- a line of this kind ends a block: an EndIf always, and an Else if `at_else`, as it does for an If
abbrev pub is_end : Bool → Head → Bool
is_end at_else EndIf = true
is_end at_else Else = at_else
is_end at_else _ = false

-- as many of these lines are If lines as EndIf lines
abbrev pub is_level : List Head → Bool
is_level lines = count_by is_if lines == count_by is_end_if lines

-- line j can end the block of line i, which i begins (an If, an Else) or stands in: j is an EndIf, or with `at_else` an Else, and between
-- the two are as many If lines as EndIf lines
abbrev pub ends_block : Bool → List Head → ℕ → ℕ → Bool
ends_block at_else lines i j = is_some_and (is_end at_else) (line_of lines j) && is_level (lines_between lines i j)

-- the jump to after the first line below line i that ends the block of line i; with `at_else` an Else ends it too
abbrev pub block_jump : Bool → List Text → ℕ → Jump
block_jump at_else lines i =
    let heads = map head_of lines in
    jump_to_next (find (ends_block at_else heads i) (numbers_below heads i))

-- the jump of an If at a line that fails: to after its Else or EndIf
abbrev pub after_if : List Text → ℕ → Jump
after_if = block_jump true

-- the jump of an Else at a line: to after its EndIf
abbrev pub after_else : List Text → ℕ → Jump
after_else = block_jump false
