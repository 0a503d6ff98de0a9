-- Manual: where Skip, If and Else lead, told once more as a reference manual does, line by line.
use Rattle.std.specs.Prelude.{◌≡◌, ℕ, suc, ◌+◌, ◌-◌, List, [], ◌∷◌, drop, Bool, true, false, ◌==◌, ◌&&◌, Option, codes, if◌then◌else◌}
use Rattle.ados_text.specs.Text.{Text, is_same}
use Rattle.ados_items.specs.declared.items.Item.{Item}
use Rattle.ados_items.specs.declared.items.Item.TheVariants.{Word}
use Rattle.ados_items.specs.Items.{item_at, bytes_between}
use Rattle.ados_script.specs.declared.jumps.Jump.{Jump}
use Rattle.ados_script.specs.declared.jumps.Jump.TheVariants.{To, EndSkip, None as Nowhere}
use Rattle.ados_script.specs.Blocks.{after_if, after_else}
use Rattle.ados_script.specs.Skips.{is_sought, skip}
use Rattle.ados_resident.specs.declared.dialects.Dialect.{Dialect}

-- the first item of a line, which is given, is this word, ignoring case; a quoted one does not count
abbrev pub is_word : Text → Text → Item → Bool
is_word line word (Word from to) = is_same (bytes_between line from to) word
is_word line word _ = false

-- a line's first item is this word, ignoring case
abbrev pub begins_with : Text → Text → Bool
begins_with line word = is_word line word (item_at true line 0)

-- Where a script goes on whose lines after the i-th, which these are, are passed over to the end of a block, while `depth` more blocks are
-- open in it: each If opens one, and each EndIf closes one. The block ends at its EndIf, or if `at_else` says so also at its Else, and the
-- line after that one is next.
abbrev pub past_block : Bool → ℕ → ℕ → List Text → Jump
past_block at_else depth i [] = Nowhere
past_block at_else depth i (line ∷ lines) =
    if begins_with line (codes "If") then past_block at_else (suc depth) (i + 1) lines else
    (if begins_with line (codes "Else") then (if at_else && (depth == 0) then To (i + 1 + 1) else past_block at_else depth (i + 1) lines) else
    (if begins_with line (codes "EndIf") then (if depth == 0 then To (i + 1 + 1) else past_block at_else (depth - 1) (i + 1) lines) else
    past_block at_else depth (i + 1) lines))

-- Where a script goes on whose lines after the i-th, which these are, are passed over to this label, or to any Lab if none is named: at the
-- line after that; an EndSkip on the way stops the search, and the line after it is next.
abbrev pub past_label : Dialect → Option Text → ℕ → List Text → Jump
past_label dialect label i [] = Nowhere
past_label dialect label i (line ∷ lines) =
    if begins_with line (codes "EndSkip") then EndSkip (i + 1 + 1) else
    (if begins_with line (codes "Lab") && is_sought dialect label line then To (i + 1 + 1) else past_label dialect label (i + 1) lines)

-- an If at line i that fails leads past its block, to its Else or its EndIf
abbrev pub IfsLeadPastTheirBlock : Type 0
IfsLeadPastTheirBlock = (lines : List Text) (i : ℕ) → after_if lines i ≡ past_block true 0 i (drop i lines)

-- an Else at line i leads past its block, to its EndIf
abbrev pub ElsesLeadPastTheirBlock : Type 0
ElsesLeadPastTheirBlock = (lines : List Text) (i : ℕ) → after_else lines i ≡ past_block false 0 i (drop i lines)

-- a Skip at line i leads past its label, which is looked for in the lines after it, and with BACK in all lines from the first
abbrev pub SkipsLeadPastTheirLabel : Type 0
SkipsLeadPastTheirLabel = (dialect : Dialect) (lines : List Text) (i : ℕ) (label : Option Text) (back : Bool) →
    skip dialect lines i label back ≡ (if back then past_label dialect label 0 lines else past_label dialect label i (drop i lines))
