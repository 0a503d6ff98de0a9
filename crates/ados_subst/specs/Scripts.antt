-- The lines of a script, each by what holds above it.
use Rattle.std.specs.Prelude.{◌≡◌, ℕ, ◌+◌, List, [], ◌∷◌, Bool, false, ◌==◌, Option, Some, None, is_some, MatchBool, Result, Ok, Err, if◌then◌else◌}
use Rattle.ados_text.specs.Text.{Bytes, Text}
use Rattle.ados_subst.specs.declared.above.Above.{Above}
use Rattle.ados_subst.specs.declared.faults.SubstFault.{SubstFault}
use Rattle.ados_subst.specs.Above.{initial_above}
use Rattle.ados_subst.specs.Directives.{directive_result}
use Rattle.ados_subst.specs.Lines.{LineBecomes, substituted_line}
use Rattle.ados_subst.specs.References.{reference_value}

-- what follows the dot, if the line is a directive
abbrev pub directive_text : ℕ → Text → Option Text
directive_text dot [] = None
directive_text dot (c ∷ cs) = if c == dot then Some cs else None

-- a line before others, if there are others
abbrev pub with_line : Text → Result (List Text) SubstFault → Result (List Text) SubstFault
with_line line (Ok lines) = Ok (line ∷ lines)
with_line line (Err fault) = Err fault

-- what gives the lines below, by what holds above them
abbrev pub LinesBelow : Type 0
LinesBelow = Above → Result (List Text) SubstFault

-- a directive leaves an empty line before those below it
abbrev pub lines_after_directive : LinesBelow → Result Above SubstFault → Result (List Text) SubstFault
lines_after_directive below (Ok above) = with_line [] (below above)
lines_after_directive below (Err fault) = Err fault

-- a line before those below it, by what follows its dot if it is a directive
abbrev pub lines_from_line : LinesBelow → Bytes → Text → Above → ℕ → Text → Option Text → Result (List Text) SubstFault
lines_from_line below args process above number line None =
    with_line (substituted_line above.marks (reference_value above process) line) (below above)
lines_from_line below args process above number line (Some body) = lines_after_directive below (directive_result above args number body)

-- the lines by what holds above them, the first with this number
abbrev pub substituted_lines : Bytes → Text → Above → ℕ → List Text → Result (List Text) SubstFault
substituted_lines args process above number [] = Ok []
substituted_lines args process above number (line ∷ lines) =
    (let below = λ (next : Above). substituted_lines args process next (number + 1) lines in
    lines_from_line below args process above number line (directive_text above.marks.dot line))

-- the first line begins with a `.`
abbrev pub is_dotted : List Text → Bool
is_dotted [] = false
is_dotted (line ∷ lines) = is_some (directive_text 46 line)

-- The lines of a script, or the fault of its first directive that has one; those of a script whose first line does
-- not begin with `.` stay.
abbrev pub script_of : List Text → Bytes → Text → Result (List Text) SubstFault
script_of lines args process = if is_dotted lines then substituted_lines args process initial_above 1 lines else Ok lines

-- Lines become texts, below what holds above them: a directive becomes an empty line, and changes what holds above
-- the next one; another line becomes a text by what holds above it.
pub data LinesBecome (args : Bytes) (process : Text) : Above → ℕ → List Text → List Text → Type 0 where
  ended : (above : Above) (number : ℕ) → LinesBecome args process above number [] []
  directive : (above next : Above) (number : ℕ) (line body : Text) (lines texts : List Text)
      → directive_text above.marks.dot line ≡ Some body → directive_result above args number body ≡ Ok next
      → LinesBecome args process next (number + 1) lines texts
      → LinesBecome args process above number (line ∷ lines) ([] ∷ texts)
  other : (above : Above) (number : ℕ) (line text : Text) (lines texts : List Text)
      → directive_text above.marks.dot line ≡ None → LineBecomes above.marks (reference_value above process) line text
      → LinesBecome args process above (number + 1) lines texts
      → LinesBecome args process above number (line ∷ lines) (text ∷ texts)

-- The lines of a script become texts if the first begins with a `.`, and otherwise they stay.
abbrev pub ScriptBecomes : List Text → Bytes → Text → List Text → Type 0
ScriptBecomes lines args process texts =
    MatchBool (is_dotted lines) (LinesBecome args process initial_above 1 lines texts) (texts ≡ lines)
