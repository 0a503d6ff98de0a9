-- a script's lines, one after another, and what they become
use Rattle.std.proofs.Common.{◌≡◌, ℕ, ◌+◌, List, [], ◌∷◌, ◌++◌, Bool, true, false, Option, Some, None, Result, Ok, Err, IfOk, refl, sym, subst, inl, inr}
use Rattle.ados_text.specs.Text.{Bytes, Text}
use Rattle.ados_subst.specs.declared.above.Above.{Above}
use Rattle.ados_subst.specs.declared.faults.SubstFault.{SubstFault}
use Rattle.ados_subst.specs.Above.{initial_above}
use Rattle.ados_subst.specs.Directives.{directive_result}
use Rattle.ados_subst.specs.Faults.{Gives}
use Rattle.ados_subst.specs.Lines.{substituted_line}
use Rattle.ados_subst.specs.References.{reference_value}
use Rattle.ados_subst.specs.Scripts.{LinesBecome, directive, ended, other, ScriptBecomes, lines_after_directive, directive_text, is_dotted, lines_from_line, substituted_lines, script_of, with_line}
use Rattle.ados_subst.proofs.ReferenceLemmas.{line-becomes}

-- these lines before others, if there are others
abbrev pub with_lines : List Text → Result (List Text) SubstFault → Result (List Text) SubstFault
with_lines done (Ok lines) = Ok (done ++ lines)
with_lines done (Err fault) = Err fault

-- a line before others, separated from them
parted : (line : Text) (rest : Result (List Text) SubstFault) (texts : List Text) → with_line line rest ≡ Ok texts
    → (more : List Text) × (rest ≡ Ok more) × (line ∷ more ≡ texts)
parted line (Ok more) texts e = (more, refl, cc)
parted line (Err fault) texts e = cc

-- what is given for lines is what they become
abbrev Goes : Bytes → Text → ℕ → List Text → Type 0
Goes args process number lines = (above : Above) (texts : List Text)
    → substituted_lines args process above number lines ≡ Ok texts → LinesBecome args process above number lines texts

-- a directive, and the lines after it
below-becomes : (args : Bytes) (process : Text) (above : Above) (number : ℕ) (line body : Text)
    (lines texts : List Text) (made : Result Above SubstFault) → Goes args process (number + 1) lines
    → directive_text above.marks.dot line ≡ Some body → directive_result above args number body ≡ made
    → lines_after_directive (λ next. substituted_lines args process next (number + 1) lines) made ≡ Ok texts
    → LinesBecome args process above number (line ∷ lines) texts
below-becomes args process above number line body lines texts (Err fault) goes some made e = cc
below-becomes args process above number line body lines texts (Ok next) goes some made e =
    let it = parted [] (substituted_lines args process next (number + 1) lines) texts e in
    let P : List Text → Type 0 = λ all. LinesBecome args process above number (line ∷ lines) all in
    subst P it.2 (directive above next number line body lines it.0 some made (goes next it.0 it.1))

-- any line, and those after it
from-becomes : (args : Bytes) (process : Text) (above : Above) (number : ℕ) (line : Text) (lines texts : List Text)
    (body : Option Text) → Goes args process (number + 1) lines → directive_text above.marks.dot line ≡ body
    → lines_from_line (λ next. substituted_lines args process next (number + 1) lines) args process above number line body
    ≡ Ok texts
    → LinesBecome args process above number (line ∷ lines) texts
from-becomes args process above number line lines texts None goes none e =
    let m = above.marks in
    let r = reference_value above process in
    let it = parted (substituted_line m r line) (substituted_lines args process above (number + 1) lines) texts e in
    let P : List Text → Type 0 = λ all. LinesBecome args process above number (line ∷ lines) all in
    subst P it.2
    (other above number line (substituted_line m r line) lines it.0 none (line-becomes m r line) (goes above it.0 it.1))
from-becomes args process above number line lines texts (Some body) goes some e =
    below-becomes args process above number line body lines texts (directive_result above args number body) goes some refl e

lines-become : (args : Bytes) (process : Text) (number : ℕ) (lines : List Text) → Goes args process number lines
lines-become args process number [] above texts e =
    let P : List Text → Type 0 = λ all. LinesBecome args process above number [] all in
    let same : [] ≡ texts = cc in
    subst P same (ended above number)
lines-become args process number (line ∷ lines) above texts e =
    let rest = lines-become args process (number + 1) lines in
    from-becomes args process above number line lines texts (directive_text above.marks.dot line) rest refl e

script-becomes : (lines texts : List Text) (args : Bytes) (process : Text) → script_of lines args process ≡ Ok texts
    → ScriptBecomes lines args process texts
script-becomes lines texts args process = by (is_dotted lines) refl
  where
    by : (b : Bool) → is_dotted lines ≡ b → script_of lines args process ≡ Ok texts
        → ScriptBecomes lines args process texts
    by true dotted = simp dotted (λ e. lines-become args process 1 lines initial_above texts e)
    by false plain = simp plain (λ e. cc)

pub said : (result : Result (List Text) SubstFault) (lines : List Text) (args : Bytes) (process : Text)
    → Gives result (script_of lines args process) → IfOk result (ScriptBecomes lines args process)
said (Ok texts) lines args process (inl none) = cc
said (Ok texts) lines args process (inr same) = script-becomes lines texts args process (sym same)
said (Err fault) lines args process gives = tt
