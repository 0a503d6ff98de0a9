-- A script with a bad directive is never called, whatever its arguments are.
use Rattle.std.proofs.Common.{◌≡◌, ◌∙◌, ℕ, ◌+◌, List, [], ◌∷◌, true, false, Option, Some, None, Result, Ok, Err, refl, sym, ap, subst, inl, inr}
use Rattle.std.proofs.lemmas.Bool.{cond_both}
use Rattle.ados_text.specs.Text.{Bytes, Text}
use Rattle.ados_readargs.specs.declared.errors.ArgFault.{ArgFault}
use Rattle.ados_readargs.specs.declared.errors.ArgFault.TheVariants as arg
use Rattle.ados_subst.specs.declared.above.Above.{Above}
use Rattle.ados_subst.specs.declared.faults.SubstFault.{SubstFault}
use Rattle.ados_subst.specs.declared.faults.SubstFault.TheVariants as fault
use Rattle.ados_subst.specs.declared.marks.Marks.{Marks}
use Rattle.ados_subst.specs.Above.{initial_above}
use Rattle.ados_subst.specs.Directives.{directive_result}
use Rattle.ados_subst.specs.Faults.{Gives}
use Rattle.ados_subst.specs.Lines.{substituted_line}
use Rattle.ados_subst.specs.References.{reference_value}
use Rattle.ados_subst.specs.Scripts.{directive_text, is_dotted, lines_after_directive, lines_from_line, script_of, substituted_lines, with_line}
use Rattle.ados_check.specs.Directives.{HasFault, IsAlwaysBad, IsNeverCalled, IsSample}
use Rattle.ados_check.proofs.AlikeLemmas.{AreAlike, Follows, StayBad, Stays, directive-follows, is_of_arguments, is_of_template}

-- a fault below a line is one of the line and what is below it
with-line-fault : (line : Text) (below : Result (List Text) SubstFault) (why : SubstFault) → with_line line below ≡ Err why → below ≡ Err why
with-line-fault line (Ok lines) why e = cc
with-line-fault line (Err other) why e = e

still-bad : (why : SubstFault) (line : Text) (below : Result (List Text) SubstFault) → StayBad why below → StayBad why (with_line line below)
still-bad why line (Ok lines) bad = bad
still-bad why line (Err other) bad = bad

-- with other arguments the lines have a fault too, if theirs does not come from the arguments
abbrev StayFaulty : Bytes → Bytes → Text → Text → SubstFault → ℕ → List Text → Type 0
StayFaulty these those first second why number lines =
    (one two : Above) → AreAlike one two → substituted_lines these first one number lines ≡ Err why → StayBad why (substituted_lines those second two number lines)

line-stays : (these those : Bytes) (first second : Text) (why : SubstFault) (number : ℕ) (line : Text) (lines : List Text) (body : Option Text) (one two : Above)
    → is_of_arguments why ≡ false → StayFaulty these those first second why (number + 1) lines → AreAlike one two
    → lines_from_line (λ next. substituted_lines these first next (number + 1) lines) these first one number line body ≡ Err why
    → StayBad why (lines_from_line (λ next. substituted_lines those second next (number + 1) lines) those second two number line body)
line-stays these those first second why number line lines None one two fixed goes alike e =
    still-bad why (substituted_line two.marks (reference_value two second) line) (substituted_lines those second two (number + 1) lines)
    (goes one two alike (with-line-fault (substituted_line one.marks (reference_value one first) line) (substituted_lines these first one (number + 1) lines) why e))
line-stays these those first second why number line lines (Some body) one two fixed goes alike e =
    by (directive_result one these number body) (directive_result two those number body) (directive-follows one two these those number body alike) e
  where
    by : (r s : Result Above SubstFault) → Follows r s
        → lines_after_directive (λ next. substituted_lines these first next (number + 1) lines) r ≡ Err why
        → StayBad why (lines_after_directive (λ next. substituted_lines those second next (number + 1) lines) s)
    by (Ok a) (Ok b) like e =
        still-bad why [] (substituted_lines those second b (number + 1) lines)
        (goes a b like (with-line-fault [] (substituted_lines these first a (number + 1) lines) why e))
    by (Ok a) (Err other) like e = inr like
    by (Err other) (Err another) like e = let same : other ≡ why = cc in subst (λ f. Stays f another) same like
    by (Err other) (Ok b) like e =
        let same : other ≡ why = cc in
        let not : is_of_arguments other ≡ false = ap is_of_arguments same ∙ fixed in
        cc

lines-stay : (these those : Bytes) (first second : Text) (why : SubstFault) (number : ℕ) (lines : List Text)
    → is_of_arguments why ≡ false → StayFaulty these those first second why number lines
lines-stay these those first second why number [] fixed one two alike e = cc
lines-stay these those first second why number (line ∷ lines) fixed one two alike e =
    let same : directive_text one.marks.dot line ≡ directive_text two.marks.dot line = ap (λ (marks : Marks). directive_text marks.dot line) alike.marks in
    subst (λ body. StayBad why (lines_from_line (λ next. substituted_lines those second next (number + 1) lines) those second two number line body)) same
    (line-stays these those first second why number line lines (directive_text one.marks.dot line) one two fixed
    (lines-stay these those first second why (number + 1) lines fixed) alike e)

never-called : (lines : List Text) (args : Bytes) (process : Text) (why : SubstFault) → is_of_arguments why ≡ false
    → script_of lines args process ≡ Err why → (others : Bytes) (other : Text) → StayBad why (script_of lines others other)
never-called lines args process why fixed =
    let P : Result (List Text) SubstFault → Type 0 = λ r. r ≡ Err why → (others : Bytes) (other : Text) → StayBad why (script_of lines others other) in
    cond_both (is_dotted lines) (substituted_lines args process initial_above 1 lines) (Ok lines) P
    (λ dotted e others other. rw dotted
    (lines-stay args others process other why 1 lines fixed initial_above initial_above (record { marks = refl; names = refl }) e))
    (λ plain e. cc)

of-template : (why : SubstFault) → is_of_template why ≡ true → (of_args : ArgFault) × (why ≡ fault.Args of_args)
of-template (fault.Args of_args) e = (of_args, refl)
of-template (fault.BadDirective line) e = cc
of-template fault.NoMemory e = cc

-- a bad directive
bad-at : (line : ℕ) (result : Result (List Text) SubstFault) → StayBad (fault.BadDirective line) result → HasFault line result
bad-at line (Ok lines) bad = absurd bad
bad-at line (Err why) (inl same) = inl (ap Err same)
bad-at line (Err why) (inr is) = let found = of-template why is in inr (found.0, ap Err found.1)

pub bad_line : (lines : List Text) (args : Bytes) (process : Text) (line : ℕ) → script_of lines args process ≡ Err (fault.BadDirective line) → IsNeverCalled lines line
bad_line lines args process line e others other =
    bad-at line (script_of lines others other) (never-called lines args process (fault.BadDirective line) refl e others other)

-- a template that is none
template-at : (line : ℕ) (result : Result (List Text) SubstFault) → StayBad (fault.Args arg.BadTemplate) result → HasFault line result
template-at line (Ok lines) bad = absurd bad
template-at line (Err why) (inl same) = inr (arg.BadTemplate, ap Err same)
template-at line (Err why) (inr is) = let found = of-template why is in inr (found.0, ap Err found.1)

pub bad_template : (lines : List Text) (args : Bytes) (process : Text) (line : ℕ) → script_of lines args process ≡ Err (fault.Args arg.BadTemplate) → IsNeverCalled lines line
bad_template lines args process line e others other =
    template-at line (script_of lines others other) (never-called lines args process (fault.Args arg.BadTemplate) refl e others other)

pub told_template : (lines : List Text) (args : Bytes) (process : Text) (line : ℕ) (result : Result (List Text) SubstFault) (why : SubstFault) (of_args : ArgFault)
    → Gives result (script_of lines args process) → result ≡ Err why → why ≡ fault.Args of_args → of_args ≡ arg.BadTemplate → IsNeverCalled lines line
told_template lines args process line result why of_args (inl none) is args-is bad = cc
told_template lines args process line result why of_args (inr gives) is args-is bad =
    bad_template lines args process line (sym gives ∙ is ∙ ap Err (args-is ∙ ap fault.Args bad))

-- the lines that Execute gives with some arguments
pub is_sample : (lines : List Text) (args : Bytes) (process : Text) (result : Result (List Text) SubstFault) (found : List Text) → Gives result (script_of lines args process) → result ≡ Ok found
    → IsSample lines found
is_sample lines args process result found (inl none) is = cc
is_sample lines args process result found (inr gives) is = (args, process, sym gives ∙ is)

-- if one directive is always bad, no other fault is found
pub bad_found : (lines : List Text) (args : Bytes) (process : Text) (result : Result (List Text) SubstFault) (other line : ℕ) → Gives result (script_of lines args process)
    → result ≡ Err (fault.BadDirective other) → IsAlwaysBad lines line → other ≡ line
bad_found lines args process result other line (inl none) is bad = cc
bad_found lines args process result other line (inr gives) is bad = let always = bad args process in cc

pub never_lines : (lines found : List Text) (args : Bytes) (process : Text) (result : Result (List Text) SubstFault) (line : ℕ) → Gives result (script_of lines args process)
    → result ≡ Ok found → IsAlwaysBad lines line → ⊥
never_lines lines found args process result line (inl none) is bad = cc
never_lines lines found args process result line (inr gives) is bad = let always = bad args process in cc

pub never_args : (lines : List Text) (args : Bytes) (process : Text) (result : Result (List Text) SubstFault) (why : SubstFault) (of_args : ArgFault) (line : ℕ)
    → Gives result (script_of lines args process) → result ≡ Err why → why ≡ fault.Args of_args → IsAlwaysBad lines line → ⊥
never_args lines args process result why of_args line (inl none) is args-is bad = cc
never_args lines args process result why of_args line (inr gives) is args-is bad = let always = bad args process in cc
