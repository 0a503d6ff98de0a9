-- the cut of a line, one item after another: `step` is the rest of the whole cut before the item, and `read` what has
-- been read after it
use Rattle.std.proofs.Common.{ℕ, ◌≡◌, ◌∙◌, Result, Ok, Err, ap, sym, subst, inl, inr}
use Rattle.ados_line.specs.declared.faults.LineFault.{LineFault}
use Rattle.ados_line.specs.declared.cuts.Cut.{Cut}
use Rattle.ados_line.specs.declared.cuts.Reading.{Reading}
use Rattle.ados_line.specs.declared.cuts.Reading.TheVariants.{Onward, Done}
use Rattle.ados_line.specs.Steps.{Goes, IsCut}

-- the cut continues
pub cut-onward : (next : ℕ → Cut → Result Cut LineFault) (step whole : Result Cut LineFault) (reading : Reading) (to : ℕ) (read : Cut)
    → Goes next (Ok reading) read step → reading ≡ Onward to → whole ≡ step → whole ≡ next to read
cut-onward next step whole reading to read goes e h =
    let P : Reading → Type 0 = λ r. Goes next (Ok r) read step in
    h ∙ subst P e goes

-- the line ends
pub cut-done : (next : ℕ → Cut → Result Cut LineFault) (step whole : Result Cut LineFault) (reading : Reading) (read : Cut)
    → Goes next (Ok reading) read step → reading ≡ Done → whole ≡ step → IsCut (Ok read) whole
cut-done next step whole reading read goes e h =
    let P : Reading → Type 0 = λ r. Goes next (Ok r) read step in
    inr (sym (h ∙ subst P e goes))

-- a fault, or a failed allocation
pub cut-fault : (next : ℕ → Cut → Result Cut LineFault) (step whole : Result Cut LineFault) (fault : LineFault) (read : Cut)
    → Goes next (Err fault) read step → whole ≡ step → IsCut (Err fault) whole
cut-fault next step whole fault read goes h = elim goes [ inl e ↦ inl (ap Err e) | inr e ↦ inr (sym (h ∙ e)) ]
