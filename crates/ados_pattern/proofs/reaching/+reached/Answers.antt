use Rattle.std.proofs.Common.{◌≡◌, ◌∙◌, sym, ap, subst, List, ℕ, bit_or}
use Rattle.std.proofs.lemmas.Result.{IfOk-weaker}
use Rattle.ados_pattern.specs.declared.parts.Part.{Part}
use Rattle.ados_pattern.specs.Form.{Form, Char, Any, Range, Then, Either, form_of}
use Rattle.ados_pattern.specs.Matches.{Matches, in_range, is_any, is_same_character}
use Rattle.ados_pattern.specs.Reach.{Reaches}
use Rattle.ados_pattern.proofs.Places.{reach-either, reach-step, reach-table, reach-then}
use Rattle.ados_pattern.proofs.reaching.+reached.Goals as goal

-- where a part leads, by what it is
at_part : (part : Part) (form : Form) (text : List ℕ) (starts ends : ℕ) → form_of part ≡ form → Reaches (Matches form) text starts ends → Reaches (Matches (form_of part)) text starts ends
at_part part form text starts ends e r = let P : Form → Type 0 = λ f. Reaches (Matches f) text starts ends in subst P (sym e) r

pub returns-in-Char : goal.returns-in-Char
returns-in-Char t c = at_part c.args.part.now (Char c.in-Char.c) c.args.text.now c.args.starts c.stepped.result (ap form_of c.in-Char.is) (reach-step (is_same_character c.in-Char.c) c.args.text.now c.args.starts c.stepped.result c.requires.short c.stepped.ensures)

pub returns-in-Any : goal.returns-in-Any
returns-in-Any t c = at_part c.args.part.now Any c.args.text.now c.args.starts c.stepped-in-Any.result (ap form_of c.in-Any.is) (reach-step is_any c.args.text.now c.args.starts c.stepped-in-Any.result c.requires.short c.stepped-in-Any.ensures)

pub returns-in-Range : goal.returns-in-Range
returns-in-Range t c = at_part c.args.part.now (Range c.in-Range.low c.in-Range.high) c.args.text.now c.args.starts c.stepped-in-Range.result (ap form_of c.in-Range.is) (reach-step (in_range c.in-Range.low c.in-Range.high) c.args.text.now c.args.starts c.stepped-in-Range.result c.requires.short c.stepped-in-Range.ensures)

pub returns-in_ok-middles-in-Then : goal.returns-in_ok-middles-in-Then
returns-in_ok-middles-in-Then t c =
    IfOk-weaker c.reached-in-Then.result _ _ (λ ends r. at_part c.args.part.now (Then (form_of c.deref.result.now) (form_of c.deref-in-Then.result.now)) c.args.text.now c.args.starts ends
    (ap form_of c.in-Then.is ∙ ap (λ x. Then (form_of x) (form_of c.in-Then.rest.value)) (sym c.deref.ensures) ∙ ap (λ x. Then (form_of c.deref.result.now) (form_of x)) (sym c.deref-in-Then.ensures))
    (reach-then (Matches (form_of c.deref.result.now)) (Matches (form_of c.deref-in-Then.result.now)) c.args.text.now c.args.starts c.in_ok-middles-in-Then.middles ends c.in_ok-middles-in-Then.ensures r)) c.reached-in-Then.ensures

pub returns-in_ok-others-in-Either : goal.returns-in_ok-others-in-Either
returns-in_ok-others-in-Either t c =
    at_part c.args.part.now (Either (form_of c.deref-in-Either.result.now) (form_of c.deref-in-Either-2.result.now)) c.args.text.now c.args.starts (bit_or c.in_ok-ends-in-Either.ends c.in_ok-others-in-Either.others)
    (ap form_of c.in-Either.is ∙ ap (λ x. Either (form_of x) (form_of c.in-Either.other.value)) (sym c.deref-in-Either.ensures) ∙ ap (λ x. Either (form_of c.deref-in-Either.result.now) (form_of x)) (sym c.deref-in-Either-2.ensures))
    (reach-either (Matches (form_of c.deref-in-Either.result.now)) (Matches (form_of c.deref-in-Either-2.result.now)) c.args.text.now c.args.starts c.in_ok-ends-in-Either.ends c.in_ok-others-in-Either.others c.in_ok-ends-in-Either.ensures c.in_ok-others-in-Either.ensures)

pub returns-in_ok-table-in_default : goal.returns-in_ok-table-in_default
returns-in_ok-table-in_default t c = reach-table (Matches (form_of c.args.part.now)) c.args.text.now c.in_ok-table-in_default.table c.args.starts c.ends_of.result c.in_ok-table-in_default.ensures c.ends_of.ensures
