use Rattle.std.proofs.Common.{◌≡◌, ◌∙◌, sym, ap, subst, List, ℕ}
use Rattle.std.proofs.lemmas.Result.{IfOk-weaker}
use Rattle.ados_pattern.specs.declared.parts.Part.{Part}
use Rattle.ados_pattern.specs.declared.tables.Table.{Table}
use Rattle.ados_pattern.specs.declared.bytes.CharTest.TheVariants.{Is, Any as AnyByte, Within}
use Rattle.ados_pattern.specs.Form.{Form, Char, Any, Range, Outside, Many, Other, Then, Either, form_of}
use Rattle.ados_pattern.specs.Matches.{Matches}
use Rattle.ados_pattern.specs.Table.{IsTable, cells_of}
use Rattle.ados_pattern.proofs.RuleLemmas.{table-one, table-next, table-outside, table-many, table-other, table-then, table-either, test-cases}
use Rattle.ados_pattern.proofs.matching.+table.Goals as goal

-- a table of what a part is
at_part : (part : Part) (form : Form) (text : List ℕ) → form_of part ≡ form → (t : Table) → IsTable (Matches form) text (cells_of t) → IsTable (Matches (form_of part)) text (cells_of t)
at_part part form text e t h = let P : Form → Type 0 = λ f. IsTable (Matches f) text (cells_of t) in subst P (sym e) h

pub returns-in-Char : goal.returns-in-Char
returns-in-Char t c =
    IfOk-weaker c.filled-in-Char.result _ _ (λ t f. at_part c.args.part.now (Char c.in-Char.c) c.args.text.now (ap form_of c.in-Char.is) t (table-one (Is c.in-Char.c) c.args.text.now (cells_of t) f)) c.filled-in-Char.ensures

pub returns-in-Any : goal.returns-in-Any
returns-in-Any t c =
    IfOk-weaker c.filled-in-Any.result _ _ (λ t f. at_part c.args.part.now Any c.args.text.now (ap form_of c.in-Any.is) t (table-one AnyByte c.args.text.now (cells_of t) f)) c.filled-in-Any.ensures

pub returns-in-Range : goal.returns-in-Range
returns-in-Range t c =
    IfOk-weaker c.filled-in-Range.result _ _ (λ t f. at_part c.args.part.now (Range c.in-Range.low c.in-Range.high) c.args.text.now (ap form_of c.in-Range.is) t (table-one (Within c.in-Range.low c.in-Range.high) c.args.text.now (cells_of t) f)) c.filled-in-Range.ensures

pub returns-in_ok-inner-in-Outside : goal.returns-in_ok-inner-in-Outside
returns-in_ok-inner-in-Outside t c =
    IfOk-weaker c.filled-in-Outside.result _ _ (λ t f. at_part c.args.part.now (Outside (form_of c.deref.result.now)) c.args.text.now (ap form_of c.in-Outside.is ∙ ap (λ x. Outside (form_of x)) (sym c.deref.ensures)) t
    (table-outside (Matches (form_of c.deref.result.now)) c.in_ok-inner-in-Outside.inner c.args.text.now (cells_of t) c.in_ok-inner-in-Outside.ensures f)) c.filled-in-Outside.ensures

pub returns-in_ok-inner-in-Many : goal.returns-in_ok-inner-in-Many
returns-in_ok-inner-in-Many t c =
    IfOk-weaker c.filled-in-Many.result _ _ (λ t f. at_part c.args.part.now (Many (form_of c.deref-in-Many.result.now)) c.args.text.now (ap form_of c.in-Many.is ∙ ap (λ x. Many (form_of x)) (sym c.deref-in-Many.ensures)) t
    (table-many (Matches (form_of c.deref-in-Many.result.now)) c.in_ok-inner-in-Many.inner c.args.text.now (cells_of t) c.in_ok-inner-in-Many.ensures f)) c.filled-in-Many.ensures

pub returns-in_ok-inner-in-Other : goal.returns-in_ok-inner-in-Other
returns-in_ok-inner-in-Other t c =
    IfOk-weaker c.filled-in-Other.result _ _ (λ t f. at_part c.args.part.now (Other (form_of c.deref-in-Other.result.now)) c.args.text.now (ap form_of c.in-Other.is ∙ ap (λ x. Other (form_of x)) (sym c.deref-in-Other.ensures)) t
    (table-other (Matches (form_of c.deref-in-Other.result.now)) c.in_ok-inner-in-Other.inner c.args.text.now (cells_of t) c.in_ok-inner-in-Other.ensures f)) c.filled-in-Other.ensures

pub returns-in-Some : goal.returns-in-Some
returns-in-Some t c =
    IfOk-weaker c.filled-in-Some.result _ _ (λ t f. at_part c.args.part.now (Then (form_of c.deref-in-Then-2.result.now) (form_of c.deref-in-Then.result.now)) c.args.text.now
    (ap form_of c.in-Then.is ∙ ap (λ x. Then (form_of x) (form_of c.in-Then.rest.value)) (sym c.deref-in-Then-2.ensures) ∙ ap (λ x. Then (form_of c.deref-in-Then-2.result.now) (form_of x)) (sym c.deref-in-Then.ensures)) t
    (test-cases (form_of c.deref-in-Then-2.result.now) c.in-Some.test (Matches (form_of c.deref-in-Then.result.now)) c.args.text.now (cells_of t) (sym c.in-Some.ensures)
    (table-next (Matches (form_of c.deref-in-Then.result.now)) c.in-Some.test c.in_ok-rest-in-Then.rest c.args.text.now (cells_of t) c.in_ok-rest-in-Then.ensures f))) c.filled-in-Some.ensures

pub returns-in_ok-first-in-None : goal.returns-in_ok-first-in-None
returns-in_ok-first-in-None t c =
    IfOk-weaker c.filled-in-None.result _ _ (λ t f. at_part c.args.part.now (Then (form_of c.deref-in-None.result.now) (form_of c.deref-in-Then.result.now)) c.args.text.now
    (ap form_of c.in-Then.is ∙ ap (λ x. Then (form_of x) (form_of c.in-Then.rest.value)) (sym c.deref-in-None.ensures) ∙ ap (λ x. Then (form_of c.deref-in-None.result.now) (form_of x)) (sym c.deref-in-Then.ensures)) t
    (table-then (Matches (form_of c.deref-in-None.result.now)) (Matches (form_of c.deref-in-Then.result.now)) c.in_ok-first-in-None.first c.in_ok-rest-in-Then.rest c.args.text.now (cells_of t) c.in_ok-first-in-None.ensures c.in_ok-rest-in-Then.ensures f)) c.filled-in-None.ensures

pub returns-in_ok-other-in-Either : goal.returns-in_ok-other-in-Either
returns-in_ok-other-in-Either t c =
    IfOk-weaker c.filled-in-Either.result _ _ (λ t f. at_part c.args.part.now (Either (form_of c.deref-in-Either.result.now) (form_of c.deref-in-Either-2.result.now)) c.args.text.now
    (ap form_of c.in-Either.is ∙ ap (λ x. Either (form_of x) (form_of c.in-Either.other.value)) (sym c.deref-in-Either.ensures) ∙ ap (λ x. Either (form_of c.deref-in-Either.result.now) (form_of x)) (sym c.deref-in-Either-2.ensures)) t
    (table-either (Matches (form_of c.deref-in-Either.result.now)) (Matches (form_of c.deref-in-Either-2.result.now)) c.in_ok-one-in-Either.one c.in_ok-other-in-Either.other c.args.text.now (cells_of t) c.in_ok-one-in-Either.ensures c.in_ok-other-in-Either.ensures f)) c.filled-in-Either.ensures
