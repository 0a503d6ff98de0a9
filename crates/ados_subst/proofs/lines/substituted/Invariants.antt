use Rattle.std.proofs.Common.{◌≡◌, ◌++◌, drop}
use Rattle.ados_subst.specs.References.{reference_value}
use Rattle.ados_subst.specs.Lines.{segments_text}
use Rattle.ados_subst.specs.Next.{next_place}
use Rattle.ados_subst.proofs.lines.substituted.Given as goal

abbrev pub invariant-loop-place : goal.invariant-loop-place
invariant-loop-place l =
    let r = reference_value l.above l.process in
    (segments_text l.above.marks r 0 l.line ≡ l.text ++ segments_text l.above.marks r l.taken (drop l.place l.line))
    × (l.ket ≡ next_place l.above.marks.ket l.line l.place)
    × (l.dollar ≡ next_place l.above.marks.dollar l.line l.place)
