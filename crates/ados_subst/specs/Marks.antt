-- The characters of directives and of references.
use Rattle.std.specs.Prelude.{ℕ}
use Rattle.ados_subst.specs.declared.marks.Marks.{Marks}
use Rattle.ados_subst.specs.declared.marks.Mark.{Mark}
use Rattle.ados_subst.specs.declared.marks.Mark.TheVariants.{Bra, Ket, Dollar, Dot}

-- `<`, `>`, `$` and `.`
abbrev pub first_marks : Marks
first_marks = record { bra = 60; ket = 62; dollar = 36; dot = 46 }

-- the marks with another character for one of them
abbrev pub with_mark : Mark → ℕ → Marks → Marks
with_mark Bra c marks = record marks { bra = c }
with_mark Ket c marks = record marks { ket = c }
with_mark Dollar c marks = record marks { dollar = c }
with_mark Dot c marks = record marks { dot = c }
