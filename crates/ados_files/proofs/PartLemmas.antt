-- Where a text stands in another: at the first place, or in what follows it.
use Rattle.std.proofs.Common.{◌≡◌, ◌∙◌, ◌<◌, ◌+◌, ℕ, zero, suc, List, [], ◌∷◌, true, false, drop, length, refl, ap, arith}
use Rattle.ados_files.specs.Parts.{begins_with, stands_in}

-- it does not begin at a place, so it stands there only if it stands in what follows
stands_behind : (text line : List ℕ) (start : ℕ) → start < length line → begins_with text (drop start line) ≡ false →
    stands_in text (drop (suc start) line) ≡ stands_in text (drop start line)
stands_behind text [] start within apart = absurd (omega (arith, within))
stands_behind text (c ∷ cs) zero within apart = rw apart refl
stands_behind text (c ∷ cs) (suc start) within apart = stands_behind text cs start (omega (arith, within)) apart

pub stands_next : (text line : List ℕ) (start : ℕ) → start < length line → begins_with text (drop start line) ≡ false →
    stands_in text (drop (start + 1) line) ≡ stands_in text (drop start line)
stands_next text line start within apart =
    let next : start + 1 ≡ suc start = omega arith in
    ap (λ n. stands_in text (drop n line)) next ∙ stands_behind text line start within apart

-- it begins at a place
pub stands_here : (text line : List ℕ) → begins_with text line ≡ true → stands_in text line ≡ true
stands_here text [] begins = begins
stands_here text (c ∷ cs) begins = rw begins refl

-- behind the last byte it stands only if it is empty
pub stands_end : (text line : List ℕ) → stands_in text (drop (length line) line) ≡ begins_with text []
stands_end text [] = refl
stands_end text (c ∷ cs) = stands_end text cs
