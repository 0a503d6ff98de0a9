-- a line becomes the text of its segments
use Rattle.std.proofs.Common.{◌≡◌, ◌∙◌, ◌≢◌, ℕ, zero, suc, ◌+◌, ◌<◌, ◌==◌, [], ◌∷◌, ◌++◌, true, cond, nat_lt, Option, Some, None, length, take, drop, get_or, refl, sym, ap, subst, arith}
use Rattle.std.specs.List.{position, position_or_len}
use Rattle.std.proofs.lemmas.Bool.{cond-true, cond_both, eqb-true, eqb-false}
use Rattle.std.proofs.lemmas.Bool.Decides.{nat_tests}
use Rattle.std.proofs.lemmas.List.{drop_more, get_or_append_left, get_or_at, get_or_default, get_or-take, length-append, length-take-le, take-append-drop, take_at}
use Rattle.std.proofs.lemmas.List.Quantifiers.{position-Some}
use Rattle.std.proofs.lemmas.List.Sums.{position_or_len_is}
use Rattle.ados_text.specs.Text.{Text}
use Rattle.ados_subst.specs.declared.marks.Marks.{Marks}
use Rattle.ados_subst.specs.References.{References, is_byte}
use Rattle.ados_subst.specs.Lines.{Lacks, LineBecomes, byte, ended, reference, Segment, Literal, segment_by_ket, segment_by_value, first_segment, segment_tail_len, segment_text, substituted_line, segments_text}

-- the next ket follows a text that lacks it
ket-place : (ket : ℕ) (name rest : Text) → Lacks ket name
    → position (is_byte ket) (name ++ ket ∷ rest) ≡ Some (length name)
ket-place ket name rest lacks =
    let line = name ++ ket ∷ rest in
    let long : length line ≡ length name + (length rest + 1) = simp length-append (omega arith) in
    let at : position_or_len (is_byte ket) line ≡ length name =
    position_or_len_is (is_byte ket) line (length name) 0 (omega arith)
    (λ k below.
    let here : get_or line k 0 ≡ get_or name k 0 = get_or_append_left name (ket ∷ rest) 0 k below in
    let other : get_or name k 0 ≢ ket = lacks k 0 below in
    grind (arith, nat_tests))
    (λ _.
    let here : get_or line (length name) 0 ≡ ket = get_or_at name ket rest 0 (length name) refl in
    grind (arith, nat_tests)) in
    let P : ℕ → Type 0 = λ n. cond (nat_lt n (length line)) (Some n) None ≡ Some (length name) in
    let within : nat_lt (length name) (length line) ≡ true = grind (arith, nat_tests, long) in
    subst P (sym at) (cond-true (nat_lt (length name) (length line)) (Some (length name)) None within)

-- a text with a ket is what comes before the next one, the ket, and what follows it
ket-parts : (ket : ℕ) (line : Text) (place : ℕ) → position (is_byte ket) line ≡ Some place
    → Lacks ket (take place line) × (line ≡ take place line ++ ket ∷ drop (length (take place line) + 1) line)
ket-parts ket line place e =
    let found = position-Some (is_byte ket) line place 0 e in
    let size : length (take place line) ≡ place = length-take-le place line (omega (arith, found.0)) in
    let here : get_or line place 0 ≡ ket = eqb-true (get_or line place 0) ket found.1 in (
      λ k d below same.
          let before : k < place = omega (arith, below, size) in
          eqb-false (get_or line k 0) ket (found.2 k before)
          (get_or_default line k 0 d (omega (arith, before, found.0)) ∙ sym (get_or-take place line k d before) ∙ same),
      sym (take-append-drop place line) ∙ ap (λ l. take place line ++ l) (drop_more line place 0 found.0)
          ∙ ap (λ c. take place line ++ c ∷ drop (place + 1) line) here
          ∙ ap (λ n. take place line ++ ket ∷ drop (n + 1) line) (sym size),
    )

-- a line that begins with a segment becomes its text, and that of the rest
abbrev Begins : Marks → References → ℕ → Text → Segment → Type 0
Begins m r c cs segment = LineBecomes m r (c ∷ cs) (segment_text segment ++ segments_text m r (segment_tail_len segment) cs)

-- what follows a segment, by how many bytes of it are left
abbrev After : Marks → References → Text → Type 0
After m r cs = (taken : ℕ) → LineBecomes m r (drop taken cs) (segments_text m r taken cs)

value-begins : (m : Marks) (r : References) (c : ℕ) (cs : Text) (place : ℕ) (value : Option Text)
    → After m r cs → c ≡ m.bra → position (is_byte m.ket) cs ≡ Some place → r (take place cs) ≡ value
    → Begins m r c cs (segment_by_value c (take place cs) value)
value-begins m r c cs place None after bra found known =
    byte c cs (segments_text m r 0 cs)
    (λ name rest lacks same.
    let line : cs ≡ name ++ m.ket ∷ rest = cc in
    let size : place ≡ length name = cc (ket-place m.ket name rest lacks) in
    let same_name : take place cs ≡ name =
    ap (λ n. take n cs) size ∙ ap (λ l. take (length name) l) line ∙ take_at name (m.ket ∷ rest) (length name) refl in
    ap r (sym same_name) ∙ known)
    (after 0)
value-begins m r c cs place (Some value) after bra found known =
    let name = take place cs in
    let parts = ket-parts m.ket cs place found in
    let P : Text → Type 0 = λ line. LineBecomes m r line (value ++ segments_text m r (length name + 1) cs) in
    subst P (ap (λ b. b ∷ (name ++ m.ket ∷ drop (length name + 1) cs)) (sym bra) ∙ ap (λ l. c ∷ l) (sym parts.1))
    (reference name value (drop (length name + 1) cs) (segments_text m r (length name + 1) cs) parts.0 known
    (after (length name + 1)))

ket-begins : (m : Marks) (r : References) (c : ℕ) (cs : Text) (place : Option ℕ) → After m r cs → c ≡ m.bra
    → position (is_byte m.ket) cs ≡ place → Begins m r c cs (segment_by_ket r c cs place)
ket-begins m r c cs None after bra none =
    byte c cs (segments_text m r 0 cs)
    (λ name rest lacks same.
    let line : cs ≡ name ++ m.ket ∷ rest = cc in
    let some : position (is_byte m.ket) cs ≡ Some (length name) =
    ap (position (is_byte m.ket)) line ∙ ket-place m.ket name rest lacks in cc)
    (after 0)
ket-begins m r c cs (Some place) after bra found =
    value-begins m r c cs place (r (take place cs)) after bra found refl

segment-begins : (m : Marks) (r : References) (c : ℕ) (cs : Text) → After m r cs
    → Begins m r c cs (first_segment m r c cs)
segment-begins m r c cs after =
    cond_both (c == m.bra) (segment_by_ket r c cs (position (is_byte m.ket) cs)) (Literal c) (Begins m r c cs)
    (λ e. ket-begins m r c cs (position (is_byte m.ket) cs) after (eqb-true c m.bra e) refl)
    (λ e. byte c cs (segments_text m r 0 cs)
    (λ name rest lacks same. let bra : c ≡ m.bra = cc in absurd (eqb-false c m.bra e bra)) (after 0))

after : (m : Marks) (r : References) (taken : ℕ) (line : Text)
    → LineBecomes m r (drop taken line) (segments_text m r taken line)
after m r zero [] = ended
after m r (suc taken) [] = ended
after m r (suc taken) (c ∷ cs) = after m r taken cs
after m r zero (c ∷ cs) = segment-begins m r c cs (λ taken. after m r taken cs)

-- a line becomes what `substituted_line` gives
pub line-becomes : (m : Marks) (r : References) (line : Text) → LineBecomes m r line (substituted_line m r line)
line-becomes m r line = after m r 0 line
