-- Bytes that are cut into lists of one length.
use Rattle.std.proofs.Common.{◌≡◌, ℕ, ◌*◌, ◌<◌, ◌≤◌, Bool, true, false, List, [], ◌∷◌, ◌++◌, length, refl, sym, ap, ◌∙◌, subst, length-append, arith}
use Rattle.std.proofs.lemmas.List.{append-nil}
use Rattle.std.specs.Bool.{Decides}
use Rattle.std.specs.List.{concat}
use Rattle.std.specs.Str.{bytes_eq}
use Rattle.std.specs.Cmp.Lexicographic.{pointwise}
use Rattle.std.proofs.lemmas.Slice.Eq.{slice_eq-Decides, bytes_eq-Decides}
use Rattle.ados_ram.specs.Cut.{AllOf, IsCut}

pub cut-push : (n : ℕ) (ps : List (List ℕ)) (p : List ℕ) → AllOf n ps → 0 < length p → length p ≤ n → IsCut n (ps ++ (p ∷ []))
cut-push n [] p h a b = (a, b)
cut-push n (q ∷ []) p h a b = (h.0, (a, b))
cut-push n (q ∷ r ∷ ps) p h a b = (h.0, cut-push n (r ∷ ps) p h.1 a b)

pub all-push : (n : ℕ) (ps : List (List ℕ)) (p : List ℕ) → AllOf n ps → length p ≡ n → AllOf n (ps ++ (p ∷ []))
all-push n [] p h a = (a, tt)
all-push n (q ∷ ps) p h a = (h.0, all-push n ps p h.1 a)

pub record IsLast (n : ℕ) (ps : List (List ℕ)) (p : List ℕ) : Type 0 where
  pub full : AllOf n ps
  pub some : 0 < length p
  pub most : length p ≤ n

pub cut-pop : (n : ℕ) (ps : List (List ℕ)) (p : List ℕ) → IsCut n (ps ++ (p ∷ [])) → IsLast n ps p
cut-pop n [] p h = record { full = tt; some = h.0; most = h.1 }
cut-pop n (q ∷ []) p h = record { full = (h.0, tt); some = h.1.0; most = h.1.1 }
cut-pop n (q ∷ r ∷ ps) p h = let l = cut-pop n (r ∷ ps) p h.1 in record { full = (h.0, l.full); some = l.some; most = l.most }

pub all-cut : (n : ℕ) (ps : List (List ℕ)) → 0 < n → AllOf n ps → IsCut n ps
all-cut n [] z h = tt
all-cut n (p ∷ []) z h = (subst (λ (k : ℕ). 0 < k) (sym h.0) z, omega (arith, h.0))
all-cut n (p ∷ q ∷ ps) z h = (h.0, all-cut n (q ∷ ps) z h.1)

-- the bytes of full pieces
pub all-length : (ps : List (List ℕ)) → AllOf 4096 ps → length (concat ps) ≡ length ps * 4096
all-length [] h = refl
all-length (p ∷ ps) h = omega (arith, length-append p (concat ps), all-length ps h.1, h.0)

-- the bytes of pieces, by their number
pub cut-most : (ps : List (List ℕ)) → IsCut 4096 ps → length (concat ps) ≤ length ps * 4096
cut-most [] h = omega arith
cut-most (p ∷ []) h = omega (arith, length-append p [], h.1)
cut-most (p ∷ q ∷ ps) h = omega (arith, length-append p (concat (q ∷ ps)), cut-most (q ∷ ps) h.1, h.0)

pub cut-least : (p : List ℕ) (ps : List (List ℕ)) → IsCut 4096 (p ∷ ps) → length ps * 4096 < length (concat (p ∷ ps))
cut-least p [] h = omega (arith, length-append p [], h.0)
cut-least p (q ∷ ps) h = omega (arith, length-append p (concat (q ∷ ps)), cut-least q ps h.1, h.0)

pub few-pieces : (ps : List (List ℕ)) → IsCut 4096 ps → length (concat ps) ≤ 262144 → length ps ≤ 64
few-pieces [] h m = omega arith
few-pieces (p ∷ ps) h m = omega (arith, cut-least p ps h, m)

pub some-bytes : (ps : List (List ℕ)) → IsCut 4096 ps → 0 < length ps → 0 < length (concat ps)
some-bytes [] h z = absurd (omega (arith, z))
some-bytes (p ∷ ps) h z = omega (arith, cut-least p ps h)

abbrev head_of : List ℕ → ℕ
head_of [] = 0
head_of (x ∷ xs) = x

abbrev tail_of : List ℕ → List ℕ
tail_of [] = []
tail_of (x ∷ xs) = xs

-- lists that begin lists of bytes
pub heads : (x y a b : List ℕ) → length x ≡ length y → x ++ a ≡ y ++ b → (x ≡ y) × (a ≡ b)
heads [] [] a b l e = (refl, e)
heads [] (y ∷ ys) a b l e = absurd (omega (arith, l))
heads (x ∷ xs) [] a b l e = absurd (omega (arith, l))
heads (x ∷ xs) (y ∷ ys) a b l e =
    let h = heads xs ys a b (omega (arith, l)) (ap tail_of e) in
    (ap (λ (t : ℕ). t ∷ xs) (ap head_of e) ∙ ap (λ (t : List ℕ). y ∷ t) h.0, h.1)

some : (n : ℕ) (p : List ℕ) (ps : List (List ℕ)) → IsCut n (p ∷ ps) → 0 < length (concat (p ∷ ps))
some n p [] h = omega (arith, length-append p [], h.0)
some n p (q ∷ ps) h = omega (arith, length-append p (concat (q ∷ ps)), some n q ps h.1)

-- bytes are cut in one way
pub one-way : (n : ℕ) (ps qs : List (List ℕ)) → IsCut n ps → IsCut n qs → concat ps ≡ concat qs → ps ≡ qs
one-way n [] [] h g e = refl
one-way n [] (q ∷ qs) h g e = absurd (omega (arith, some n q qs g, ap length e))
one-way n (p ∷ ps) [] h g e = absurd (omega (arith, some n p ps h, ap length e))
one-way n (p ∷ []) (q ∷ []) h g e = ap (λ (t : List ℕ). t ∷ []) (sym (append-nil p) ∙ e ∙ append-nil q)
one-way n (p ∷ []) (q ∷ r ∷ qs) h g e = absurd (omega (arith, h.1, g.0, some n r qs g.1, length-append p [], length-append q (concat (r ∷ qs)), ap length e))
one-way n (p ∷ r ∷ ps) (q ∷ []) h g e = absurd (omega (arith, g.1, h.0, some n r ps h.1, length-append q [], length-append p (concat (r ∷ ps)), ap length e))
one-way n (p ∷ r ∷ ps) (q ∷ s ∷ qs) h g e =
    let f = heads p q (concat (r ∷ ps)) (concat (s ∷ qs)) (h.0 ∙ sym g.0) e in
    ap (λ (t : List ℕ). t ∷ r ∷ ps) f.0 ∙ ap (λ (t : List (List ℕ)). q ∷ t) (one-way n (r ∷ ps) (s ∷ qs) h.1 g.1 f.1)

pub same_test : (P Q : Type 0) (r s : Bool) → Decides r P → Decides s Q → (P → Q) → (Q → P) → r ≡ s
same_test P Q true true h g f k = refl
same_test P Q true false h g f k = sym (g.1 (f (h.0 refl)))
same_test P Q false true h g f k = h.1 (k (g.0 refl))
same_test P Q false false h g f k = refl

pub same_bytes : (n : ℕ) (ps qs : List (List ℕ)) → IsCut n ps → IsCut n qs → pointwise bytes_eq ps qs ≡ bytes_eq (concat ps) (concat qs)
same_bytes n ps qs h g =
    same_test (ps ≡ qs) (concat ps ≡ concat qs) _ _ (slice_eq-Decides bytes_eq-Decides ps qs _ refl) (bytes_eq-Decides (concat ps) (concat qs)) (ap concat) (one-way n ps qs h g)
