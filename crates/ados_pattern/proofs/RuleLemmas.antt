-- The table of each form, from the tables of its parts.
use Rattle.std.proofs.Common.{◌≡◌, ℕ, zero, suc, ◌+◌, ◌-◌, ◌<◌, ◌≤◌, List, [], ◌∷◌, length, take, drop, Bool, true, false, ◌&&◌, ◌==◌, refl, sym, ◌∙◌, ap, arith, ◌⊎◌, inl, inr, Some, slice_get, subst}
use Rattle.std.proofs.Math.Bool.{not}
use Rattle.std.proofs.lemmas.Bool.{not-true, not_from_false, false_from_ne_true}
use Rattle.std.specs.List.{range_with_len, list_any}
use Rattle.std.proofs.lemmas.Grind.{common_steps}
use Rattle.ados_pattern.specs.Matches.{HasCut, Matches, Repeats, none, more, is_one}
use Rattle.ados_pattern.specs.declared.tables.Table.{Table}
use Rattle.ados_pattern.specs.declared.tables.Rule.{Rule}
use Rattle.ados_pattern.specs.declared.tables.Rule.TheVariants.{Empty, One, Next, Outside, Many, Other, Then, Either}
use Rattle.ados_pattern.specs.declared.bytes.CharTest.{CharTest}
use Rattle.ados_pattern.specs.declared.bytes.CharTest.TheVariants.{Is, Any as AnyByte, Within}
use Rattle.ados_pattern.specs.CharTest.{has_test, test_in, test_of}
use Rattle.ados_pattern.specs.Form.{Form, Char, Any, Range, Empty as EmptyForm, Outside as OutsideForm, Many as ManyForm, Other as OtherForm, Then as ThenForm, Either as EitherForm}
use Rattle.std.proofs.lemmas.Option.{slice_get_past}
use Rattle.ados_pattern.specs.Table.{Cells, byte_at, cells_of, cell_of, IsRuleTable, IsTable, piece}
use Rattle.ados_pattern.proofs.Anys.{Found, any-found, any-true, both-left, both-right, both-true, either-cases, or-left, or-right}
use Rattle.ados_pattern.proofs.Pieces.{length-piece, piece-none, piece-split, piece-whole, IsCutAt, cut-at}

pub eq-is : (a b : ℕ) → (a == b) ≡ true → a ≡ b
eq-is a b h = grind (arith, common_steps)

pub is-eq : (a b : ℕ) → a ≡ b → (a == b) ≡ true
is-eq a b h = grind (arith, common_steps)

pub below-or-past : (a b : ℕ) → (a ≤ b) ⊎ (b < a)
below-or-past a b = grind arith

pub filled-ordered : (rule : Rule) (text : List ℕ) (cells : Cells) → IsRuleTable rule text cells → (i j : ℕ) → cells i j ≡ true → j ≤ i
filled-ordered rule text cells f i j h = elim (below-or-past j i) [
  | inl l ↦ l
  | inr l ↦ let e : true ≡ false = sym h ∙ f.above i j l in absurd cc
]

pub filled-within : (rule : Rule) (text : List ℕ) (cells : Cells) → IsRuleTable rule text cells → (i j : ℕ) → cells i j ≡ true → i ≤ length text
filled-within rule text cells f i j h = elim (below-or-past i (length text)) [
  | inl l ↦ l
  | inr l ↦ let e : true ≡ false = sym h ∙ f.past i j l in absurd cc
]

-- a rule that says which pieces have P gives their table
pub record Says (rule : Rule) (cells : Cells) (P : List ℕ → Type 0) (text : List ℕ) : Type 0 where
  pub sound : (i j : ℕ) → i ≤ length text → j ≤ i → cell_of rule text cells i j ≡ true → P (piece text i j)
  pub complete : (i j : ℕ) → i ≤ length text → j ≤ i → P (piece text i j) → cell_of rule text cells i j ≡ true

pub table-from : (rule : Rule) (P : List ℕ → Type 0) (text : List ℕ) (cells : Cells) → IsRuleTable rule text cells → Says rule cells P text → IsTable P text cells
table-from rule P text cells f s = record {
  ordered = filled-ordered rule text cells f;
  within = filled-within rule text cells f;
  sound = λ i j h.
      let l : j ≤ i = filled-ordered rule text cells f i j h in
      let m : i ≤ length text = filled-within rule text cells f i j h in
      s.sound i j m l (sym (f.inside i j m l) ∙ h);
  complete = λ i j l m p. f.inside i j m l ∙ s.complete i j m l p;
}

pub piece-empty-same : (text : List ℕ) (i j : ℕ) → i ≤ length text → j ≤ i → piece text i j ≡ [] → i ≡ j
piece-empty-same text i j m l e = omega (arith, l, sym (length-piece text i j l m) ∙ ap length e)

pub table-empty : (text : List ℕ) (cells : Cells) → IsRuleTable Empty text cells → IsTable (λ s. s ≡ []) text cells
table-empty text cells f = table-from Empty (λ s. s ≡ []) text cells f (record {
  sound = λ i j m l h. ap (λ k. piece text i k) (sym (eq-is i j h)) ∙ piece-none text i;
  complete = λ i j m l e. is-eq i j (piece-empty-same text i j m l e);
})

pub table-either : (P Q : List ℕ → Type 0) (a b : Table) (text : List ℕ) (cells : Cells) → IsTable P text (cells_of a) → IsTable Q text (cells_of b) → IsRuleTable (Either a b) text cells → IsTable (λ s. P s ⊎ Q s) text cells
table-either P Q a b text cells ta tb f = table-from (Either a b) (λ s. P s ⊎ Q s) text cells f (record {
  sound = λ i j m l h. elim (either-cases (cells_of a i j) (cells_of b i j) h) [ inl e ↦ inl (ta.sound i j e) | inr e ↦ inr (tb.sound i j e) ];
  complete = λ i j m l e. elim e [
    | inl p ↦ or-left (cells_of a i j) (cells_of b i j) (ta.complete i j l m p)
    | inr q ↦ or-right (cells_of a i j) (cells_of b i j) (tb.complete i j l m q)
  ];
})

pub table-other : (P : List ℕ → Type 0) (a : Table) (text : List ℕ) (cells : Cells) → IsTable P text (cells_of a) → IsRuleTable (Other a) text cells → IsTable (λ s. P s → ⊥) text cells
table-other P a text cells ta f = table-from (Other a) (λ s. P s → ⊥) text cells f (record {
  sound = λ i j m l h p. let e : true ≡ false = sym (ta.complete i j l m p) ∙ not-true (cells_of a i j) h in absurd cc;
  complete = λ i j m l no. not_from_false (cells_of a i j) (false_from_ne_true (cells_of a i j) (λ h. no (ta.sound i j h)));
})

pub table-outside : (P : List ℕ → Type 0) (a : Table) (text : List ℕ) (cells : Cells) → IsTable P text (cells_of a) → IsRuleTable (Outside a) text cells → IsTable (λ s. (length s ≡ 1) × (P s → ⊥)) text cells
table-outside P a text cells ta f = table-from (Outside a) (λ s. (length s ≡ 1) × (P s → ⊥)) text cells f (record {
  sound = λ i j m l h.
      let one : i ≡ j + 1 = eq-is i (j + 1) (both-left (i == j + 1) (not (cells_of a i j)) h) in (
        length-piece text i j l m ∙ omega (arith, one),
        λ p. let e : true ≡ false = sym (ta.complete i j l m p) ∙ not-true (cells_of a i j) (both-right (i == j + 1) (not (cells_of a i j)) h) in absurd cc,
      );
  complete = λ i j m l no. both-true (i == j + 1) (not (cells_of a i j))
      (is-eq i (j + 1) (omega (arith, l, sym (length-piece text i j l m) ∙ no.0)))
      (not_from_false (cells_of a i j) (false_from_ne_true (cells_of a i j) (λ h. no.1 (ta.sound i j h))));
})

pub table-then : (P Q : List ℕ → Type 0) (a b : Table) (text : List ℕ) (cells : Cells) → IsTable P text (cells_of a) → IsTable Q text (cells_of b) → IsRuleTable (Then a b) text cells → IsTable (HasCut P Q) text cells
table-then P Q a b text cells ta tb f = table-from (Then a b) (HasCut P Q) text cells f (record {
  sound = λ i j m l h.
      let w : Found (λ k. cells_of a i k && cells_of b k j) 0 (i + 1) = any-found (λ k. cells_of a i k && cells_of b k j) 0 (i + 1) h in
      let ea : cells_of a i w.place ≡ true = both-left (cells_of a i w.place) (cells_of b w.place j) w.passes in
      let eb : cells_of b w.place j ≡ true = both-right (cells_of a i w.place) (cells_of b w.place j) w.passes in
      record {
        front = piece text i w.place;
        rest = piece text w.place j;
        joined = piece-split text i w.place j (tb.ordered w.place j eb) (ta.ordered i w.place ea) m;
        first = ta.sound i w.place ea;
        second = tb.sound w.place j eb;
      };
  complete = λ i j m l p.
      let w : IsCutAt text i j p.front p.rest (j + length p.rest) = cut-at text i j p.front p.rest l m p.joined in
      any-true (λ k. cells_of a i k && cells_of b k j) 0 (i + 1) (j + length p.rest) (omega arith) (omega (arith, w.below))
      (both-true (cells_of a i (j + length p.rest)) (cells_of b (j + length p.rest) j)
      (ta.complete i (j + length p.rest) w.below m (subst P (sym w.front_is) p.first))
      (tb.complete (j + length p.rest) j w.above (omega (arith, w.below, m)) (subst Q (sym w.rest_is) p.second)));
})

-- by induction on a number above the start
pub many-sound : (P : List ℕ → Type 0) (a : Table) (text : List ℕ) (cells : Cells) → IsTable P text (cells_of a) → IsRuleTable (Many a) text cells → (turns i j : ℕ) → i < turns → i ≤ length text → j ≤ i → cells i j ≡ true → Repeats P (piece text i j)
many-sound P a text cells ta f zero i j t m l h = absurd (omega (arith, t))
many-sound P a text cells ta f (suc turns) i j t m l h =
    elim (either-cases (i == j) (list_any (λ k. cells_of a i k && cells k j) (range_with_len 0 i)) (sym (f.inside i j m l) ∙ h)) [
      | inl e ↦ subst (Repeats P) (sym (ap (λ k. piece text i k) (sym (eq-is i j e)) ∙ piece-none text i)) none
      | inr e ↦
          let w : Found (λ k. cells_of a i k && cells k j) 0 i = any-found (λ k. cells_of a i k && cells k j) 0 i e in
          let ea : cells_of a i w.place ≡ true = both-left (cells_of a i w.place) (cells w.place j) w.passes in
          let eb : cells w.place j ≡ true = both-right (cells_of a i w.place) (cells w.place j) w.passes in
          let low : j ≤ w.place = filled-ordered (Many a) text cells f w.place j eb in
          let in_text : w.place ≤ length text = omega (arith, w.below, m) in
          more (piece text i j) (piece text i w.place) (piece text w.place j)
          (piece-split text i w.place j low (omega (arith, w.below)) m)
          (omega (arith, w.below, length-piece text i w.place (omega (arith, w.below)) m))
          (ta.sound i w.place ea)
          (many-sound P a text cells ta f turns w.place j (omega (arith, w.below, t)) in_text low eb)
    ]

pub many-complete : (P : List ℕ → Type 0) (a : Table) (text : List ℕ) (cells : Cells) → IsTable P text (cells_of a) → IsRuleTable (Many a) text cells → {s : List ℕ} → Repeats P s → (i j : ℕ) → i ≤ length text → j ≤ i → piece text i j ≡ s → cells i j ≡ true
many-complete P a text cells ta f none i j m l e =
    f.inside i j m l ∙ or-left (i == j) (list_any (λ k. cells_of a i k && cells k j) (range_with_len 0 i)) (is-eq i j (piece-empty-same text i j m l e))
many-complete P a text cells ta f (more s front rest joined long p r) i j m l e =
    let w : IsCutAt text i j front rest (j + length rest) = cut-at text i j front rest l m (e ∙ joined) in
    f.inside i j m l ∙ or-right (i == j) (list_any (λ k. cells_of a i k && cells k j) (range_with_len 0 i))
    (any-true (λ k. cells_of a i k && cells k j) 0 i (j + length rest) (omega arith) (omega (arith, w.lengths, long))
    (both-true (cells_of a i (j + length rest)) (cells (j + length rest) j)
    (ta.complete i (j + length rest) w.below m (subst P (sym w.front_is) p))
    (many-complete P a text cells ta f r (j + length rest) j (omega (arith, w.below, m)) w.above w.rest_is)))

pub table-many : (P : List ℕ → Type 0) (a : Table) (text : List ℕ) (cells : Cells) → IsTable P text (cells_of a) → IsRuleTable (Many a) text cells → IsTable (Repeats P) text cells
table-many P a text cells ta f = record {
  ordered = filled-ordered (Many a) text cells f;
  within = filled-within (Many a) text cells f;
  sound = λ i j h. many-sound P a text cells ta f (i + 1) i j (omega arith) (filled-within (Many a) text cells f i j h) (filled-ordered (Many a) text cells f i j h) h;
  complete = λ i j l m p. many-complete P a text cells ta f p i j m l refl;
}

pub one-at : (test : ℕ → Bool) (text : List ℕ) (k : ℕ) → is_one test (take 1 (drop k text)) ≡ has_test test (slice_get text k)
one-at test [] zero = refl
one-at test [] (suc k) = refl
one-at test (c ∷ text) zero = refl
one-at test (c ∷ text) (suc k) = one-at test text k

pub one-length : (test : ℕ → Bool) (s : List ℕ) → is_one test s ≡ true → length s ≡ 1
one-length test [] h = absurd cc
one-length test (c ∷ []) h = refl
one-length test (c ∷ d ∷ s) h = absurd cc

pub table-one : (test : CharTest) (text : List ℕ) (cells : Cells) → IsRuleTable (One test) text cells → IsTable (λ s. is_one (test_of test) s ≡ true) text cells
table-one test text cells f = table-from (One test) (λ s. is_one (test_of test) s ≡ true) text cells f (record {
  sound = λ i j m l h.
      let one : i ≡ j + 1 = eq-is i (j + 1) (both-left (i == j + 1) (has_test (test_of test) (byte_at text i)) h) in
      let e : i - j ≡ 1 = omega (arith, one) in
      ap (λ k. is_one (test_of test) (take k (drop (length text - i) text))) e
      ∙ one-at (test_of test) text (length text - i)
      ∙ both-right (i == j + 1) (has_test (test_of test) (byte_at text i)) h;
  complete = λ i j m l h.
      let e : i - j ≡ 1 = sym (length-piece text i j l m) ∙ one-length (test_of test) (piece text i j) h in
      both-true (i == j + 1) (has_test (test_of test) (byte_at text i))
      (is-eq i (j + 1) (omega (arith, l, e)))
      (sym (one-at (test_of test) text (length text - i)) ∙ ap (λ k. is_one (test_of test) (take k (drop (length text - i) text))) (sym e) ∙ h);
})

pub no-byte : (test : ℕ → Bool) (text : List ℕ) (i : ℕ) → has_test test (byte_at text i) ≡ true → 0 < i
no-byte test text zero h =
    let e : has_test test (byte_at text 0) ≡ false = ap (has_test test) (slice_get_past text (length text - 0) (omega arith)) in
    let f : true ≡ false = sym h ∙ e in absurd cc
no-byte test text (suc i) h = omega arith

pub table-next : (Q : List ℕ → Type 0) (test : CharTest) (b : Table) (text : List ℕ) (cells : Cells) → IsTable Q text (cells_of b) → IsRuleTable (Next test b) text cells → IsTable (HasCut (λ s. is_one (test_of test) s ≡ true) Q) text cells
table-next Q test b text cells tb f = table-from (Next test b) (HasCut (λ s. is_one (test_of test) s ≡ true) Q) text cells f (record {
  sound = λ i j m l h.
      let here : has_test (test_of test) (byte_at text i) ≡ true = both-left (has_test (test_of test) (byte_at text i)) (cells_of b (i - 1) j) h in
      let tail : cells_of b (i - 1) j ≡ true = both-right (has_test (test_of test) (byte_at text i)) (cells_of b (i - 1) j) h in
      let some : 0 < i = no-byte (test_of test) text i here in
      let one : i - (i - 1) ≡ 1 = omega (arith, some) in
      record {
        front = piece text i (i - 1);
        rest = piece text (i - 1) j;
        joined = piece-split text i (i - 1) j (tb.ordered (i - 1) j tail) (omega arith) m;
        first = ap (λ k. is_one (test_of test) (take k (drop (length text - i) text))) one ∙ one-at (test_of test) text (length text - i) ∙ here;
        second = tb.sound (i - 1) j tail;
      };
  complete = λ i j m l p.
      let w : IsCutAt text i j p.front p.rest (j + length p.rest) = cut-at text i j p.front p.rest l m p.joined in
      let long : length p.front ≡ 1 = one-length (test_of test) p.front p.first in
      let place : j + length p.rest ≡ i - 1 = omega (arith, w.lengths, long) in
      let one : i - (j + length p.rest) ≡ 1 = omega (arith, w.lengths, long) in
      let low : j ≤ i - 1 = omega (arith, place) in
      both-true (has_test (test_of test) (byte_at text i)) (cells_of b (i - 1) j)
      (sym (one-at (test_of test) text (length text - i)) ∙ ap (λ k. is_one (test_of test) (take k (drop (length text - i) text))) (sym one) ∙ ap (is_one (test_of test)) w.front_is ∙ p.first)
      (tb.complete (i - 1) j low (omega (arith, m)) (subst Q (sym w.rest_is ∙ ap (λ k. piece text k j) place) p.second));
})

-- a form with a test is a form of one character
pub test-cases : (form : Form) (test : CharTest) (Q : List ℕ → Type 0) (text : List ℕ) (cells : Cells) → test_in form ≡ Some test → IsTable (HasCut (λ s. is_one (test_of test) s ≡ true) Q) text cells → IsTable (HasCut (Matches form) Q) text cells
test-cases (Char c) test Q text cells e t = let s : test ≡ Is c = cc in let P : CharTest → Type 0 = λ test. IsTable (HasCut (λ s. is_one (test_of test) s ≡ true) Q) text cells in subst P s t
test-cases Any test Q text cells e t = let s : test ≡ AnyByte = cc in let P : CharTest → Type 0 = λ test. IsTable (HasCut (λ s. is_one (test_of test) s ≡ true) Q) text cells in subst P s t
test-cases (Range low high) test Q text cells e t = let s : test ≡ Within low high = cc in let P : CharTest → Type 0 = λ test. IsTable (HasCut (λ s. is_one (test_of test) s ≡ true) Q) text cells in subst P s t
test-cases EmptyForm test Q text cells e t = absurd cc
test-cases (OutsideForm f) test Q text cells e t = absurd cc
test-cases (ManyForm f) test Q text cells e t = absurd cc
test-cases (OtherForm f) test Q text cells e t = absurd cc
test-cases (ThenForm f g) test Q text cells e t = absurd cc
test-cases (EitherForm f g) test Q text cells e t = absurd cc

-- the piece from the beginning to the end is the text
pub table-whole : (P : List ℕ → Type 0) (text : List ℕ) (cells : Cells) → IsTable P text cells → (found : Bool) → found ≡ cells (length text) 0 → (found ≡ true → P text) × (P text → found ≡ true)
table-whole P text cells t found e = (
  λ h. subst P (piece-whole text) (t.sound (length text) 0 (sym e ∙ h)),
  λ p. e ∙ t.complete (length text) 0 (omega arith) (omega arith) (subst P (sym (piece-whole text)) p),
)
