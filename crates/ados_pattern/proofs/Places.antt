-- Where each form leads from a set of places.
use Rattle.std.proofs.Common.{◌≡◌, ℕ, ◌+◌, ◌-◌, ◌*◌, ◌%◌, ◌^◌, ◌<◌, ◌≤◌, List, [], length, take, drop, Bool, true, false, ◌&&◌, ◌||◌, ◌==◌, refl, sym, ◌∙◌, ap, arith, ◌⊎◌, inl, inr, bit_or, nat_lt, subst}
use Rattle.ados_pattern.specs.CharTest.{has_test}
use Rattle.ados_pattern.specs.Matches.{HasCut, is_one}
use Rattle.ados_pattern.specs.Reach.{AreWithin, ReachedFrom, Reaches}
use Rattle.ados_pattern.specs.declared.tables.Table.{Table}
use Rattle.ados_pattern.specs.Table.{IsTable, byte_at, cells_of, column_of, is_set, leads, piece, table_word}
use Rattle.ados_pattern.proofs.Anys.{Found, any-found, any-true, both-left, both-right, both-true, either-cases, or-left, or-right}
use Rattle.ados_pattern.proofs.Bits.{below-or-not, is-true, is-false, lt-true, lt-false, same-or-not, set-or, set-single}
use Rattle.ados_pattern.proofs.Columns.{cell-at}
use Rattle.ados_pattern.proofs.Middles.{lt-is}
use Rattle.ados_pattern.proofs.Pieces.{IsCutAt, cut-at, length-piece, piece-none, piece-split, piece-whole}
use Rattle.ados_pattern.proofs.RuleLemmas.{eq-is, one-at, one-length, piece-empty-same}

-- the ends are places of the text as the starts are
pub ends-within : (P : List ℕ → Type 0) (text : List ℕ) (starts ends : ℕ) → Reaches P text starts ends → AreWithin text ends
ends-within P text starts ends r i l h = let w : ReachedFrom P text starts i = r.sound i l h in omega (arith, w.ordered, w.within)

pub reach-empty : (text : List ℕ) (starts : ℕ) → AreWithin text starts → Reaches (λ s. s ≡ []) text starts starts
reach-empty text starts w = record {
  sound = λ j l h. record { start = j; fits = l; set = h; ordered = omega arith; within = w j l h; matched = piece-none text j };
  complete = λ i j l h m n e. let P : ℕ → Type 0 = λ k. is_set starts k ≡ true in subst P (piece-empty-same text i j n m e) h;
}

pub reach-then : (P Q : List ℕ → Type 0) (text : List ℕ) (starts middles ends : ℕ) → Reaches P text starts middles → Reaches Q text middles ends → Reaches (HasCut P Q) text starts ends
reach-then P Q text starts middles ends a b = record {
  sound = λ j l h.
      let q : ReachedFrom Q text middles j = b.sound j l h in
      let p : ReachedFrom P text starts q.start = a.sound q.start q.fits q.set in
      record {
        start = p.start;
        fits = p.fits;
        set = p.set;
        ordered = omega (arith, p.ordered, q.ordered);
        within = p.within;
        matched = record {
          front = piece text p.start q.start;
          rest = piece text q.start j;
          joined = piece-split text p.start q.start j q.ordered p.ordered p.within;
          first = p.matched;
          second = q.matched;
        };
      };
  complete = λ i j l h m n p.
      let w : IsCutAt text i j p.front p.rest (j + length p.rest) = cut-at text i j p.front p.rest m n p.joined in
      b.complete (j + length p.rest) j (omega (arith, w.below, l))
      (a.complete i (j + length p.rest) l h w.below n (subst P (sym w.front_is) p.first))
      w.above (omega (arith, w.below, n)) (subst Q (sym w.rest_is) p.second);
}

pub reach-either : (P Q : List ℕ → Type 0) (text : List ℕ) (starts ends others : ℕ) → Reaches P text starts ends → Reaches Q text starts others → Reaches (λ s. P s ⊎ Q s) text starts (bit_or ends others)
reach-either P Q text starts ends others a b = record {
  sound = λ j l h. elim (either-cases (is_set ends j) (is_set others j) (sym (set-or ends others j) ∙ h)) [
    | inl e ↦ let p : ReachedFrom P text starts j = a.sound j l e in record { start = p.start; fits = p.fits; set = p.set; ordered = p.ordered; within = p.within; matched = inl p.matched }
    | inr e ↦ let p : ReachedFrom Q text starts j = b.sound j l e in record { start = p.start; fits = p.fits; set = p.set; ordered = p.ordered; within = p.within; matched = inr p.matched }
  ];
  complete = λ i j l h m n e. set-or ends others j ∙ elim e [
    | inl p ↦ or-left (is_set ends j) (is_set others j) (a.complete i j l h m n p)
    | inr q ↦ or-right (is_set ends j) (is_set others j) (b.complete i j l h m n q)
  ];
}

-- a place in the words of a table's first column
pub first-cell : (t : Table) (k b : ℕ) → b < 64 → is_set (table_word (column_of t 0) (0 * 64 + k)) b ≡ cells_of t k b
first-cell t k b l =
    (let e : 0 * 64 + k ≡ k = omega arith in ap (λ i. is_set (table_word (column_of t 0) i) b) e)
    ∙ sym (cell-at t 0 k b l)
    ∙ (let f : 0 * 64 + b ≡ b = omega arith in ap (λ j. cells_of t k j) f)

pub reach-table : (P : List ℕ → Type 0) (text : List ℕ) (t : Table) (starts ends : ℕ) → IsTable P text (cells_of t) → ((b : ℕ) → b < 64 → is_set ends b ≡ leads starts 0 (column_of t 0) b) → Reaches P text starts ends
unfolding leads
reach-table P text t starts ends is_table e = record {
  sound = λ j l h.
      let w : Found (λ k. is_set starts k && is_set (table_word (column_of t 0) (0 * 64 + k)) j) 0 64 = any-found (λ k. is_set starts k && is_set (table_word (column_of t 0) (0 * 64 + k)) j) 0 64 (sym (e j l) ∙ h) in
      let cell : cells_of t w.place j ≡ true = sym (first-cell t w.place j l) ∙ both-right (is_set starts w.place) (is_set (table_word (column_of t 0) (0 * 64 + w.place)) j) w.passes in
      record {
        start = w.place;
        fits = omega (arith, w.below);
        set = both-left (is_set starts w.place) (is_set (table_word (column_of t 0) (0 * 64 + w.place)) j) w.passes;
        ordered = is_table.ordered w.place j cell;
        within = is_table.within w.place j cell;
        matched = is_table.sound w.place j cell;
      };
  complete = λ i j l h m n p.
      let low : j < 64 = omega (arith, m, l) in
      e j low ∙ any-true (λ k. is_set starts k && is_set (table_word (column_of t 0) (0 * 64 + k)) j) 0 64 i (omega arith) (omega (arith, l))
      (both-true (is_set starts i) (is_set (table_word (column_of t 0) (0 * 64 + i)) j) h (first-cell t i j low ∙ is_table.complete i j m n p));
}

-- a step from a start over one character
abbrev pub steps : (ℕ → Bool) → List ℕ → ℕ → ℕ → Bool
steps test text starts i = is_set starts i && has_test test (byte_at text i)

pub reach-step : (test : ℕ → Bool) (text : List ℕ) (starts ends : ℕ) → length text < 64 → ((b : ℕ) → b < 64 → is_set ends b ≡ (nat_lt (b + 1) (length text + 1) && steps test text starts (b + 1))) → Reaches (λ s. is_one test s ≡ true) text starts ends
reach-step test text starts ends short e = record {
  sound = λ j l h.
      let both : (nat_lt (j + 1) (length text + 1) && steps test text starts (j + 1)) ≡ true = sym (e j l) ∙ h in
      let low : j + 1 < length text + 1 = lt-is (j + 1) (length text + 1) (both-left (nat_lt (j + 1) (length text + 1)) (steps test text starts (j + 1)) both) in
      let step : steps test text starts (j + 1) ≡ true = both-right (nat_lt (j + 1) (length text + 1)) (steps test text starts (j + 1)) both in
      let one : (j + 1) - j ≡ 1 = omega arith in
      record {
        start = j + 1;
        fits = omega (arith, low, short);
        set = both-left (is_set starts (j + 1)) (has_test test (byte_at text (j + 1))) step;
        ordered = omega arith;
        within = omega (arith, low);
        matched = ap (λ k. is_one test (take k (drop (length text - (j + 1)) text))) one ∙ one-at test text (length text - (j + 1)) ∙ both-right (is_set starts (j + 1)) (has_test test (byte_at text (j + 1))) step;
      };
  complete = λ i j l h m n p.
      let one : i - j ≡ 1 = sym (length-piece text i j m n) ∙ one-length test (piece text i j) p in
      let next : i ≡ j + 1 = omega (arith, one, m) in
      let here : has_test test (byte_at text i) ≡ true = sym (one-at test text (length text - i)) ∙ ap (λ k. is_one test (take k (drop (length text - i) text))) (sym one) ∙ p in
      let step : steps test text starts i ≡ true = both-true (is_set starts i) (has_test test (byte_at text i)) h here in
      e j (omega (arith, m, l)) ∙ both-true (nat_lt (j + 1) (length text + 1)) (steps test text starts (j + 1)) (lt-true (j + 1) (length text + 1) (omega (arith, next, n))) (ap (steps test text starts) (sym next) ∙ step);
}

pub or-none : (a : Bool) → (a || false) ≡ a
or-none true = refl
or-none false = refl

pub apart : (start b : ℕ) → start ≤ b + 1 → (start ≡ b + 1 → ⊥) → start + 1 ≤ b + 1
apart start b high e = elim (below-or-not start (b + 1)) [ inl l ↦ omega (arith, l) | inr l ↦ absurd (e (omega (arith, l, high))) ]

-- one more start was looked at
pub step-more : (test : ℕ → Bool) (text : List ℕ) (starts ends more start b : ℕ) (holds : Bool) → 1 ≤ start → is_set ends b ≡ (nat_lt (b + 1) start && steps test text starts (b + 1)) → is_set more b ≡ ((start == 0 * 64 + b + 1) && holds) → holds ≡ steps test text starts start → is_set (bit_or ends more) b ≡ (nat_lt (b + 1) (start + 1) && steps test text starts (b + 1))
step-more test text starts ends more start b holds l h m s =
    set-or ends more b
    ∙ ap (λ x. x || is_set more b) h
    ∙ ap (λ x. (nat_lt (b + 1) start && steps test text starts (b + 1)) || x) (m ∙ ap (λ x. (start == 0 * 64 + b + 1) && x) s)
    ∙ elim (below-or-not (b + 1) start) [
      | inl low ↦
          ap (λ x. (x && steps test text starts (b + 1)) || ((start == 0 * 64 + b + 1) && steps test text starts start)) (lt-true (b + 1) start low)
          ∙ ap (λ x. steps test text starts (b + 1) || (x && steps test text starts start)) (is-false start (0 * 64 + b + 1) (λ q. absurd (omega (arith, q, low))))
          ∙ or-none (steps test text starts (b + 1))
          ∙ sym (ap (λ x. x && steps test text starts (b + 1)) (lt-true (b + 1) (start + 1) (omega (arith, low))))
      | inr high ↦
          ap (λ x. (x && steps test text starts (b + 1)) || ((start == 0 * 64 + b + 1) && steps test text starts start)) (lt-false (b + 1) start high)
          ∙ elim (same-or-not start (b + 1)) [
            | inl e ↦
                ap (λ x. x && steps test text starts start) (is-true start (0 * 64 + b + 1) (omega (arith, e)))
                ∙ ap (steps test text starts) e
                ∙ sym (ap (λ x. x && steps test text starts (b + 1)) (lt-true (b + 1) (start + 1) (omega (arith, e))))
            | inr e ↦
                ap (λ x. x && steps test text starts start) (is-false start (0 * 64 + b + 1) (λ q. e (omega (arith, q))))
                ∙ sym (ap (λ x. x && steps test text starts (b + 1)) (lt-false (b + 1) (start + 1) (apart start b high e)))
          ]
    ]

-- the whole text is matched if its end is reached from its beginning
pub reach-whole : (P : List ℕ → Type 0) (text : List ℕ) (ends : ℕ) → length text < 64 → Reaches P text (1 * 2 ^ length text % 2 ^ 64) ends → (found : Bool) → found ≡ is_set ends 0 → (found ≡ true → P text) × (P text → found ≡ true)
reach-whole P text ends short r found e = (
  λ h.
      let w : ReachedFrom P text (1 * 2 ^ length text % 2 ^ 64) 0 = r.sound 0 (omega arith) (sym e ∙ h) in
      let start : length text ≡ w.start = eq-is (length text) w.start (sym (set-single (length text) w.start short) ∙ w.set) in
      let Q : ℕ → Type 0 = λ i. P (piece text i 0) in
      subst P (piece-whole text) (subst Q (sym start) w.matched),
  λ p. e ∙ r.complete (length text) 0 short (set-single (length text) (length text) short ∙ is-true (length text) (length text) refl) (omega arith) (omega arith) (subst P (sym (piece-whole text)) p),
)

-- the beginning of a text is a place of it
pub whole-within : (text : List ℕ) → length text < 64 → AreWithin text (1 * 2 ^ length text % 2 ^ 64)
whole-within text short i l h = let e : length text ≡ i = eq-is (length text) i (sym (set-single (length text) i short) ∙ h) in omega (arith, e)
