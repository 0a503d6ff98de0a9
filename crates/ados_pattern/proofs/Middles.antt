-- The ends to which middles lead.
use Rattle.std.proofs.Common.{◌≡◌, ℕ, zero, suc, ◌+◌, ◌*◌, ◌%◌, ◌<◌, ◌≤◌, ◌^◌, List, Bool, true, false, ◌&&◌, ◌||◌, ◌==◌, refl, sym, ◌∙◌, ap, arith, inl, inr, bit_and, bit_or, nat_lt}
use Rattle.std.specs.List.{range_with_len, list_any}
use Rattle.std.proofs.Math.Bool.{not}
use Rattle.std.specs.Int.{bit_at, bit_not, trailing_zeros, w64}
use Rattle.std.proofs.lemmas.Nat.{and_le_l}
use Rattle.std.proofs.lemmas.Nat.Bits.{bit_at-trailing_zeros, bit_at_clear_same, bit_at_clear_other}
use Rattle.ados_pattern.specs.declared.tables.Table.{Table}
use Rattle.ados_pattern.specs.Table.{is_set, leads, table_word, column_of, cells_of}
use Rattle.ados_pattern.proofs.Anys.{Found, any-found, any-true, any-same, both-left, both-right, both-true, either-cases, or-left, or-right}
use Rattle.ados_pattern.proofs.Bits.{set-zero, set-or, set-and, same-or-not, is-true, is-false, lt-true, lt-false, below-or-not}
use Rattle.ados_pattern.proofs.Columns.{cell-at}
use Rattle.ados_pattern.proofs.Filling.{and-false, and-true}
use Rattle.ados_pattern.proofs.Ranges.{same-bools}

pub either-false : (a : Bool) → (a || false) ≡ a
either-false true = refl
either-false false = refl

pub any-none : (p : ℕ → Bool) (a n : ℕ) → ((k : ℕ) → p k ≡ false) → list_any p (range_with_len a n) ≡ false
any-none p a zero h = refl
any-none p a (suc n) h = ap (λ x. x || list_any p (range_with_len (a + 1) n)) (h a) ∙ any-none p (a + 1) n h

pub leads-none : (group : ℕ) (rest : List ℕ) (b : ℕ) → leads 0 group rest b ≡ false
unfolding leads
leads-none group rest b = any-none (λ k. is_set 0 k && is_set (table_word rest (group * 64 + k)) b) 0 64 (λ k. ap (λ x. x && is_set (table_word rest (group * 64 + k)) b) (set-zero k))

-- a word without one bit
abbrev pub LacksBit : ℕ → ℕ → ℕ → Type 0
LacksBit less word bit = (k : ℕ) → k < 64 → is_set less k ≡ (is_set word k && not (k == bit))

pub leads-split : (word less bit group : ℕ) (rest : List ℕ) (b : ℕ) → bit < 64 → is_set word bit ≡ true → LacksBit less word bit → (is_set (table_word rest (group * 64 + bit)) b || leads less group rest b) ≡ leads word group rest b
unfolding leads
leads-split word less bit group rest b l s lacks =
    same-bools (is_set (table_word rest (group * 64 + bit)) b || leads less group rest b) (leads word group rest b)
    (λ h. elim (either-cases (is_set (table_word rest (group * 64 + bit)) b) (leads less group rest b) h) [
      | inl e ↦ any-true (λ k. is_set word k && is_set (table_word rest (group * 64 + k)) b) 0 64 bit (omega arith) (omega (arith, l)) (both-true (is_set word bit) (is_set (table_word rest (group * 64 + bit)) b) s e)
      | inr e ↦
          let w : Found (λ k. is_set less k && is_set (table_word rest (group * 64 + k)) b) 0 64 = any-found (λ k. is_set less k && is_set (table_word rest (group * 64 + k)) b) 0 64 e in
          let in_word : w.place < 64 = omega (arith, w.below) in
          let kept : is_set word w.place ≡ true = both-left (is_set word w.place) (not (w.place == bit)) (sym (lacks w.place in_word) ∙ both-left (is_set less w.place) (is_set (table_word rest (group * 64 + w.place)) b) w.passes) in
          any-true (λ k. is_set word k && is_set (table_word rest (group * 64 + k)) b) 0 64 w.place (omega arith) (omega (arith, w.below)) (both-true (is_set word w.place) (is_set (table_word rest (group * 64 + w.place)) b) kept (both-right (is_set less w.place) (is_set (table_word rest (group * 64 + w.place)) b) w.passes))
    ])
    (λ h.
    let w : Found (λ k. is_set word k && is_set (table_word rest (group * 64 + k)) b) 0 64 = any-found (λ k. is_set word k && is_set (table_word rest (group * 64 + k)) b) 0 64 h in
    let in_word : w.place < 64 = omega (arith, w.below) in
    let leads_on : is_set (table_word rest (group * 64 + w.place)) b ≡ true = both-right (is_set word w.place) (is_set (table_word rest (group * 64 + w.place)) b) w.passes in
    elim (same-or-not w.place bit) [
      | inl e ↦ or-left (is_set (table_word rest (group * 64 + bit)) b) (leads less group rest b) (ap (λ k. is_set (table_word rest (group * 64 + k)) b) (sym e) ∙ leads_on)
      | inr e ↦
          let kept : is_set less w.place ≡ true = lacks w.place in_word ∙ both-true (is_set word w.place) (not (w.place == bit)) (both-left (is_set word w.place) (is_set (table_word rest (group * 64 + w.place)) b) w.passes) (ap not (is-false w.place bit e)) in
          or-right (is_set (table_word rest (group * 64 + bit)) b) (leads less group rest b) (any-true (λ k. is_set less k && is_set (table_word rest (group * 64 + k)) b) 0 64 w.place (omega arith) (omega (arith, w.below)) (both-true (is_set less w.place) (is_set (table_word rest (group * 64 + w.place)) b) kept leads_on))
    ])

pub or-order : (a r x : Bool) → ((a || r) || x) ≡ (a || (r || x))
or-order true r x = refl
or-order false r x = refl

-- one more middle is added
pub leads-more : (done more left less bit group : ℕ) (rest : List ℕ) (b : ℕ) → bit < 64 → is_set left bit ≡ true → LacksBit less left bit → more ≡ table_word rest (group * 64 + bit) → (is_set (bit_or done more) b || leads less group rest b) ≡ (is_set done b || leads left group rest b)
leads-more done more left less bit group rest b l s lacks e =
    ap (λ x. x || leads less group rest b) (set-or done more b ∙ ap (λ (n : ℕ). is_set done b || is_set n b) e)
    ∙ or-order (is_set done b) (is_set (table_word rest (group * 64 + bit)) b) (leads less group rest b)
    ∙ ap (λ x. is_set done b || x) (leads-split left less bit group rest b l s lacks)

-- places one after the other
pub any-shift : (q : ℕ → Bool) (a c n : ℕ) → list_any (λ k. q (a + k)) (range_with_len c n) ≡ list_any q (range_with_len (a + c) n)
any-shift q a c zero = refl
any-shift q a c (suc n) = ap (λ x. q (a + c) || x) (any-shift q a (c + 1) n ∙ (let e : a + (c + 1) ≡ a + c + 1 = omega arith in ap (λ k. list_any q (range_with_len k n)) e))

pub any-join : (q : ℕ → Bool) (a m n : ℕ) → list_any q (range_with_len a (m + n)) ≡ (list_any q (range_with_len a m) || list_any q (range_with_len (a + m) n))
any-join q a zero n = (let e : zero + n ≡ n = omega arith in ap (λ k. list_any q (range_with_len a k)) e) ∙ (let f : a ≡ a + zero = omega arith in ap (λ k. list_any q (range_with_len k n)) f)
any-join q a (suc m) n =
    (let e : suc m + n ≡ suc (m + n) = omega arith in ap (λ k. list_any q (range_with_len a k)) e)
    ∙ ap (λ x. q a || x) (any-join q (a + 1) m n)
    ∙ sym (or-order (q a) (list_any q (range_with_len (a + 1) m)) (list_any q (range_with_len (a + 1 + m) n)))
    ∙ (let f : a + 1 + m ≡ a + suc m = omega arith in ap (λ k. (q a || list_any q (range_with_len (a + 1) m)) || list_any q (range_with_len k n)) f)

-- a middle below a limit leads to an end
abbrev pub leads_by : Table → ℕ → List ℕ → ℕ → ℕ → ℕ → Bool
leads_by t start rest limit b k = (cells_of t start k && nat_lt k limit) && is_set (table_word rest k) b

-- the middles of the groups so far
abbrev pub led_before : Table → ℕ → List ℕ → ℕ → ℕ → ℕ → Bool
led_before t start rest limit group b = list_any (leads_by t start rest limit b) (range_with_len 0 (group * 64))

pub led-more : (t : Table) (start limit group word middles mask more b : ℕ) (rest : List ℕ) → b < 64 → is_set word b ≡ led_before t start rest limit group b → middles ≡ bit_and (table_word (column_of t group) start) mask → ((k : ℕ) → k < 64 → is_set mask k ≡ nat_lt (group * 64 + k) limit) → is_set more b ≡ leads middles group rest b → is_set (bit_or word more) b ≡ led_before t start rest limit (group + 1) b
unfolding leads
led-more t start limit group word middles mask more b rest l h e m f =
    set-or word more b
    ∙ ap (λ x. x || is_set more b) h
    ∙ ap (λ x. led_before t start rest limit group b || x)
    (f ∙ any-same (λ k. is_set middles k && is_set (table_word rest (group * 64 + k)) b) (λ k. leads_by t start rest limit b (group * 64 + k)) 0 64
    (λ k _ k_below. ap (λ x. x && is_set (table_word rest (group * 64 + k)) b)
    (ap (λ (n : ℕ). is_set n k) e
    ∙ set-and (table_word (column_of t group) start) mask k
    ∙ ap (λ x. x && is_set mask k) (sym (cell-at t group start k (omega (arith, k_below))))
    ∙ ap (λ x. cells_of t start (group * 64 + k) && x) (m k (omega (arith, k_below)))))
    ∙ any-shift (leads_by t start rest limit b) (group * 64) 0 64
    ∙ (let g : group * 64 + 0 ≡ 0 + group * 64 = omega arith in ap (λ k. list_any (leads_by t start rest limit b) (range_with_len k 64)) g))
    ∙ sym (any-join (leads_by t start rest limit b) 0 (group * 64) 64)
    ∙ (let g : group * 64 + 64 ≡ (group + 1) * 64 = omega arith in ap (λ k. list_any (leads_by t start rest limit b) (range_with_len 0 k)) g)

pub lt-is : (a b : ℕ) → nat_lt a b ≡ true → a < b
lt-is a b h = elim (below-or-not a b) [ inl l ↦ l | inr l ↦ let e : true ≡ false = sym h ∙ lt-false a b l in absurd cc ]

-- all middles below the limit
pub led-all : (t : Table) (start limit group b : ℕ) (rest : List ℕ) → limit ≤ group * 64 → led_before t start rest limit group b ≡ list_any (λ k. cells_of t start k && is_set (table_word rest k) b) (range_with_len 0 limit)
led-all t start limit group b rest l = same-bools (led_before t start rest limit group b) (list_any (λ k. cells_of t start k && is_set (table_word rest k) b) (range_with_len 0 limit))
    (λ h.
    let w : Found (leads_by t start rest limit b) 0 (group * 64) = any-found (leads_by t start rest limit b) 0 (group * 64) h in
    let both : (cells_of t start w.place && nat_lt w.place limit) ≡ true = both-left (cells_of t start w.place && nat_lt w.place limit) (is_set (table_word rest w.place) b) w.passes in
    let low : w.place < limit = lt-is w.place limit (both-right (cells_of t start w.place) (nat_lt w.place limit) both) in
    any-true (λ k. cells_of t start k && is_set (table_word rest k) b) 0 limit w.place (omega arith) (omega (arith, low))
    (both-true (cells_of t start w.place) (is_set (table_word rest w.place) b) (both-left (cells_of t start w.place) (nat_lt w.place limit) both) (both-right (cells_of t start w.place && nat_lt w.place limit) (is_set (table_word rest w.place) b) w.passes)))
    (λ h.
    let w : Found (λ k. cells_of t start k && is_set (table_word rest k) b) 0 limit = any-found (λ k. cells_of t start k && is_set (table_word rest k) b) 0 limit h in
    any-true (leads_by t start rest limit b) 0 (group * 64) w.place (omega arith) (omega (arith, w.below, l))
    (both-true (cells_of t start w.place && nat_lt w.place limit) (is_set (table_word rest w.place) b)
    (both-true (cells_of t start w.place) (nat_lt w.place limit) (both-left (cells_of t start w.place) (is_set (table_word rest w.place) b) w.passes) (lt-true w.place limit (omega (arith, w.below))))
    (both-right (cells_of t start w.place) (is_set (table_word rest w.place) b) w.passes)))

-- the lowest bit, and the word without a bit
pub lowest-fits : (n : ℕ) → 0 < n → n < 2 ^ 64 → trailing_zeros w64 n < 64
lowest-fits n l m = (bit_at-trailing_zeros w64 n l m).0

pub lowest-set : (n : ℕ) → 0 < n → n < 2 ^ 64 → is_set n (trailing_zeros w64 n) ≡ true
unfolding is_set
lowest-set n l m = is-true (bit_at n (trailing_zeros w64 n)) 1 (bit_at-trailing_zeros w64 n l m).1

pub cleared : (n k b : ℕ) → k < 64 → b < 64 → is_set (bit_and n (bit_not w64 (1 * 2 ^ k % 2 ^ 64))) b ≡ (is_set n b && not (b == k))
unfolding is_set
cleared n k b l m = elim (same-or-not b k) [
  | inl e ↦
      (ap (λ (i : ℕ). bit_at (bit_and n (bit_not w64 (1 * 2 ^ k % 2 ^ 64))) i == 1) e ∙ ap (λ (x : ℕ). x == 1) (bit_at_clear_same w64 n k l))
      ∙ sym (ap (λ x. (bit_at n b == 1) && not x) (is-true b k e) ∙ and-false (bit_at n b == 1))
  | inr e ↦
      ap (λ (x : ℕ). x == 1) (bit_at_clear_other w64 n k l b m e)
      ∙ sym (ap (λ x. (bit_at n b == 1) && not x) (is-false b k e) ∙ and-true (bit_at n b == 1))
]

pub cleared-less : (n k : ℕ) → k < 64 → is_set n k ≡ true → bit_and n (bit_not w64 (1 * 2 ^ k % 2 ^ 64)) < n
cleared-less n k l s = elim (below-or-not (bit_and n (bit_not w64 (1 * 2 ^ k % 2 ^ 64))) n) [
  | inl m ↦ m
  | inr m ↦
      let same : bit_and n (bit_not w64 (1 * 2 ^ k % 2 ^ 64)) ≡ n = omega (arith, m, and_le_l n (bit_not w64 (1 * 2 ^ k % 2 ^ 64))) in
      let gone : is_set (bit_and n (bit_not w64 (1 * 2 ^ k % 2 ^ 64))) k ≡ false = cleared n k k l l ∙ ap (λ x. is_set n k && not x) (is-true k k refl) ∙ and-false (is_set n k) in
      let e : true ≡ false = sym s ∙ ap (λ (x : ℕ). is_set x k) (sym same) ∙ gone in absurd cc
]
