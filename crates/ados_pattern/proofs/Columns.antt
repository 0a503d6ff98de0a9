-- Words of a column.
use Rattle.std.proofs.Common.{◌≡◌, ℕ, ◌+◌, ◌-◌, ◌*◌, ◌/◌, ◌%◌, ◌^◌, ◌<◌, ◌≤◌, List, Bool, true, false, ◌&&◌, ◌||◌, ◌==◌, refl, sym, ◌∙◌, ap, arith, inl, inr, bit_or, nat_le}
use Rattle.std.specs.List.{range_with_len, list_any}
use Rattle.std.proofs.Math.Bool.{not}
use Rattle.std.specs.Int.{bit_not, w64}
use Rattle.ados_pattern.specs.declared.tables.Table.{Table}
use Rattle.ados_pattern.specs.declared.tables.Rule.TheVariants.{Many, Other, Either}
use Rattle.ados_pattern.specs.Table.{Cells, is_set, table_word, column_of, cell_of, cells_of, cells_in}
use Rattle.ados_pattern.proofs.Anys.{any-same}
use Rattle.ados_pattern.proofs.Bits.{set-zero, set-or, set-not, set-single, set-shifted, set-low, same-or-not, is-true, is-false, lt-true, lt-false, le-true, le-false, below-or-not}
use Rattle.ados_pattern.proofs.Filling.{group-at, bit-at, and-false}

pub either-assoc : (a b c : Bool) → ((a || b) || c) ≡ (a || (b || c))
either-assoc true b c = refl
either-assoc false b c = refl

pub either-false : (a : Bool) → (a || false) ≡ a
either-false true = refl
either-false false = refl

-- the cell of a bit
pub cell-at : (t : Table) (group i b : ℕ) → b < 64 → cells_of t i (group * 64 + b) ≡ is_set (table_word (column_of t group) i) b
cell-at t group i b l =
    ap (λ g. is_set (table_word (column_of t g) i) ((group * 64 + b) % 64)) (group-at group b l)
    ∙ ap (λ k. is_set (table_word (column_of t group) i) k) (bit-at group b l)

pub known-at : (words : List ℕ) (group i b : ℕ) → b < 64 → cells_in words group i (group * 64 + b) ≡ is_set (table_word words i) b
known-at words group i b l =
    ap (λ x. x && is_set (table_word words i) ((group * 64 + b) % 64)) (is-true ((group * 64 + b) / 64) group (group-at group b l))
    ∙ ap (λ k. is_set (table_word words i) k) (bit-at group b l)

-- the bit of one end
pub place-test : (end group b : ℕ) → end / 64 ≡ group → b < 64 → (end % 64 == b) ≡ (end == group * 64 + b)
place-test end group b e l = elim (same-or-not end (group * 64 + b)) [
  | inl s ↦ is-true (end % 64) b (omega (arith, s, l)) ∙ sym (is-true end (group * 64 + b) s)
  | inr s ↦ is-false (end % 64) b (λ q. s (omega (arith, q, e, l))) ∙ sym (is-false end (group * 64 + b) s)
]

pub single-there : (end group b : ℕ) → end / 64 ≡ group → b < 64 → is_set (1 * 2 ^ (end % 64) % 2 ^ 64) b ≡ (end == group * 64 + b)
single-there end group b e l = set-single (end % 64) b (omega arith) ∙ place-test end group b e l

pub single-elsewhere : (end group b : ℕ) → (end / 64 ≡ group → ⊥) → b < 64 → is_set 0 b ≡ (end == group * 64 + b)
single-elsewhere end group b e l = set-zero b ∙ sym (is-false end (group * 64 + b) (λ s. e (omega (arith, s, l))))

pub nothing-before : (start group b : ℕ) (holds : Bool) → start ≤ 0 → is_set 0 b ≡ ((start == group * 64 + b + 1) && holds)
nothing-before start group b holds l = set-zero b ∙ ap (λ x. x && holds) (sym (is-false start (group * 64 + b + 1) (λ s. absurd (omega (arith, s, l)))))

pub not-before : (start group b : ℕ) (holds : Bool) → holds ≡ false → is_set 0 b ≡ ((start == group * 64 + b + 1) && holds)
not-before start group b holds e = set-zero b ∙ sym (ap (λ x. (start == group * 64 + b + 1) && x) e ∙ and-false (start == group * 64 + b + 1))

-- the bits up to a start
pub up-before : (start group b : ℕ) → start / 64 < group → b < 64 → is_set 0 b ≡ nat_le (group * 64 + b) start
up-before start group b e l = set-zero b ∙ sym (le-false (group * 64 + b) start (omega (arith, e, l)))

pub up-there : (start group b : ℕ) → start / 64 ≡ group → b < 64 → is_set ((2 ^ 64 - 1) / 2 ^ (63 - start % 64)) b ≡ nat_le (group * 64 + b) start
up-there start group b e l = set-shifted (63 - start % 64) b (omega arith) ∙ elim (below-or-not b (64 - (63 - start % 64))) [
  | inl s ↦ lt-true b (64 - (63 - start % 64)) s ∙ sym (le-true (group * 64 + b) start (omega (arith, s, e)))
  | inr s ↦ lt-false b (64 - (63 - start % 64)) s ∙ sym (le-false (group * 64 + b) start (omega (arith, s, e)))
]

pub up-past : (start group b : ℕ) → group < start / 64 → b < 64 → is_set (2 ^ 64 - 1) b ≡ nat_le (group * 64 + b) start
up-past start group b e l = set-low 64 b ∙ lt-true b 64 l ∙ sym (le-true (group * 64 + b) start (omega (arith, e, l)))

-- what the rules say of the ends of one start
pub ends-many : (t : Table) (known text : List ℕ) (group start one more b : ℕ) → b < 64 → is_set one b ≡ (start == group * 64 + b) → is_set more b ≡ list_any (λ k. cells_of t start k && is_set (table_word known k) b) (range_with_len 0 start) → is_set (bit_or one more) b ≡ cell_of (Many t) text (cells_in known group) start (group * 64 + b)
ends-many t known text group start one more b l e f =
    set-or one more b
    ∙ ap (λ x. x || is_set more b) e
    ∙ ap (λ x. (start == group * 64 + b) || x) (f ∙ any-same (λ k. cells_of t start k && is_set (table_word known k) b) (λ k. cells_of t start k && cells_in known group k (group * 64 + b)) 0 start (λ k _ _. ap (λ x. cells_of t start k && x) (sym (known-at known group k b l))))

pub ends-other : (t : Table) (known : Cells) (text : List ℕ) (group start word b : ℕ) → b < 64 → word < 2 ^ 64 → word ≡ table_word (column_of t group) start → is_set (bit_not w64 word) b ≡ cell_of (Other t) text known start (group * 64 + b)
ends-other t known text group start word b l fits e = set-not word b fits l ∙ ap not (ap (λ (w : ℕ). is_set w b) e ∙ sym (cell-at t group start b l))

pub ends-either : (s t : Table) (known : Cells) (text : List ℕ) (group start one other b : ℕ) → b < 64 → one ≡ table_word (column_of s group) start → other ≡ table_word (column_of t group) start → is_set (bit_or one other) b ≡ cell_of (Either s t) text known start (group * 64 + b)
ends-either s t known text group start one other b l e f =
    set-or one other b
    ∙ ap (λ x. x || is_set other b) (ap (λ (w : ℕ). is_set w b) e ∙ sym (cell-at s group start b l))
    ∙ ap (λ x. cells_of s start (group * 64 + b) || x) (ap (λ (w : ℕ). is_set w b) f ∙ sym (cell-at t group start b l))
