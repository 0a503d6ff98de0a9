-- Which pieces of a text a part matches, as bits.
use Rattle.std.specs.Prelude.{◌≡◌, ℕ, ◌+◌, ◌-◌, ◌*◌, ◌/◌, ◌%◌, ◌<◌, ◌≤◌, List, [], ◌∷◌, length, take, drop, Bool, true, false, Option, Some, None, slice_get, nat_le, not, ◌&&◌, ◌||◌, ◌==◌}
use Rattle.std.specs.Prelude.{Vec}
use Rattle.std.specs.Global.{Global}
use Rattle.std.specs.Int.{bit_at}
use Rattle.std.specs.List.{range_with_len, list_any}
use Rattle.ados_text.specs.Text.{Text}
use Rattle.ados_pattern.specs.declared.tables.Table.{Table}
use Rattle.ados_pattern.specs.declared.tables.Rule.{Rule}
use Rattle.ados_pattern.specs.declared.tables.Rule.TheVariants.{Empty, One, Next, Outside, Many, Other, Then, Either}
use Rattle.ados_pattern.specs.CharTest.{has_test, test_of}

-- for a start and an end, each given as the number of bytes after it
abbrev pub Cells : Type 0
Cells = ℕ → ℕ → Bool

unfoldable pub is_set : ℕ → ℕ → Bool
is_set word b = bit_at word b == 1

-- the byte after a start
abbrev pub byte_at : Text → ℕ → Option ℕ
byte_at text i = slice_get text (length text - i)

abbrev pub or_zero : Option ℕ → ℕ
or_zero None = 0
or_zero (Some w) = w

abbrev pub table_word : List ℕ → ℕ → ℕ
table_word words i = or_zero (slice_get words i)

-- whether some middle of a group leads to an end in the words of the rest
unfoldable pub leads : ℕ → ℕ → List ℕ → ℕ → Bool
leads middles group rest b = list_any (λ k. is_set middles k && is_set (table_word rest (group * 64 + k)) b) (range_with_len 0 64)

-- the ends of one column
abbrev pub cells_in : List ℕ → ℕ → Cells
cells_in words group i j = (j / 64 == group) && is_set (table_word words i) (j % 64)

abbrev pub items_of : Option (Vec ℕ Global) → List ℕ
items_of None = []
items_of (Some v) = v.items

abbrev pub column_at : List (Vec ℕ Global) → ℕ → List ℕ
column_at columns group = items_of (slice_get columns group)

-- the columns of a table, in the order of their ends
abbrev pub columns_of : Table → List (Vec ℕ Global)
columns_of t = t.first ∷ t.more.items

abbrev pub column_of : Table → ℕ → List ℕ
column_of t group = column_at (columns_of t) group

abbrev pub cells_at : List (Vec ℕ Global) → Cells
cells_at columns i j = is_set (table_word (column_at columns (j / 64)) i) (j % 64)

abbrev pub cells_of : Table → Cells
cells_of t i j = cells_at (columns_of t) i j

-- what a rule says of a cell, if the cells of shorter starts are known
abbrev pub cell_of : Rule → Text → Cells → Cells
cell_of Empty text known i j = i == j
cell_of (One test) text known i j = (i == j + 1) && has_test (test_of test) (byte_at text i)
cell_of (Next test b) text known i j = has_test (test_of test) (byte_at text i) && cells_of b (i - 1) j
cell_of (Outside a) text known i j = (i == j + 1) && not (cells_of a i j)
cell_of (Many a) text known i j = (i == j) || list_any (λ k. cells_of a i k && known k j) (range_with_len 0 i)
cell_of (Other a) text known i j = not (cells_of a i j)
cell_of (Then a b) text known i j = list_any (λ k. cells_of a i k && cells_of b k j) (range_with_len 0 (i + 1))
cell_of (Either a b) text known i j = cells_of a i j || cells_of b i j

-- the same, only for the ends that do not come before the start
abbrev pub row_cell : Rule → Text → Cells → Cells
row_cell rule text known i j = cell_of rule text known i j && nat_le j i

-- the words of the starts with less than `count` bytes left, in one column of the table of a rule
pub record IsBuilt (rule : Rule) (text : Text) (group : ℕ) (words : List ℕ) (count : ℕ) : Type 0 where
  pub counted : length words ≡ count
  pub inside : (i j : ℕ) → i < count → j ≤ i → j / 64 ≡ group → cells_in words group i j ≡ cell_of rule text (cells_in words group) i j
  pub above : (i j : ℕ) → i < j → cells_in words group i j ≡ false

-- the table of a rule
pub record IsRuleTable (rule : Rule) (text : Text) (cells : Cells) : Type 0 where
  pub inside : (i j : ℕ) → i ≤ length text → j ≤ i → cells i j ≡ cell_of rule text cells i j
  pub past : (i j : ℕ) → length text < i → cells i j ≡ false
  pub above : (i j : ℕ) → i < j → cells i j ≡ false

-- the bytes from a start to an end
abbrev pub piece : Text → ℕ → ℕ → Text
piece text i j = take (i - j) (drop (length text - i) text)

-- the cells say which pieces have P
pub record IsTable (P : Text → Type 0) (text : Text) (cells : Cells) : Type 0 where
  pub ordered : (i j : ℕ) → cells i j ≡ true → j ≤ i
  pub within : (i j : ℕ) → cells i j ≡ true → i ≤ length text
  pub sound : (i j : ℕ) → cells i j ≡ true → P (piece text i j)
  pub complete : (i j : ℕ) → j ≤ i → i ≤ length text → P (piece text i j) → cells i j ≡ true
