-- A column of a table that grows by a word, and a table that grows by a column.
use Rattle.std.proofs.Common.{◌≡◌, ℕ, ◌+◌, ◌*◌, ◌/◌, ◌%◌, ◌<◌, ◌≤◌, List, [], ◌∷◌, ◌++◌, length, Bool, true, false, ◌&&◌, ◌||◌, ◌==◌, refl, sym, ◌∙◌, ap, arith, ◌⊎◌, inl, inr, slice_get, length-append, Vec, subst}
use Rattle.std.specs.Global.{Global}
use Rattle.std.proofs.lemmas.Option.{slice_get_past}
use Rattle.ados_pattern.specs.declared.tables.Rule.{Rule}
use Rattle.ados_pattern.specs.declared.tables.Rule.TheVariants.{Empty, One, Next, Outside, Many, Other, Then, Either}
use Rattle.ados_pattern.specs.Table.{Cells, or_zero, table_word, is_set, cells_in, items_of, column_at, cells_at, cells_of, cell_of, row_cell, IsBuilt, IsRuleTable}
use Rattle.ados_pattern.proofs.Anys.{any-same, slice_get-front, slice_get-last}
use Rattle.ados_pattern.proofs.Bits.{set-zero, is-true, is-false, le-true, le-false, same-or-not}

pub and-false : (a : Bool) → (a && false) ≡ false
and-false true = refl
and-false false = refl

pub and-true : (a : Bool) → (a && true) ≡ a
and-true true = refl
and-true false = refl

pub group-at : (group b : ℕ) → b < 64 → (group * 64 + b) / 64 ≡ group
group-at group b l = omega (arith, l)

pub bit-at : (group b : ℕ) → b < 64 → (group * 64 + b) % 64 ≡ b
bit-at group b l = omega (arith, l)

pub place-at : (group j : ℕ) → j / 64 ≡ group → group * 64 + j % 64 ≡ j
place-at group j e = omega (arith, e)

pub bit-below : (j : ℕ) → j % 64 < 64
bit-below j = omega arith

-- only the cells of shorter starts are looked at
pub cell_of-same : (rule : Rule) (text : List ℕ) (known more : Cells) (i j : ℕ) → ((k : ℕ) → k < i → known k j ≡ more k j) → cell_of rule text known i j ≡ cell_of rule text more i j
cell_of-same Empty text known more i j h = refl
cell_of-same (One test) text known more i j h = refl
cell_of-same (Next test b) text known more i j h = refl
cell_of-same (Outside a) text known more i j h = refl
cell_of-same (Many a) text known more i j h =
    ap (λ b. (i == j) || b) (any-same (λ k. cells_of a i k && known k j) (λ k. cells_of a i k && more k j) 0 i (λ k l m. ap (λ b. cells_of a i k && b) (h k (omega (arith, m)))))
cell_of-same (Other a) text known more i j h = refl
cell_of-same (Then a b) text known more i j h = refl
cell_of-same (Either a b) text known more i j h = refl

pub no-word : (words : List ℕ) (group i j : ℕ) → length words ≤ i → cells_in words group i j ≡ false
no-word words group i j l =
    ap (λ o. (j / 64 == group) && is_set (or_zero o) (j % 64)) (slice_get_past words i l)
    ∙ ap (λ b. (j / 64 == group) && b) (set-zero (j % 64))
    ∙ and-false (j / 64 == group)

pub built-none : (rule : Rule) (text : List ℕ) (group : ℕ) → IsBuilt rule text group [] 0
built-none rule text group = record {
  counted = refl;
  inside = λ i j l m e. absurd (omega (arith, l));
  above = λ i j l. no-word [] group i j (omega arith);
}

pub front-same : (words : List ℕ) (word group i j : ℕ) → i < length words → cells_in words group i j ≡ cells_in (words ++ word ∷ []) group i j
front-same words word group i j l = ap (λ o. (j / 64 == group) && is_set (or_zero o) (j % 64)) (sym (slice_get-front words (word ∷ []) i l))

pub at_last : (words : List ℕ) (word group i j : ℕ) → length words ≡ i → cells_in (words ++ word ∷ []) group i j ≡ ((j / 64 == group) && is_set word (j % 64))
at_last words word group i j e =
    ap (λ k. cells_in (words ++ word ∷ []) group k j) (sym e)
    ∙ ap (λ o. (j / 64 == group) && is_set (or_zero o) (j % 64)) (slice_get-last words word)

pub below_or_at : (i n : ℕ) → i < n + 1 → (i < n) ⊎ (i ≡ n)
below_or_at i n l = grind arith

pub three : (i n : ℕ) → (i < n) ⊎ ((i ≡ n) ⊎ (n < i))
three i n = grind arith

-- a word holds the row of a start
abbrev pub HoldsRow : Rule → List ℕ → ℕ → List ℕ → ℕ → ℕ → Type 0
HoldsRow rule text group words start word = (b : ℕ) → b < 64 → is_set word b ≡ row_cell rule text (cells_in words group) start (group * 64 + b)

-- the last word says what the rule says
pub last-word : (rule : Rule) (text : List ℕ) (group : ℕ) (words : List ℕ) (count word j : ℕ) → HoldsRow rule text group words count word → j / 64 ≡ group → ((j / 64 == group) && is_set word (j % 64)) ≡ row_cell rule text (cells_in words group) count j
last-word rule text group words count word j h e =
    ap (λ b. b && is_set word (j % 64)) (is-true (j / 64) group e)
    ∙ h (j % 64) (bit-below j)
    ∙ ap (λ k. row_cell rule text (cells_in words group) count k) (place-at group j e)

pub last-above : (rule : Rule) (text : List ℕ) (group : ℕ) (words : List ℕ) (count word j : ℕ) → HoldsRow rule text group words count word → count < j → ((j / 64 == group) && is_set word (j % 64)) ≡ false
last-above rule text group words count word j h l = elim (same-or-not (j / 64) group) [
  | inl e ↦ last-word rule text group words count word j h e
      ∙ ap (λ b. cell_of rule text (cells_in words group) count j && b) (le-false j count l)
      ∙ and-false (cell_of rule text (cells_in words group) count j)
  | inr e ↦ ap (λ b. b && is_set word (j % 64)) (is-false (j / 64) group e)
]

pub built-more : (rule : Rule) (text : List ℕ) (group : ℕ) (words : List ℕ) (word count : ℕ) → IsBuilt rule text group words count → HoldsRow rule text group words count word → IsBuilt rule text group (words ++ word ∷ []) (count + 1)
built-more rule text group words word count b h = record {
  counted = length-append words (word ∷ []) ∙ ap (λ k. k + 1) b.counted;
  inside = λ i j l m e. elim (below_or_at i count l) [
    | inl q ↦ sym (front-same words word group i j (omega (arith, q, b.counted))) ∙ b.inside i j q m e ∙ cell_of-same rule text (cells_in words group) (cells_in (words ++ word ∷ []) group) i j (λ k w. front-same words word group k j (omega (arith, w, q, b.counted)))
    | inr q ↦ at_last words word group i j (b.counted ∙ sym q)
        ∙ last-word rule text group words count word j h e
        ∙ ap (λ k. row_cell rule text (cells_in words group) k j) (sym q)
        ∙ ap (λ c. cell_of rule text (cells_in words group) i j && c) (le-true j i m)
        ∙ and-true (cell_of rule text (cells_in words group) i j)
        ∙ cell_of-same rule text (cells_in words group) (cells_in (words ++ word ∷ []) group) i j (λ k w. front-same words word group k j (omega (arith, w, q, b.counted)))
  ];
  above = λ i j l. elim (three i count) [
    | inl q ↦ sym (front-same words word group i j (omega (arith, q, b.counted))) ∙ b.above i j l
    | inr (inl q) ↦ at_last words word group i j (b.counted ∙ sym q) ∙ last-above rule text group words count word j h (omega (arith, l, q))
    | inr (inr q) ↦ no-word (words ++ word ∷ []) group i j (omega (arith, q, length-append words (word ∷ []) ∙ ap (λ k. k + 1) b.counted))
  ];
}

-- the columns so far are those of the first groups
pub record AreBuilt (rule : Rule) (text : List ℕ) (columns : List (Vec ℕ Global)) (count : ℕ) : Type 0 where
  pub counted : length columns ≡ count
  pub built : (group : ℕ) → group < count → IsBuilt rule text group (column_at columns group) (length text + 1)

pub columns-first : (rule : Rule) (text : List ℕ) (first : Vec ℕ Global) → IsBuilt rule text 0 first.items (length text + 1) → AreBuilt rule text (first ∷ []) 1
columns-first rule text first b = record {
  counted = refl;
  built = λ group l. (let e : 0 ≡ group = omega (arith, l) in let P : ℕ → Type 0 = λ g. IsBuilt rule text g (column_at (first ∷ []) g) (length text + 1) in subst P e b);
}

pub columns-more : (rule : Rule) (text : List ℕ) (columns : List (Vec ℕ Global)) (column : Vec ℕ Global) (count : ℕ) → AreBuilt rule text columns count → IsBuilt rule text count column.items (length text + 1) → AreBuilt rule text (columns ++ column ∷ []) (count + 1)
columns-more rule text columns column count a b = record {
  counted = length-append columns (column ∷ []) ∙ ap (λ k. k + 1) a.counted;
  built = λ group l. elim (below_or_at group count l) [
    | inl q ↦ let P : List ℕ → Type 0 = λ ws. IsBuilt rule text group ws (length text + 1) in
        subst P (ap items_of (sym (slice_get-front columns (column ∷ []) group (omega (arith, q, a.counted))))) (a.built group q)
    | inr q ↦
        let e : slice_get (columns ++ column ∷ []) group ≡ slice_get (columns ++ column ∷ []) (length columns) = ap (slice_get (columns ++ column ∷ [])) (q ∙ sym a.counted) in
        let P : List ℕ → Type 0 = λ ws. IsBuilt rule text group ws (length text + 1) in
        let Q : ℕ → Type 0 = λ g. IsBuilt rule text g column.items (length text + 1) in
        subst P (ap items_of (sym (e ∙ slice_get-last columns column))) (subst Q (sym q) b)
  ];
}

pub cells-there : (columns : List (Vec ℕ Global)) (i j : ℕ) → cells_at columns i j ≡ cells_in (column_at columns (j / 64)) (j / 64) i j
cells-there columns i j = ap (λ b. b && is_set (table_word (column_at columns (j / 64)) i) (j % 64)) (sym (is-true (j / 64) (j / 64) refl))

pub no-column : (columns : List (Vec ℕ Global)) (i j : ℕ) → length columns ≤ j / 64 → cells_at columns i j ≡ false
no-column columns i j l =
    ap (λ o. is_set (table_word (items_of o) i) (j % 64)) (slice_get_past columns (j / 64) l)
    ∙ ap (λ o. is_set (or_zero o) (j % 64)) (slice_get_past [] i (omega arith))
    ∙ set-zero (j % 64)

pub below-or-past : (a b : ℕ) → (a < b) ⊎ (b ≤ a)
below-or-past a b = grind arith

pub filled : (rule : Rule) (text : List ℕ) (columns : List (Vec ℕ Global)) → AreBuilt rule text columns (length text / 64 + 1) → IsRuleTable rule text (cells_at columns)
filled rule text columns a = record {
  inside = λ i j l m.
      let g : j / 64 < length text / 64 + 1 = omega (arith, l, m) in
      cells-there columns i j
      ∙ (a.built (j / 64) g).inside i j (omega (arith, l)) m refl
      ∙ cell_of-same rule text (cells_in (column_at columns (j / 64)) (j / 64)) (cells_at columns) i j (λ k w. sym (cells-there columns k j));
  past = λ i j l. elim (below-or-past (j / 64) (length text / 64 + 1)) [
    | inl g ↦ cells-there columns i j ∙ no-word (column_at columns (j / 64)) (j / 64) i j (omega (arith, l, (a.built (j / 64) g).counted))
    | inr g ↦ no-column columns i j (omega (arith, g, a.counted))
  ];
  above = λ i j l. elim (below-or-past (j / 64) (length text / 64 + 1)) [
    | inl g ↦ cells-there columns i j ∙ (a.built (j / 64) g).above i j l
    | inr g ↦ no-column columns i j (omega (arith, g, a.counted))
  ];
}
