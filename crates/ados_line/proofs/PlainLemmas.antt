-- the cut of a line that holds neither a quote nor a sign
use Rattle.std.proofs.Common.{ℕ, zero, suc, ◌+◌, ◌<◌, ◌≤◌, ◌≡◌, ◌∙◌, List, [], ◌∷◌, ◌++◌, true, false, ◌==◌, ◌||◌, Some, None, Result, Ok, length, drop, get_or, refl, ap, sym, arith, append_assoc}
use Rattle.std.specs.List.{prefix_len, list_any}
use Rattle.std.proofs.lemmas.Bool.{both_ways, cond_both, or_parts}
use Rattle.std.proofs.lemmas.List.{get_or-drop}
use Rattle.ados_items.specs.declared.items.Item.{Item}
use Rattle.ados_items.specs.declared.items.Item.TheVariants.{Word, Quoted, Equal, End, Unmatched}
use Rattle.ados_items.specs.Items.{is_blank, item_by_first, item_at, value_of, bytes_between}
use Rattle.ados_items.proofs.ItemLemmas.{StandsAfter, item-after}
use Rattle.ados_line.specs.declared.faults.LineFault.{LineFault}
use Rattle.ados_line.specs.declared.cuts.Cut.{Cut}
use Rattle.ados_line.specs.Cut.{is_run, run_item, cut_item, cut_item_by_command, cut_later_items, cut_of, nothing_read}
use Rattle.ados_line.specs.Signs.{is_both, sign_at, is_mark}
use Rattle.ados_line.specs.Steps.{with_arguments}
use Rattle.ados_line.proofs.PieceLemmas.{between}

-- no byte of the line is a mark
unmarked : (line : List ℕ) (at : ℕ) → list_any is_mark line ≡ false → is_mark (get_or line at 0) ≡ false
unmarked [] at none = refl
unmarked (c ∷ cs) zero none = (or_parts _ _ none).0
unmarked (c ∷ cs) (suc at) none = unmarked cs at (or_parts _ _ none).1

-- no item of the line is quoted
abbrev IsUnquoted : Item → Type 0
IsUnquoted (Word from to) = Unit {0}
IsUnquoted (Quoted from to) = ⊥
IsUnquoted (Equal at) = Unit {0}
IsUnquoted (End at) = Unit {0}
IsUnquoted (Unmatched from) = ⊥

first-unquoted : (place : ℕ) (bytes : List ℕ) → is_mark (get_or bytes 0 0) ≡ false → IsUnquoted (item_by_first true place bytes)
first-unquoted place [] none = tt
first-unquoted place (c ∷ cs) none =
    let P : Item → Type 0 = IsUnquoted in
    cond_both (c == 59) _ _ P (λ _. tt) (λ _.
    cond_both (c == 34) _ _ P (λ e. absurd (both_ways _ none (ap (λ b. b || (c == 60 || c == 62)) e))) (λ _.
    cond_both (c == 61) _ _ P (λ _. tt) (λ _. tt)))

unquoted : (line : List ℕ) (place : ℕ) → list_any is_mark line ≡ false → IsUnquoted (item_at true line place)
unquoted line place none =
    let after = place + prefix_len is_blank (drop place line) in
    first-unquoted after (drop after line)
    (ap is_mark (get_or-drop after line 0 0 ∙ ap (λ k. get_or line k 0) (omega arith)) ∙ unmarked line after none)

-- the line holds no sign of a redirection
no-sign-byte : (line : List ℕ) (at : ℕ) → list_any is_mark line ≡ false → ((get_or line at 0 == 60) ≡ false) × ((get_or line at 0 == 62) ≡ false)
no-sign-byte line at none = or_parts _ _ (or_parts (get_or line at 0 == 34) _ (unmarked line at none)).1

no-both : (line : List ℕ) (from : ℕ) → list_any is_mark line ≡ false → is_both line from ≡ false
no-both line from none =
    let in-not : (get_or line from 0 == 60) ≡ false = (no-sign-byte line from none).0 in
    rw in-not refl

no-sign : (line : List ℕ) (from : ℕ) → list_any is_mark line ≡ false → sign_at line from ≡ None
no-sign line from none =
    let in-not : (get_or line from 0 == 60) ≡ false = (no-sign-byte line from none).0 in
    let out-not : (get_or line from 0 == 62) ≡ false = (no-sign-byte line from none).1 in
    rw (in-not, out-not) refl

-- the text after the command is appended to the arguments unchanged
abbrev Rests : (ℕ → Cut → Result Cut LineFault) → List ℕ → List ℕ → ℕ → Type 0
Rests next line command place = (to : ℕ) (args : List ℕ) → place < to → to ≤ length line
    → next to (with_arguments command args) ≡ Ok (with_arguments command (args ++ drop to line))

piece-joins : (line command args : List ℕ) (place to : ℕ) → place ≤ to
    → with_arguments command ((args ++ bytes_between line place to) ++ drop to line) ≡ with_arguments command (args ++ drop place line)
piece-joins line command args place to h =
    ap (with_arguments command) (append_assoc args _ _ ∙ ap (λ l. args ++ l) (sym (between line place to h)))

item-rests : (next : ℕ → Cut → Result Cut LineFault) (line command args : List ℕ) (place : ℕ) (item : Item) → list_any is_mark line ≡ false
    → IsUnquoted item → StandsAfter place (length line) item → Rests next line command place
    → cut_item next line place (with_arguments command args) item ≡ Ok (with_arguments command (args ++ drop place line))
item-rests next line command args place (Word from to) none plain stands rests =
    rw (no-both line from none, no-sign line from none)
    (rests to _ (omega (arith, stands.0, stands.1)) stands.2 ∙ ap Ok (piece-joins line command args place to (omega (arith, stands.0, stands.1))))
item-rests next line command args place (Quoted from to) none plain stands rests = absurd plain
item-rests next line command args place (Equal at) none plain stands rests =
    rests (at + 1) _ (omega (arith, stands.0)) (omega (arith, stands.1)) ∙ ap Ok (piece-joins line command args place (at + 1) (omega (arith, stands.0)))
item-rests next line command args place (End at) none plain stands rests = refl
item-rests next line command args place (Unmatched from) none plain stands rests = absurd plain

run-rests : (next : ℕ → Cut → Result Cut LineFault) (line command args : List ℕ) (place : ℕ) (item : Item) → list_any is_mark line ≡ false
    → run_item next line place (with_arguments command args) item ≡ Ok (with_arguments command (args ++ drop place line))
run-rests next line command args place (Word from to) none = rw (no-both line from none, no-sign line from none) refl
run-rests next line command args place (Quoted from to) none = refl
run-rests next line command args place (Equal at) none = refl
run-rests next line command args place (End at) none = refl
run-rests next line command args place (Unmatched from) none = refl

after-rests : (next : ℕ → Cut → Result Cut LineFault) (line command args : List ℕ) (place : ℕ) (item : Item) → list_any is_mark line ≡ false
    → IsUnquoted item → StandsAfter place (length line) item → Rests next line command place
    → cut_item_by_command next line place (with_arguments command args) item ≡ Ok (with_arguments command (args ++ drop place line))
after-rests next line command args place item none plain stands rests =
    let read = with_arguments command args in
    let P : Result Cut LineFault → Type 0 = λ r. r ≡ Ok (with_arguments command (args ++ drop place line)) in
    cond_both (is_run (Some command)) (run_item next line place read item) (cut_item next line place read item) P
    (λ _. run-rests next line command args place item none)
    (λ _. item-rests next line command args place item none plain stands rests)

rests-from : (n : ℕ) (line command args : List ℕ) (place : ℕ) → list_any is_mark line ≡ false → place ≤ length line → length line < n + place
    → cut_later_items n line place (with_arguments command args) ≡ Ok (with_arguments command (args ++ drop place line))
rests-from zero line command args place none within enough = absurd (omega arith)
rests-from (suc n) line command args place none within enough =
    after-rests (cut_later_items n line) line command args place (item_at true line place) none (unquoted line place none) (item-after true line place)
    (λ to more above end. rests-from n line command more to none end (omega arith))

-- the cut by the line's first item
abbrev pub plain_by : List ℕ → Item → Cut
plain_by line (Word from to) = with_arguments (value_of line (Word from to)) (drop to line)
plain_by line (Quoted from to) = nothing_read
plain_by line (Equal at) = with_arguments (61 ∷ []) (drop (at + 1) line)
plain_by line (End at) = nothing_read
plain_by line (Unmatched from) = nothing_read

by-item : (line : List ℕ) (item : Item) → list_any is_mark line ≡ false → IsUnquoted item → StandsAfter 0 (length line) item
    → cut_item (cut_later_items (length line) line) line 0 nothing_read item ≡ Ok (plain_by line item)
by-item line (Word from to) none plain stands =
    rw (no-both line from none, no-sign line from none)
    (rests-from (length line) line _ [] to none stands.2 (omega (arith, stands.0, stands.1)))
by-item line (Quoted from to) none plain stands = absurd plain
by-item line (Equal at) none plain stands = rests-from (length line) line _ [] (at + 1) none (omega (arith, stands.1)) (omega arith)
by-item line (End at) none plain stands = refl
by-item line (Unmatched from) none plain stands = absurd plain

pub plain_cut : (line : List ℕ) → list_any is_mark line ≡ false → cut_of line ≡ Ok (plain_by line (item_at true line 0))
plain_cut line none =
    let count : length line + 1 ≡ suc (length line) = omega arith in
    ap (λ n. cut_later_items n line 0 nothing_read) count
    ∙ by-item line (item_at true line 0) none (unquoted line 0 none) (item-after true line 0)
