-- where an item begins and ends: at or after the place at which it was looked for, and within the line
use Rattle.std.proofs.Common.{ℕ, ◌+◌, ◌-◌, ◌<◌, ◌≤◌, ◌≡◌, ◌∙◌, List, [], ◌∷◌, Bool, true, false, ◌==◌, ◌&&◌, Option, Some, None, length, drop, get_or, refl, ap, sym, arith}
use Rattle.std.specs.List.{prefix_len, list_any}
use Rattle.std.proofs.lemmas.List.{length-drop, get_or-drop}
use Rattle.std.proofs.lemmas.List.Sums.{prefix_len-le-length, prefix_len_stops}
use Rattle.std.proofs.lemmas.Bool.{both_ways, cond_both, false_from_ne_true, not_from_false, or_from}
use Rattle.std.proofs.lemmas.List.Folds.{list_any_at}
use Rattle.ados_items.specs.declared.items.Item.{Item}
use Rattle.ados_items.specs.declared.items.Item.TheVariants.{Word, Quoted, Equal, End, Unmatched}
use Rattle.ados_items.specs.Items.{is_blank, is_word_byte, closing_place, quoted_item, item_by_first, item_at}

-- the item is at or after a place, and ends within n bytes; a word has at least one byte
abbrev pub StandsAfter : ℕ → ℕ → Item → Type 0
StandsAfter place end (Word from to) = (place ≤ from) × (from < to) × (to ≤ end)
StandsAfter place end (Quoted from to) = (place < from) × (from ≤ to) × (to < end)
StandsAfter place end (Equal at) = (place ≤ at) × (at < end)
StandsAfter place end (End at) = Unit {0}
StandsAfter place end (Unmatched from) = Unit {0}

abbrev Closes : ℕ → ℕ → Option ℕ → Type 0
Closes place end (Some to) = (place ≤ to) × (to < end)
Closes place end None = Unit {0}

closes-before : (place end : ℕ) (found : Option ℕ) → Closes (place + 1) end found → Closes place end found
closes-before place end (Some to) h = (omega (arith, h.0), h.1)
closes-before place end None h = tt

closing-within : (place end : ℕ) (escaped : Bool) (bytes : List ℕ) → place + length bytes ≡ end → Closes place end (closing_place place escaped bytes)
closing-within place end escaped [] h = tt
closing-within place end true (c ∷ cs) h = closes-before place end _ (closing-within (place + 1) end false cs (omega arith))
closing-within place end false (c ∷ cs) h =
    cond_both (c == 34) (Some place) (closing_place (place + 1) (c == 42) cs) (λ found. Closes place end found)
    (λ _. (omega arith, omega arith))
    (λ _. closes-before place end _ (closing-within (place + 1) end (c == 42) cs (omega arith)))

quoted-after : (place end : ℕ) (found : Option ℕ) → Closes (place + 1) end found → StandsAfter place end (quoted_item (place + 1) found)
quoted-after place end (Some to) h = (omega arith, h.0, h.1)
quoted-after place end None h = tt

-- a word has at least one byte
word-long : (test : ℕ → Bool) (c : ℕ) (cs : List ℕ) → test c ≡ true → 0 < prefix_len test (c ∷ cs)
word-long test c cs e = rw e (omega arith)

-- the item with which bytes begin of which the first is not a blank
by-first : (apart : Bool) (place end : ℕ) (bytes : List ℕ) → (0 < length bytes → place + length bytes ≡ end) → (0 < length bytes → is_blank (get_or bytes 0 0) ≡ false)
    → StandsAfter place end (item_by_first apart place bytes)
by-first apart place end [] whole blank = tt
by-first apart place end (c ∷ cs) whole blank =
    let P : Item → Type 0 = λ item. StandsAfter place end item in
    let h = whole (omega arith) in
    let within = prefix_len-le-length (is_word_byte apart) (c ∷ cs) in
    cond_both (c == 59) _ _ P (λ _. tt) (λ e59.
    cond_both (c == 34) _ _ P (λ _. quoted-after place end _ (closing-within (place + 1) end false cs (omega arith))) (λ e34.
    cond_both (apart && c == 61) _ _ P (λ _. (omega arith, omega arith)) (λ e61.
    let long = word-long (is_word_byte apart) c cs
    (not_from_false _ (or_from _ _ (or_from _ _ (blank (omega arith)) e59) e61)) in
    (omega arith, omega arith, omega arith))))

stands-before : (place after end : ℕ) (item : Item) → place ≤ after → StandsAfter after end item → StandsAfter place end item
stands-before place after end (Word from to) h w = (omega (arith, w.0), w.1, w.2)
stands-before place after end (Quoted from to) h w = (omega (arith, w.0), w.1, w.2)
stands-before place after end (Equal at) h w = (omega (arith, w.0), w.1)
stands-before place after end (End at) h w = tt
stands-before place after end (Unmatched from) h w = tt

-- the item at a place
pub item-after : (apart : Bool) (line : List ℕ) (place : ℕ) → StandsAfter place (length line) (item_at apart line place)
item-after apart line place =
    let n = prefix_len is_blank (drop place line) in
    let after = place + n in
    let left : length (drop after line) ≡ length line - after = length-drop after line in
    let left2 : length (drop place line) ≡ length line - place = length-drop place line in
    stands-before place after (length line) (item_at apart line place) (omega arith)
    (by-first apart after (length line) (drop after line) (λ h. omega arith) (λ h.
    ap is_blank (get_or-drop after line 0 0 ∙ ap (λ k. get_or line k 0) (omega arith) ∙ sym (get_or-drop place line n 0))
    ∙ prefix_len_stops is_blank (drop place line) 0 (omega arith)))

-- if no byte is `;`, the end is the line's
abbrev pub IsAtEnd : ℕ → Item → Type 0
IsAtEnd end (Word from to) = Unit {0}
IsAtEnd end (Quoted from to) = Unit {0}
IsAtEnd end (Equal at) = Unit {0}
IsAtEnd end (End at) = end ≤ at
IsAtEnd end (Unmatched from) = Unit {0}

quoted-at : (end from : ℕ) (found : Option ℕ) → IsAtEnd end (quoted_item from found)
quoted-at end from (Some to) = tt
quoted-at end from None = tt

at-first : (apart : Bool) (place end : ℕ) (bytes : List ℕ) → (length bytes ≡ 0 → end ≤ place) → (0 < length bytes → (get_or bytes 0 0 == 59) ≡ false)
    → IsAtEnd end (item_by_first apart place bytes)
at-first apart place end [] none other = none refl
at-first apart place end (c ∷ cs) none other =
    let P : Item → Type 0 = λ item. IsAtEnd end item in
    cond_both (c == 59) _ _ P (λ e. absurd (both_ways _ (other (omega arith)) e)) (λ _.
    cond_both (c == 34) _ _ P (λ _. quoted-at end (place + 1) _) (λ _.
    cond_both (apart && c == 61) _ _ P (λ _. tt) (λ _. tt)))

pub item-at-end : (apart : Bool) (line : List ℕ) (place : ℕ) → list_any (λ c. c == 59) line ≡ false → IsAtEnd (length line) (item_at apart line place)
item-at-end apart line place none =
    let after = place + prefix_len is_blank (drop place line) in
    let left : length (drop after line) ≡ length line - after = length-drop after line in
    at-first apart after (length line) (drop after line) (λ h. omega arith) (λ h.
    let here : get_or (drop after line) 0 0 ≡ get_or line after 0 = get_or-drop after line 0 0 ∙ ap (λ k. get_or line k 0) (omega arith) in
    ap (λ c. c == 59) here ∙ false_from_ne_true _ (λ e. both_ways _ none (list_any_at (λ c. c == 59) line after 0 (omega arith) e)))
