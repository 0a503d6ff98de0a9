-- where the next occurrence of a byte is, as a line is passed over
use Rattle.std.proofs.Common.{◌≡◌, ℕ, zero, suc, ◌+◌, ◌<◌, ◌≤◌, [], ◌∷◌, Bool, not, min, length, take, drop, get_or, arith}
use Rattle.std.specs.List.{position_or_len, prefix_len}
use Rattle.std.proofs.lemmas.Bool.{cond-true, cond-false, cond_both}
use Rattle.std.proofs.lemmas.List.Sums.{prefix_len-drop_yes, prefix_len-drop_no, prefix_len-le-length}
use Rattle.std.proofs.lemmas.List.{length-drop}
use Rattle.ados_text.specs.Text.{Text}
use Rattle.ados_subst.specs.Next.{next_place}
use Rattle.ados_subst.specs.References.{is_byte}

-- if the next one is after a place, it is the next one from the following place too
pub next-stays : (byte : ℕ) (line : Text) (place here : ℕ) → place < length line → here ≡ next_place byte line place
    → place < here → here ≡ next_place byte line (place + 1)
next-stays byte line place here lt same past =
    let p : ℕ → Bool = λ c. not (is_byte byte c) in
    cond_both {A = ℕ} (p (get_or line place 0)) 0 0 (λ _. here ≡ next_place byte line (place + 1))
    (λ e. let one = prefix_len-drop_yes p line place 0 lt e in omega (arith, same, one))
    (λ e. let none = prefix_len-drop_no p line place 0 lt e in absurd (omega (arith, same, none, past)))

-- it is in the line, or is the line's length
pub next-within : (byte : ℕ) (line : Text) (place : ℕ) → place < length line → next_place byte line place ≤ length line
next-within byte line place lt =
    let most = prefix_len-le-length (λ c. not (is_byte byte c)) (drop place line) in
    let size = length-drop place line in
    omega (arith, most, size, lt)

pub ruleset next = (next-stays, next-within)

prefix-take : (p : ℕ → Bool) (n : ℕ) (xs : Text) → prefix_len p (take n xs) ≡ min (prefix_len p xs) n
prefix-take p zero xs = omega (arith)
prefix-take p (suc n) [] = omega (arith)
prefix-take p (suc n) (x ∷ xs) =
    let below = prefix-take p n xs in
    cond_both (p x) (1 + prefix_len p (take n xs)) 0 (λ k. k ≡ min (prefix_len p (x ∷ xs)) (suc n))
    (λ e.
    let whole : prefix_len p (x ∷ xs) ≡ 1 + prefix_len p xs = cond-true (p x) (1 + prefix_len p xs) 0 e in
    omega (arith, below, whole))
    (λ e. let whole : prefix_len p (x ∷ xs) ≡ 0 = cond-false (p x) (1 + prefix_len p xs) 0 e in omega (arith, whole))

-- the first one in a prefix of a text is that of the text, or is at the end of the prefix
pub position-take : (byte n : ℕ) (text : Text)
    → position_or_len (is_byte byte) (take n text) ≡ min (position_or_len (is_byte byte) text) n
position-take byte n text = prefix-take (λ c. not (is_byte byte c)) n text
