-- where a sign is, and how the cut of a line reaches a fault
use Rattle.std.proofs.Common.{ℕ, ◌+◌, ◌<◌, ◌≤◌, ◌≡◌, ◌∙◌, List, [], ◌∷◌, ◌++◌, true, false, ◌==◌, ◌||◌, Option, Some, None, Result, Ok, Err, length, drop, refl, ap, subst, arith, inl, inr}
use Rattle.std.specs.Prelude.{slice_index}
use Rattle.std.specs.List.{prefix_len}
use Rattle.std.proofs.lemmas.Bool.{cond_both, and_parts, eqb-true, cases_lt}
use Rattle.std.proofs.lemmas.List.{drop_more, get_or_past}
use Rattle.ados_items.specs.declared.items.Item.{Item}
use Rattle.ados_items.specs.declared.items.Item.TheVariants.{Equal, End}
use Rattle.ados_items.specs.Items.{closing_place, is_blank, item_at, item_by_first, quoted_item}
use Rattle.ados_line.specs.declared.faults.LineFault.{LineFault}
use Rattle.ados_line.specs.declared.signs.Sign.{Sign}
use Rattle.ados_line.specs.declared.signs.Sign.TheVariants.{Input, Output, Append}
use Rattle.ados_line.specs.declared.cuts.Cut.{Cut}
use Rattle.ados_line.specs.Signs.{begins, is_both, sign_at, width_of}
use Rattle.ados_line.specs.Cut.{is_taken}
use Rattle.ados_line.specs.FirstFault.{is_redirected, IsFaultAt, second}
use Rattle.ados_line.specs.Pieces.{sign_bytes}
use Rattle.ados_line.proofs.PieceLemmas.{Parts, none-left}

byte-here : (line : List ℕ) (at byte : ℕ) → (slice_index line at == byte) ≡ true → 0 < byte → drop at line ≡ byte ∷ drop (at + 1) line
byte-here line at byte e above = elim (cases_lt at (length line)) [
  | inl h ↦ drop_more line at 0 h ∙ ap (λ c. c ∷ drop (at + 1) line) (eqb-true _ _ e)
  | inr h ↦ let past = get_or_past line at 0 h in let same = eqb-true _ _ e in absurd (omega arith)
]

-- the bytes of a sign are at the place where it was found
pub sign-here : (line : List ℕ) (from : ℕ) (sign : Sign) → sign_at line from ≡ Some sign → drop from line ≡ sign_bytes sign ++ drop (from + width_of sign) line
sign-here line from sign =
    let Q : Sign → Type 0 = λ s. drop from line ≡ sign_bytes s ++ drop (from + width_of s) line in
    let P : Option Sign → Type 0 = λ found. found ≡ Some sign → Q sign in
    cond_both (begins line 60 from) _ _ P (λ b e. let same : Input ≡ sign = cc in subst Q same (byte-here line from 60 (and_parts _ _ b).0 (omega arith))) (λ _.
    cond_both (begins line 62 from) _ _ P (λ b.
    let first = byte-here line from 62 (and_parts _ _ b).0 (omega arith) in
    cond_both (slice_index line (from + 1) == 62) _ _ P
    (λ c e. let same : Append ≡ sign = cc in
    subst Q same (first ∙ ap (λ l. 62 ∷ l) (byte-here line (from + 1) 62 c (omega arith)) ∙ ap (λ k. 62 ∷ 62 ∷ drop k line) (omega arith)))
    (λ _ e. let same : Output ≡ sign = cc in subst Q same first))
    (λ _ e. cc))

pub wide : (sign : Sign) → 0 < width_of sign
wide Input = omega arith
wide Output = omega arith
wide Append = omega arith

-- at a place without a sign, a word does not begin with one
pub unsigned : (line : List ℕ) (from : ℕ) → sign_at line from ≡ None → (begins line 60 from || begins line 62 from) ≡ false
unsigned line from =
    let P : Option Sign → Type 0 = λ found. found ≡ None → (begins line 60 from || begins line 62 from) ≡ false in
    cond_both (begins line 60 from) (Some Input) _ P (λ _ e. cc) (λ first.
    cond_both (begins line 62 from) _ None P
    (λ _. cond_both (slice_index line (from + 1) == 62) (Some Append) (Some Output) P (λ _ e. cc) (λ _ e. cc))
    (λ second _. rw (first, second) refl))

-- at a place with a sign, the word begins with it
pub signed : (line : List ℕ) (from : ℕ) (sign : Sign) → sign_at line from ≡ Some sign → (begins line 60 from || begins line 62 from) ≡ true
signed line from sign =
    let P : Option Sign → Type 0 = λ found. found ≡ Some sign → (begins line 60 from || begins line 62 from) ≡ true in
    cond_both (begins line 60 from) (Some Input) _ P (λ first _. rw first refl) (λ first.
    cond_both (begins line 62 from) _ None P (λ second _. rw (first, second) refl) (λ _ e. cc))

-- the same at a place with `<>`
pub both-signed : (line : List ℕ) (from : ℕ) → is_both line from ≡ true → (begins line 60 from || begins line 62 from) ≡ true
both-signed line from two =
    let first : begins line 60 from ≡ true = (and_parts (begins line 60 from) (slice_index line (from + 1) == 62) two).0 in
    rw first refl

-- if `=` is a byte as any other, it is not an item
no-equal : (place at : ℕ) (bytes : List ℕ) → item_by_first false place bytes ≡ Equal at → ⊥
no-equal place at [] = λ e. cc
no-equal place at (c ∷ cs) =
    let P : Item → Type 0 = λ item. item ≡ Equal at → ⊥ in
    cond_both (c == 59) (End place) _ P (λ _ e. cc) (λ _.
    cond_both (c == 34) (quoted_item (place + 1) (closing_place (place + 1) false cs)) _ P
    (λ _ e. closing (closing_place (place + 1) false cs) e) (λ _ e. cc))
  where
    closing : (found : Option ℕ) → quoted_item (place + 1) found ≡ Equal at → ⊥
    closing (Some to) e = cc
    closing None e = cc

pub no-equal-at : (line : List ℕ) (place at : ℕ) → item_at false line place ≡ Equal at → ⊥
no-equal-at line place at =
    let next_place = place + prefix_len is_blank (drop place line) in
    no-equal next_place at (drop next_place line)

-- What the cut of a line from a place on gives: its pieces up to the end, or pieces up to a place and the fault there.
abbrev pub Comes : List ℕ → ℕ → Cut → Result Cut LineFault → Type 0
Comes line place before (Ok after) = Parts line place (length line) before after
Comes line place before (Err fault) =
    (end : ℕ) × (after : Cut) × Parts line place end before after × (end ≤ length line) × IsFaultAt line after.command (is_redirected after.input after.output) end fault

-- a fault at a place
pub stop : (line : List ℕ) (place : ℕ) (read : Cut) (fault : LineFault) (answer : Result Cut LineFault) → place ≤ length line
    → IsFaultAt line read.command (is_redirected read.input read.output) place fault → Err fault ≡ answer → Comes line place read answer
stop line place read fault answer within here e =
    let P : Result Cut LineFault → Type 0 = λ it. Comes line place read it in
    subst P e (place, read, none-left line place read, within, here)

-- one piece before the others
pub lift : (line : List ℕ) (place to : ℕ) (before read : Cut) (answer : Result Cut LineFault)
    → ((end : ℕ) (after : Cut) → Parts line to end read after → Parts line place end before after)
    → Comes line to read answer → Comes line place before answer
lift line place to before read (Ok after) more p = more (length line) after p
lift line place to before read (Err fault) more p = (p.0, p.1, more p.0 p.1 p.2, p.3, p.4)

pub taken-named : (sign : Sign) (read : Cut) → is_redirected read.input read.output sign ≡ is_taken sign read
taken-named Input read = refl
taken-named Output read = refl
taken-named Append read = refl
