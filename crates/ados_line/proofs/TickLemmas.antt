-- the first pair of back-ticks of a line's characters, and where its kept bytes end
use Rattle.std.proofs.Common.{◌≡◌, ◌∙◌, ◌⊎◌, ℕ, zero, suc, ◌+◌, ◌-◌, ◌<◌, List, [], ◌∷◌, ◌++◌, true, false, Option, Some, None, Ok, length, nat_le, take, drop, position, get_or, flat_map, refl, sym, ap, subst, arith, inl, inr}
use Rattle.std.specs.List.{position_from}
use Rattle.std.proofs.lemmas.Bool.{cond_both, cond-true, cond-false}
use Rattle.std.proofs.lemmas.Bool.Decides.{nat_tests}
use Rattle.std.proofs.lemmas.Iterator.Adapters.{position_from-zero}
use Rattle.std.proofs.lemmas.List.{take-append-drop, drop_more, get_or-take, length-take-le}
use Rattle.std.proofs.lemmas.List.Elements.{All-from_get_or}
use Rattle.std.proofs.lemmas.List.Quantifiers.{position-Some}
use Rattle.ados_line.specs.declared.letters.Letter.{Letter}
use Rattle.ados_line.specs.declared.letters.Letter.TheVariants.{Plain, Starred}
use Rattle.ados_line.specs.declared.lines.Expanded.{Expanded}
use Rattle.ados_line.specs.declared.lines.Expanded.TheVariants.{Nothing, Ready, Tick}
use Rattle.ados_line.specs.declared.lines.Tick.{Tick as TickParts}
use Rattle.ados_line.specs.Expansion.{then_cut, IsRead}
use Rattle.ados_line.specs.Letters.{letter_bytes}
use Rattle.ados_line.specs.Pieces.{IsOfPieces}
use Rattle.ados_line.specs.Ticks.{is_tick, text_of, tickless_text, by_second, by_first, split_at_pair, within_bytes, HasNoTick}
use Rattle.ados_line.proofs.CutPieces.{of_pieces}
use Rattle.ados_line.proofs.SegmentLemmas.{plain-is}

-- no back-tick without a star before it was found
no-more : (l : Letter) (ls : List Letter) → is_tick l ≡ false → HasNoTick ls → HasNoTick (l ∷ ls)
no-more l ls here rest = λ k d lt. by k d lt
  where
    by : (k : ℕ) (d : Letter) → k < length (l ∷ ls) → is_tick (get_or (l ∷ ls) k d) ≡ false
    by zero d lt = here
    by (suc k) d lt = rest k d (omega arith)

none-from : (at : ℕ) (ls : List Letter) → position_from is_tick at ls ≡ None → HasNoTick ls
none-from at [] = λ _ k d lt. absurd (omega arith)
none-from at (l ∷ ls) =
    let P : Option ℕ → Type 0 = λ o. o ≡ None → HasNoTick (l ∷ ls) in
    cond_both (is_tick l) (Some at) (position_from is_tick (at + 1) ls) P (λ _ e. cc)
    (λ here e. no-more l ls here (none-from (at + 1) ls e))

none-found : (ls : List Letter) → position is_tick ls ≡ None → HasNoTick ls
none-found ls e = none-from 0 ls (sym (position_from-zero is_tick ls) ∙ e)

-- one was found: it is at its place, and none before it
found-here : (ls : List Letter) (place : ℕ) → position is_tick ls ≡ Some place → ls ≡ take place ls ++ (Plain 96 ∷ drop (place + 1) ls)
found-here ls place e =
    let at = position-Some is_tick ls place (Plain 0) e in
    sym (take-append-drop place ls) ∙ ap (λ l. take place ls ++ l) (drop_more ls place (Plain 0) at.0
    ∙ ap (λ l. l ∷ drop (place + 1) ls) (plain-is 96 _ at.1))

found-first : (ls : List Letter) (place : ℕ) → position is_tick ls ≡ Some place → HasNoTick (take place ls)
found-first ls place e =
    let at = position-Some is_tick ls place (Plain 0) e in
    let long = length-take-le place ls (omega (arith, at.0)) in
    All-from_get_or (λ l. is_tick l ≡ false) (take place ls) (Plain 0)
    (λ k lt. ap is_tick (get_or-take place ls k (Plain 0) (omega arith)) ∙ at.2 k (omega arith))

-- what characters are read as
pair-read : (kept : List ℕ) (ls : List Letter) (place : ℕ) (second : Option ℕ) (found : Expanded) → position is_tick ls ≡ Some place
    → position is_tick (drop (place + 1) ls) ≡ second
    → then_cut (by_second (kept ++ tickless_text (take place ls)) (drop (place + 1) ls) second) ≡ Ok found → IsRead kept ls found
pair-read kept ls place None found first e h = cc
pair-read kept ls place (Some end) found first e h =
    let rest = drop (place + 1) ls in
    let tick : TickParts = record { before = kept ++ tickless_text (take place ls); command = tickless_text (take end rest); after = text_of (drop (end + 1) rest) } in
    let same : Tick tick ≡ found = cc in
    let P : Expanded → Type 0 = λ it. IsRead kept ls it in
    subst P same (
      take place ls,
      take end rest,
      drop (end + 1) rest,
      record {
        joined = found-here ls place first ∙ ap (λ l. take place ls ++ (Plain 96 ∷ l)) (found-here rest end e);
        first = found-first ls place first;
        second = found-first rest end e;
      },
      refl,
      refl,
      refl,
    )

whole-read : (kept : List ℕ) (ls : List Letter) (found : Expanded) → HasNoTick ls → IsOfPieces (kept ++ tickless_text ls) found → IsRead kept ls found
whole-read kept ls Nothing none made = (none, made)
whole-read kept ls (Ready line) none made = (none, made)
whole-read kept ls (Tick tick) none made = absurd made

first-read : (kept : List ℕ) (ls : List Letter) (first : Option ℕ) (found : Expanded) → position is_tick ls ≡ first
    → then_cut (by_first kept ls first) ≡ Ok found → IsRead kept ls found
first-read kept ls None found e h = whole-read kept ls found (none-found ls e) (of_pieces (Ok found) (kept ++ tickless_text ls) (inr (sym h)))
first-read kept ls (Some place) found e h = pair-read kept ls place _ found e refl h

pub is_read : (kept : List ℕ) (ls : List Letter) (found : Expanded) → then_cut (split_at_pair kept ls) ≡ Ok found → IsRead kept ls found
is_read kept ls found h = first-read kept ls _ found refl h

-- the characters that end within `size` bytes are these bytes, except for a star that is read with the byte after it
abbrev Ends : List ℕ → List Letter → Type 0
Ends kept before = (flat_map letter_bytes before ≡ kept) ⊎ (flat_map letter_bytes before ++ 42 ∷ [] ≡ kept)

ends-more : (c k : ℕ) (before kept : List ℕ) → c ≡ k → (before ≡ kept) ⊎ (before ++ 42 ∷ [] ≡ kept)
    → (c ∷ before ≡ k ∷ kept) ⊎ (c ∷ (before ++ 42 ∷ []) ≡ k ∷ kept)
ends-more c k before kept same (inl e) = inl (ap (λ l. c ∷ l) e ∙ ap (λ h. h ∷ kept) same)
ends-more c k before kept same (inr e) = inr (ap (λ l. c ∷ l) e ∙ ap (λ h. h ∷ kept) same)

pub seam : (kept after : List ℕ) (ls : List Letter) → flat_map letter_bytes ls ≡ kept ++ after → Ends kept (take (within_bytes (length kept) ls) ls)
seam [] after [] e = inl refl
seam (k ∷ ks) after [] e = cc
seam [] after (Plain c ∷ ls) e = inl refl
seam (k ∷ ks) after (Plain c ∷ ls) e =
    let same : c ≡ k = cc in
    let rest : flat_map letter_bytes ls ≡ ks ++ after = cc in
    let m = within_bytes (length ks) ls in
    let less : length (k ∷ ks) - 1 ≡ length ks = omega arith in
    let fits : nat_le 1 (length (k ∷ ks)) ≡ true = grind (arith, nat_tests) in
    let one : within_bytes (length (k ∷ ks)) (Plain c ∷ ls) ≡ suc m =
    cond-true (nat_le 1 (length (k ∷ ks))) _ _ fits ∙ ap (λ j. suc (within_bytes j ls)) less in
    let P : ℕ → Type 0 = λ n. Ends (k ∷ ks) (take n (Plain c ∷ ls)) in
    subst P (sym one) (ends-more c k (flat_map letter_bytes (take m ls)) ks same (seam ks after ls rest))
seam [] after (Starred c ∷ ls) e = inl refl
seam (k ∷ []) after (Starred c ∷ ls) e =
    let same : 42 ≡ k = cc in
    let past : nat_le 2 (length (k ∷ [])) ≡ false = grind (arith, nat_tests) in
    let none : within_bytes (length (k ∷ [])) (Starred c ∷ ls) ≡ 0 =
    cond-false (nat_le 2 (length (k ∷ []))) (suc (within_bytes (length (k ∷ []) - 2) ls)) 0 past in
    let P : ℕ → Type 0 = λ n. Ends (k ∷ []) (take n (Starred c ∷ ls)) in
    subst P (sym none) (inr (ap (λ h. h ∷ []) same))
seam (k ∷ j ∷ ks) after (Starred c ∷ ls) e =
    let first : 42 ≡ k = cc in
    let second : c ≡ j = cc in
    let rest : flat_map letter_bytes ls ≡ ks ++ after = cc in
    let m = within_bytes (length ks) ls in
    let less : length (k ∷ j ∷ ks) - 2 ≡ length ks = omega arith in
    let fits : nat_le 2 (length (k ∷ j ∷ ks)) ≡ true = grind (arith, nat_tests) in
    let two : within_bytes (length (k ∷ j ∷ ks)) (Starred c ∷ ls) ≡ suc m =
    cond-true (nat_le 2 (length (k ∷ j ∷ ks))) _ _ fits ∙ ap (λ n. suc (within_bytes n ls)) less in
    let P : ℕ → Type 0 = λ n. Ends (k ∷ j ∷ ks) (take n (Starred c ∷ ls)) in
    subst P (sym two) (ends-more 42 k (c ∷ flat_map letter_bytes (take m ls)) (j ∷ ks) first (ends-more c j (flat_map letter_bytes (take m ls)) ks second (seam ks after ls rest)))
