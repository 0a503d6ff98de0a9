-- A line that was read ahead whole.
use Rattle.std.proofs.Common.{◌≡◌, ℕ, suc, ◌+◌, ◌≤◌, ◌<◌, List, [], ◌∷◌, ◌++◌, length, take, drop, Option, Some, None, arith, ap, sym, ◌∙◌, append_assoc, length-append, length-take, inl, inr, subst, cond, not}
use Rattle.std.specs.Prelude.{if◌then◌else◌, IfSome}
use Rattle.std.specs.List.{position, position_or_len}
use Rattle.std.proofs.lemmas.Bool.{cases_Bool}
use Rattle.std.proofs.lemmas.Grind.{common_steps}
use Rattle.std.proofs.lemmas.List.{take_all, take-append-le, drop-append-le, take-append-drop}
use Rattle.ados_text.specs.Lines.{is_newline}
use Rattle.ados_launch.specs.Lines.{bytes_ahead, line_of, rest_of, kind_of, kind_of_length, TakesLine}
use Rattle.ados_launch.specs.declared.lines.LineKind.TheVariants.{Short}
use Rattle.ados_launch.proofs.Scanning.{kind_of-line}

pub record Held (xs ys : List ℕ) (i : ℕ) : Type 0 where
  pub line : line_of (xs ++ ys) ≡ take i xs
  pub rest : rest_of (xs ++ ys) ≡ drop (i + 1) xs ++ ys

held_at : (xs ys : List ℕ) → position_or_len is_newline xs < length xs → Held xs ys (position_or_len is_newline xs)
held_at [] ys h = absurd (omega (arith, h))
held_at (x ∷ xs) ys h =
    elim (cases_Bool (is_newline x)) [
      | inl here ↦
          record {
            line = ap (λ b. if b then [] else x ∷ line_of (xs ++ ys)) here ∙ ap (λ b. take (cond (not b) (1 + position_or_len is_newline xs) 0) (x ∷ xs)) (sym here);
            rest = ap (λ b. if b then xs ++ ys else rest_of (xs ++ ys)) here ∙ ap (λ b. drop (cond (not b) (1 + position_or_len is_newline xs) 0 + 1) (x ∷ xs) ++ ys) (sym here);
          }
      | inr past ↦
          let more = held_at xs ys (let m = ap (λ b. cond (not b) (1 + position_or_len is_newline xs) 0) past in omega (arith, h, m)) in
          let one : 1 + position_or_len is_newline xs ≡ suc (position_or_len is_newline xs) = omega arith in
          let two : suc (position_or_len is_newline xs) + 1 ≡ suc (position_or_len is_newline xs + 1) = omega arith in
          record {
            line = ap (λ b. if b then [] else x ∷ line_of (xs ++ ys)) past
                ∙ (ap (λ t. x ∷ t) more.line ∙ (ap (λ n. take n (x ∷ xs)) (sym one) ∙ ap (λ b. take (cond (not b) (1 + position_or_len is_newline xs) 0) (x ∷ xs)) (sym past)));
            rest = ap (λ b. if b then xs ++ ys else rest_of (xs ++ ys)) past
                ∙ (more.rest ∙ (ap (λ n. drop n (x ∷ xs) ++ ys) (sym two) ∙ (ap (λ n. drop (n + 1) (x ∷ xs) ++ ys) (sym one)
                ∙ ap (λ b. drop (cond (not b) (1 + position_or_len is_newline xs) 0 + 1) (x ∷ xs) ++ ys) (sym past))));
          }
    ]

pub held_line : (xs ys : List ℕ) (i : ℕ) → position is_newline xs ≡ Some i → Held xs ys i
held_line xs ys i e =
    let at : position_or_len is_newline xs ≡ i = grind (arith, common_steps) in
    let within : position_or_len is_newline xs < length xs = grind (arith, common_steps) in
    subst (Held xs ys) at (held_at xs ys within)

-- if these are few, those at the front are all
pub short_position : (xs : List ℕ) → length xs ≤ 512 → position is_newline xs ≡ position is_newline (take 513 xs)
short_position xs few = ap (position is_newline) (sym (take_all 513 xs (omega (arith, few))))

-- what is at the front of these is in them, and among the first 513
pub front_within : (xs held : List ℕ) (found : Option ℕ) → xs ≡ held → IfSome found (λ k. k < length (take 513 xs)) → IfSome found (λ k. k < length held)
front_within xs held None same within = within
front_within xs held (Some k) same within = rw (← same) (omega (arith, length-take 513 xs, within))

pub front_short : (xs : List ℕ) (found : Option ℕ) → IfSome found (λ k. k < length (take 513 xs)) → IfSome found (λ k. k ≤ 512)
front_short xs None within = within
front_short xs (Some k) within = omega (arith, length-take 513 xs, within)

short_kind : (n : ℕ) → n ≤ 512 → kind_of_length n ≡ Short
short_kind n h = grind (arith, common_steps)

-- the first byte 10 is among the first 513 bytes
pub taken_front : (front back later kept now : List ℕ) (i : ℕ) → position is_newline front ≡ Some i → i < length front → length front ≤ 513
    → kept ≡ take i (front ++ back) → now ≡ drop (i + 1) (front ++ back) → TakesLine ((front ++ back) ++ later) Short kept (Some (now ++ later))
taken_front front back later kept now i e within few k n =
    let h = held_line front (back ++ later) i e in
    let whole : (front ++ back) ++ later ≡ front ++ (back ++ later) = append_assoc front back later in
    let line : line_of ((front ++ back) ++ later) ≡ take i front = ap line_of whole ∙ h.line in
    let some : 0 < length ((front ++ back) ++ later) = rw (whole, length-append) (omega arith) in
    let kind : kind_of ((front ++ back) ++ later) ≡ Short =
    kind_of-line ((front ++ back) ++ later) some ∙ (ap (λ xs. kind_of_length (length xs)) line ∙ short_kind (length (take i front)) (omega (arith, length-take i front))) in
    record {
      kind_is = sym kind;
      kept_is = λ _. k ∙ (take-append-le i front back (omega arith) ∙ sym line);
      cut_is = λ k. cc;
      now_is = λ _. ap (λ xs. Some (xs ++ later)) (n ∙ drop-append-le (i + 1) front back (omega arith))
          ∙ ap Some (append_assoc (drop (i + 1) front) back later ∙ (sym h.rest ∙ ap rest_of (sym whole)));
    }

pub taken_held : (held kept now : List ℕ) (n i : ℕ) → position is_newline (take n held) ≡ Some i → i < length (take n held) → n ≤ 513
    → kept ≡ take i held → now ≡ drop (i + 1) held → (left : Option (List ℕ)) (bytes : List ℕ) → bytes_ahead held left ≡ Some bytes → TakesLine bytes Short kept (bytes_ahead now left)
taken_held held kept now n i e within few k d None bytes known = cc
taken_held held kept now n i e within few k d (Some later) bytes known =
    let parts : take n held ++ drop n held ≡ held = take-append-drop n held in
    let is : held ++ later ≡ bytes = cc in
    rw (sym is, sym parts)
    (taken_front (take n held) (drop n held) later kept now i e within (omega (arith, length-take n held)) (k ∙ ap (take i) (sym parts)) (d ∙ ap (drop (i + 1)) (sym parts)))
