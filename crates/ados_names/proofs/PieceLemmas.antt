-- Texts split at their slashes, the steps of their pieces, and the texts of steps.
use Rattle.std.proofs.Common.{◌≡◌, ◌≤◌, ◌<◌, ℕ, ◌+◌, ◌-◌, Bool, true, false, cond, not, ◌&&◌, List, [], ◌∷◌, ◌++◌, Some, None, length, take, drop, refl, sym, ap, ◌∙◌, arith, append-nil, append_assoc, length-append, length-drop, nat_lt, nat_le}
use Rattle.std.specs.List.{All, list_all, position, position_or_len, slice_split, onto_first, join_with_byte}
use Rattle.std.proofs.lemmas.Bool.{and_parts}
use Rattle.std.proofs.lemmas.Bool.Decides.{nat_tests}
use Rattle.std.proofs.lemmas.List.{drop-drop, take_all}
use Rattle.std.proofs.lemmas.List.Elements.{All-nil, All-cons}
use Rattle.std.proofs.lemmas.List.Splits.{slice_split_none, slice_split_at, slice_split_first, length-slice_split, join_with_byte-slice_split}
use Rattle.ados_names.specs.Names.{is_colon, is_slash, is_name_byte, is_name}
use Rattle.ados_names.specs.Path.{is_path_piece, is_step, path_step, last_steps_of, steps_of, steps_text, text_after_name}
use Rattle.ados_names.specs.declared.steps.Step.{Step}
use Rattle.ados_names.specs.declared.steps.Step.TheVariants.{Up, Name}

-- steps may be in a path exactly if their pieces may
pub steps-pieces : (pieces : List (List ℕ)) → list_all is_step (steps_of pieces) ≡ list_all is_path_piece pieces
steps-pieces [] = refl
steps-pieces ([] ∷ []) = refl
steps-pieces ((c ∷ cs) ∷ []) = refl
steps-pieces ([] ∷ next ∷ more) = steps-pieces (next ∷ more)
steps-pieces ((c ∷ cs) ∷ next ∷ more) = ap (λ b. is_name (c ∷ cs) && b) (steps-pieces (next ∷ more))

not_last : (piece : List ℕ) (pieces : List (List ℕ)) → 0 < length pieces → steps_of (piece ∷ pieces) ≡ path_step piece ∷ steps_of pieces
not_last piece [] h = absurd (omega arith)
not_last piece (next ∷ more) h = refl

-- a piece followed by a slash is not the last
steps-after : (piece text : List ℕ) → steps_of (piece ∷ slice_split is_slash text) ≡ path_step piece ∷ steps_of (slice_split is_slash text)
steps-after piece text = not_last piece (slice_split is_slash text) (omega (arith, length-slice_split is_slash text))

found : (b : Bool) (n place : ℕ) → cond b (Some n) None ≡ Some place → (b ≡ true) × (n ≡ place)
found true n place e = (refl, cc)
found false n place e = cc

not_found : (b : Bool) (n : ℕ) → cond b (Some n) None ≡ None → b ≡ false
not_found true n e = cc
not_found false n e = refl

-- the first slash ends the first piece
pub cut-more : (text : List ℕ) (place : ℕ) → position is_slash text ≡ Some place → steps_of (slice_split is_slash text) ≡ path_step (take place text) ∷ steps_of (slice_split is_slash (drop (place + 1) text))
cut-more text place e =
    let at = found (nat_lt (position_or_len is_slash text) (length text)) (position_or_len is_slash text) place e in
    let within : position_or_len is_slash text < length text = (let t = at.0 in grind (arith, nat_tests)) in
    ap steps_of (slice_split_first is_slash text 0 within)
    ∙ ap (λ n. steps_of (take n text ∷ slice_split is_slash (drop (n + 1) text))) at.1
    ∙ steps-after (take place text) (drop (place + 1) text)

one_piece : (text : List ℕ) → nat_lt (position_or_len is_slash text) (length text) ≡ false → slice_split is_slash text ≡ text ∷ []
one_piece [] e = refl
one_piece (c ∷ cs) e =
    elim (is_slash c) as (λ b. nat_lt (cond (not b) (1 + position_or_len is_slash cs) 0) (length (c ∷ cs)) ≡ false → cond b ([] ∷ slice_split is_slash cs) (onto_first c (slice_split is_slash cs)) ≡ (c ∷ cs) ∷ []) [
      | true ↦ λ h. absurd (grind (arith, nat_tests, h))
      | false ↦ λ h. let later : nat_lt (position_or_len is_slash cs) (length cs) ≡ false = grind (arith, nat_tests, h) in ap (onto_first c) (one_piece cs later)
    ] e

-- without a slash the text is the last piece
pub cut-last : (text : List ℕ) → position is_slash text ≡ None → steps_of (slice_split is_slash text) ≡ last_steps_of text
cut-last text e = ap steps_of (one_piece text (not_found _ (position_or_len is_slash text) e))

pub last_steps-some : (text : List ℕ) → 0 < length text → last_steps_of text ≡ path_step text ∷ []
last_steps-some [] h = absurd (omega arith)
last_steps-some (c ∷ cs) h = refl

-- what no name contains
no_slash : (byte : ℕ) → is_name_byte byte ≡ true → is_slash byte ≡ false
no_slash byte h = grind (arith, nat_tests)

abbrev pub no_colon : ℕ → Bool
no_colon byte = not (is_colon byte)

no_slashes : (text : List ℕ) → list_all is_name_byte text ≡ true → All (λ b. is_slash b ≡ false) text
no_slashes [] h = All-nil (λ b. is_slash b ≡ false)
no_slashes (c ∷ cs) h =
    let both = and_parts (is_name_byte c) (list_all is_name_byte cs) h in
    All-cons (λ b. is_slash b ≡ false) c cs (no_slash c both.0) (no_slashes cs both.1)

pub record IsName (text : List ℕ) : Type 0 where
  pub some : 0 < length text
  pub short : length text ≤ 30
  pub bytes : list_all is_name_byte text ≡ true

pub name-parts : (text : List ℕ) → is_name text ≡ true → IsName text
name-parts text h =
    let outer = and_parts (nat_lt 0 (length text) && nat_le (length text) 30) (list_all is_name_byte text) h in
    let inner = and_parts (nat_lt 0 (length text)) (nat_le (length text) 30) outer.0 in
    record { some = (let t = inner.0 in grind (arith, nat_tests)); short = (let t = inner.1 in grind (arith, nat_tests)); bytes = outer.1 }

path_step-name : (text : List ℕ) → 0 < length text → path_step text ≡ Name text
path_step-name [] h = absurd (omega arith)
path_step-name (c ∷ cs) h = refl

-- steps are those of their text
pub steps-written : (steps : List Step) → list_all is_step steps ≡ true → steps_of (slice_split is_slash (steps_text steps)) ≡ steps
steps-written [] h = refl
steps-written (Up ∷ rest) h = steps-after [] (steps_text rest) ∙ ap (λ s. Up ∷ s) (steps-written rest h)
steps-written (Name name ∷ []) h =
    let is : IsName name = name-parts name (and_parts (is_name name) true h).0 in
    ap (λ t. steps_of (slice_split is_slash t)) (append-nil name)
    ∙ ap steps_of (slice_split_none is_slash name (no_slashes name is.bytes))
    ∙ last_steps-some name is.some ∙ ap (λ s. s ∷ []) (path_step-name name is.some)
steps-written (Name name ∷ next ∷ more) h =
    let both = and_parts (is_name name) (list_all is_step (next ∷ more)) h in
    let is : IsName name = name-parts name both.0 in
    ap steps_of (slice_split_at is_slash name 47 (steps_text (next ∷ more)) (no_slashes name is.bytes) refl)
    ∙ steps-after name (steps_text (next ∷ more))
    ∙ ap (λ s. s ∷ steps_of (slice_split is_slash (steps_text (next ∷ more)))) (path_step-name name is.some)
    ∙ ap (λ s. Name name ∷ s) (steps-written (next ∷ more) both.1)

after_name-le : (steps : List Step) (text : List ℕ) → length (text_after_name steps text) ≤ length text + 1
after_name-le [] text = omega arith
after_name-le (s ∷ ss) text = omega arith

joined-le : (pieces : List (List ℕ)) → length (steps_text (steps_of pieces)) ≤ length (join_with_byte 47 pieces)
joined-le [] = omega arith
joined-le ([] ∷ []) = omega arith
joined-le ((c ∷ cs) ∷ []) = omega (arith, length-append (c ∷ cs) [])
joined-le ([] ∷ next ∷ more) = omega (arith, joined-le (next ∷ more))
joined-le ((c ∷ cs) ∷ next ∷ more) =
    let rest = steps_of (next ∷ more) in
    omega (arith, joined-le (next ∷ more), after_name-le rest (steps_text rest), length-append (c ∷ cs) (text_after_name rest (steps_text rest)), length-append (c ∷ cs) (47 ∷ join_with_byte 47 (next ∷ more)))

-- the steps of a text are written out in no more bytes than it has
pub written-le : (text : List ℕ) → length (steps_text (steps_of (slice_split is_slash text))) ≤ length text
written-le text = omega (arith, joined-le (slice_split is_slash text), ap length (join_with_byte-slice_split 47 text))

-- the elements of a slice from a place on
pub left : (from : ℕ) (text : List ℕ) → take (length text - from) (drop from text) ≡ drop from text
left from text = let enough : length (drop from text) ≤ length text - from = omega (arith, length-drop from text) in take_all (length text - from) (drop from text) enough

-- one more piece of a text
pub step-more : (whole items after : List Step) (text : List ℕ) (from place : ℕ) (step : Step)
    → whole ≡ items ++ steps_of (slice_split is_slash (drop from text)) → position is_slash (take (length text - from) (drop from text)) ≡ Some place
    → step ≡ path_step (take (from + place - from) (drop from text)) → after ≡ items ++ step ∷ []
    → whole ≡ after ++ steps_of (slice_split is_slash (drop (from + (place + 1)) text))
step-more whole items after text from place step here at is put =
    let rest = steps_of (slice_split is_slash (drop (from + (place + 1)) text)) in
    let len : from + place - from ≡ place = omega arith in
    let piece : path_step (take place (drop from text)) ≡ step = ap (λ n. path_step (take n (drop from text))) (sym len) ∙ sym is in
    let cut : steps_of (slice_split is_slash (drop from text)) ≡ step ∷ rest =
    cut-more (drop from text) place (ap (position is_slash) (sym (left from text)) ∙ at)
    ∙ ap (λ s. s ∷ steps_of (slice_split is_slash (drop (place + 1) (drop from text)))) piece
    ∙ ap (λ t. step ∷ steps_of (slice_split is_slash t)) (drop-drop (place + 1) from text) in
    here ∙ ap (λ s. items ++ s) cut ∙ sym (append_assoc items (step ∷ []) rest) ∙ ap (λ s. s ++ rest) (sym put)

-- the last piece of a text
pub step-last : (whole items after : List Step) (text : List ℕ) (from : ℕ) (step : Step)
    → whole ≡ items ++ steps_of (slice_split is_slash (drop from text)) → position is_slash (take (length text - from) (drop from text)) ≡ None
    → from < length text → step ≡ path_step (take (length text - from) (drop from text)) → after ≡ items ++ step ∷ []
    → after ≡ whole
step-last whole items after text from step here none within is put =
    let piece : step ≡ path_step (drop from text) = is ∙ ap path_step (left from text) in
    let some : 0 < length (drop from text) = omega (arith, length-drop from text) in
    put ∙ ap (λ s. items ++ s ∷ []) piece
    ∙ ap (λ s. items ++ s) (sym (cut-last (drop from text) (ap (position is_slash) (sym (left from text)) ∙ none) ∙ last_steps-some (drop from text) some)) ∙ sym here
