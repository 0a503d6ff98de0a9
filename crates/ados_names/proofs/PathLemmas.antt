-- Paths and their texts.
use Rattle.std.proofs.Common.{◌≡◌, ◌≤◌, ◌<◌, ℕ, suc, ◌+◌, Bool, true, false, cond, ◌&&◌, List, [], ◌∷◌, ◌++◌, Option, Some, None, length, take, drop, refl, sym, ap, ◌∙◌, arith, append_assoc, length-append, length-drop, nat_lt, nat_le}
use Rattle.std.specs.Prelude.{IfSome, Ok, Err, if◌then◌else◌}
use Rattle.ados_text.specs.declared.codes.TheConstants.Result2.{INVALID_NAME}
use Rattle.std.specs.List.{list_all, position, position_or_len, slice_split}
use Rattle.std.proofs.Math.Seq.{take-append_seam, drop-append_seam}
use Rattle.std.proofs.lemmas.Bool.{and_parts, and_from}
use Rattle.std.proofs.lemmas.Bool.Decides.{nat_tests}
use Rattle.std.proofs.lemmas.List.{length-take-le}
use Rattle.std.proofs.lemmas.List.Folds.{list_all-append}
use Rattle.ados_names.specs.Names.{is_colon, is_slash, is_name_byte, is_name}
use Rattle.ados_names.specs.Path.{PathParts, IsPath, is_path_piece, is_device, is_step, are_parts, steps_of, parts_by_colon, parts_of, path_limit, path_of, steps_text, text_after_name, device_text, text_of, path_with_name}
use Rattle.ados_names.specs.Lengths.{pieces_len}
use Rattle.ados_names.specs.declared.steps.Step.{Step}
use Rattle.ados_names.specs.declared.steps.Step.TheVariants.{Up, Name}
use Rattle.ados_names.proofs.PieceLemmas.{no_colon, name-parts, steps-written, written-le}

-- no name contains a colon, and so no text of steps does
other_byte : (byte : ℕ) → is_name_byte byte ≡ true → no_colon byte ≡ true
other_byte byte h = grind (arith, nat_tests)

no_colons : (text : List ℕ) → list_all is_name_byte text ≡ true → list_all no_colon text ≡ true
no_colons [] h = refl
no_colons (c ∷ cs) h =
    let both = and_parts (is_name_byte c) (list_all is_name_byte cs) h in
    and_from (no_colon c) (list_all no_colon cs) (other_byte c both.0) (no_colons cs both.1)

none_in_piece : (piece : List ℕ) → is_path_piece piece ≡ true → list_all no_colon piece ≡ true
none_in_piece [] h = refl
none_in_piece (c ∷ cs) h = no_colons (c ∷ cs) (name-parts (c ∷ cs) h).bytes

none_after : (steps : List Step) (text : List ℕ) → list_all no_colon text ≡ true → list_all no_colon (text_after_name steps text) ≡ true
none_after [] text h = h
none_after (s ∷ ss) text h = h

none_written : (steps : List Step) → list_all is_step steps ≡ true → list_all no_colon (steps_text steps) ≡ true
none_written [] h = refl
none_written (Up ∷ rest) h = none_written rest h
none_written (Name name ∷ rest) h =
    let both = and_parts (is_name name) (list_all is_step rest) h in
    list_all-append no_colon name (text_after_name rest (steps_text rest))
    ∙ and_from (list_all no_colon name) (list_all no_colon (text_after_name rest (steps_text rest)))
    (no_colons name (name-parts name both.0).bytes) (none_after rest (steps_text rest) (none_written rest both.1))

one_more : (n : ℕ) → 1 + n ≡ suc n
one_more n = omega arith

first_colon : (device text : List ℕ) → list_all no_colon device ≡ true → position_or_len is_colon (device ++ 58 ∷ text) ≡ length device
first_colon [] text h = refl
first_colon (c ∷ cs) text h =
    let both = and_parts (no_colon c) (list_all no_colon cs) h in
    ap (λ b. cond b (1 + position_or_len is_colon (cs ++ 58 ∷ text)) 0) both.0 ∙ ap (λ n. 1 + n) (first_colon cs text both.1) ∙ one_more (length cs)

without_colon : (text : List ℕ) → list_all no_colon text ≡ true → position_or_len is_colon text ≡ length text
without_colon [] h = refl
without_colon (c ∷ cs) h =
    let both = and_parts (no_colon c) (list_all no_colon cs) h in
    ap (λ b. cond b (1 + position_or_len is_colon cs) 0) both.0 ∙ ap (λ n. 1 + n) (without_colon cs both.1) ∙ one_more (length cs)

no_position : (text : List ℕ) → list_all no_colon text ≡ true → position is_colon text ≡ None
no_position text h =
    let end : nat_lt (position_or_len is_colon text) (length text) ≡ false = (let e = without_colon text h in grind (arith, nat_tests)) in
    ap (λ b. cond b (Some (position_or_len is_colon text)) None) end

colon_position : (device text : List ℕ) → list_all no_colon device ≡ true → position is_colon (device ++ 58 ∷ text) ≡ Some (length device)
colon_position device text h =
    let at = first_colon device text h in
    let within : nat_lt (position_or_len is_colon (device ++ 58 ∷ text)) (length (device ++ 58 ∷ text)) ≡ true =
    (let l = length-append device (58 ∷ text) in grind (arith, nat_tests)) in
    ap (λ b. cond b (Some (position_or_len is_colon (device ++ 58 ∷ text))) None) within ∙ ap Some at

-- the parts of a text that was written from parts
pub parts-text : (device : Option (List ℕ)) (steps : List Step) → is_device device ≡ true → list_all is_step steps ≡ true
    → parts_of (device_text device ++ steps_text steps) ≡ record { device = device; steps = steps }
parts-text None steps d h =
    ap (parts_by_colon (steps_text steps)) (no_position (steps_text steps) (none_written steps h))
    ∙ ap (λ (s : List Step). record { device = None; steps = s }) (steps-written steps h)
parts-text (Some device) steps d h =
    let text = device ++ 58 ∷ steps_text steps in
    let one : (device ++ 58 ∷ []) ++ steps_text steps ≡ text = append_assoc device (58 ∷ []) (steps_text steps) in
    let after : drop (length device + 1) text ≡ steps_text steps =
    (let seam = drop-append_seam (device ++ 58 ∷ []) (steps_text steps) in
    ap (λ n. drop n text) (sym (length-append device (58 ∷ []))) ∙ ap (drop (length (device ++ 58 ∷ []))) (sym one) ∙ seam) in
    ap parts_of one
    ∙ ap (parts_by_colon text) (colon_position device (steps_text steps) (none_in_piece device d))
    ∙ ap (λ (t : List ℕ). record { device = Some t; steps = steps_of (slice_split is_slash (drop (length device + 1) text)) }) (take-append_seam device (58 ∷ steps_text steps))
    ∙ ap (λ (t : List ℕ). record { device = Some device; steps = steps_of (slice_split is_slash t) }) after
    ∙ ap (λ (s : List Step). record { device = Some device; steps = s }) (steps-written steps h)

-- the text of a path names it
pub path-text : (path : PathParts) → IsPath path → path_of (text_of path) ≡ Ok path
path-text path is =
    let both = and_parts (is_device path.device) (list_all is_step path.steps) is.parts in
    let same : parts_of (text_of path) ≡ path = parts-text path.device path.steps both.0 both.1 in
    let fits : nat_le (length (text_of path)) path_limit ≡ true = (let f = is.fits in grind (arith, nat_tests)) in
    let parts : are_parts (parts_of (text_of path)) ≡ true = ap are_parts same ∙ is.parts in
    ap (λ b. if b then Ok (parts_of (text_of path)) else Err INVALID_NAME) (and_from (nat_le (length (text_of path)) path_limit) (are_parts (parts_of (text_of path))) fits parts)
    ∙ ap Ok same

-- a text has no fewer bytes than the path that it names
pub parts-le : (text : List ℕ) (colon : Option ℕ) → IfSome colon (λ place. place < length text) → length (text_of (parts_by_colon text colon)) ≤ length text
parts-le text None h = written-le text
parts-le text (Some place) h =
    let rest = drop (place + 1) text in
    omega (arith, h, written-le rest, length-drop (place + 1) text, length-take-le place text (omega arith), length-append (take place text) (58 ∷ []), length-append (take place text ++ 58 ∷ []) (steps_text (steps_of (slice_split is_slash rest))))

-- one more step at the end: each step before it is followed by a slash
longer_steps : (steps : List Step) (name : List ℕ) → length (steps_text (steps ++ Name name ∷ [])) ≡ pieces_len steps + length name
longer_steps [] name = omega (arith, length-append name [])
longer_steps (Up ∷ rest) name = omega (arith, longer_steps rest name)
longer_steps (Name first ∷ []) name = omega (arith, length-append first (47 ∷ name ++ []), length-append name [])
longer_steps (Name first ∷ next ∷ more) name =
    omega (arith, longer_steps (next ∷ more) name, length-append first (47 ∷ steps_text ((next ∷ more) ++ Name name ∷ [])))

pub longer-length : (path : PathParts) (name : List ℕ) → length (text_of (path_with_name path name)) ≡ length (device_text path.device) + pieces_len path.steps + length name
longer-length path name =
    omega (arith, longer_steps path.steps name, length-append (device_text path.device) (steps_text (path.steps ++ Name name ∷ [])))

pieces-le : (steps : List Step) → pieces_len steps ≤ length (steps_text steps) + 1
pieces-le [] = omega arith
pieces-le (Up ∷ rest) = omega (arith, pieces-le rest)
pieces-le (Name name ∷ []) = omega (arith, length-append name [])
pieces-le (Name name ∷ next ∷ more) = omega (arith, pieces-le (next ∷ more), length-append name (47 ∷ steps_text (next ∷ more)))

pub path-lengths : (path : PathParts) → IsPath path → length (device_text path.device) + pieces_len path.steps ≤ path_limit + 1
path-lengths path is = omega (arith, is.fits, pieces-le path.steps, length-append (device_text path.device) (steps_text path.steps))

-- the test of a text, by the place of its first colon
pub named : (text : List ℕ) (colon : Option ℕ) (b : Bool) → length text ≤ path_limit → colon ≡ position is_colon text → b ≡ are_parts (parts_by_colon text colon) → b ≡ (nat_le (length text) path_limit && are_parts (parts_of text))
named text colon b short at e =
    let fits : nat_le (length text) path_limit ≡ true = grind (arith, nat_tests) in
    e ∙ ap (λ p. are_parts (parts_by_colon text p)) at ∙ sym (ap (λ t. t && are_parts (parts_of text)) fits)

-- a path that is read from a text is one
pub read-path : (text : List ℕ) (colon : Option ℕ) → are_parts (parts_of text) ≡ true → length text ≤ path_limit → colon ≡ position is_colon text → IfSome colon (λ place. place < length text) → IsPath (parts_by_colon text colon)
read-path text colon parts short at within = record {
  parts = ap (λ p. are_parts (parts_by_colon text p)) at ∙ parts;
  fits = omega (arith, parts-le text colon within);
}
