-- how a text is read that is a word of a line
use Rattle.std.proofs.Common.{ℕ, suc, OnOk, Result, Ok, Err, ◌≡◌, ◌+◌, ◌-◌, ◌<◌, ◌∙◌, [], ◌∷◌, ◌++◌, Bool, true, false, ◌&&◌, ◌==◌, nat_lt, not, map, length, take, drop, Some, refl, ap, sym, arith, append_assoc, length-append}
use Rattle.std.proofs.lemmas.Bool.{cond_both, both_ways, false_from_ne_true}
use Rattle.std.proofs.lemmas.Bool.Decides.{nat_tests}
use Rattle.std.proofs.Math.Seq.{drop-append_seam, drop-append-add, take-append_seam}
use Rattle.std.specs.List.{prefix_len, list_all}
use Rattle.ados_text.specs.Text.{to_ascii, IsText, Bytes}
use Rattle.ados_items.specs.declared.items.Item.TheVariants.{Word, Quoted}
use Rattle.ados_items.specs.Items.{is_blank, is_word_byte, closing_place, quoted_item, item_by_first, item_at, escape_of, unescaped_bytes, bytes_between, value_of}
use Rattle.ados_transfer.specs.Words.{equal_signs, has_plain_ends, quoted_body, needs_no_quotes, is_literal_byte, needs_star, quoted_word, word_of, IsApart, ReadsAs, end_of}

-- the closing quote is the one after the text
closing-inside : (t : Bytes) (place : ℕ) (after : Bytes) → closing_place place false (quoted_body t ++ 34 ∷ after) ≡ Some (place + length (quoted_body t))
closing-inside [] place after = ap Some (omega arith)
closing-inside (c ∷ cs) place after =
    let P : Bytes → Type 0 = λ e. closing_place place false ((e ++ quoted_body cs) ++ 34 ∷ after) ≡ Some (place + length (e ++ quoted_body cs)) in
    let starred : (x : ℕ) → P (42 ∷ x ∷ []) = λ x. closing-inside cs (place + 1 + 1) after ∙ ap Some (omega arith) in
    cond_both (c == 10) _ _ P (λ _. starred 78) (λ _.
    cond_both (c == 27) _ _ P (λ _. starred 69) (λ _.
    cond_both (needs_star c) _ _ P (λ _. starred c) (λ plain.
    let e34 : (c == 34) ≡ false = grind (arith, nat_tests) in
    let e42 : (c == 42) ≡ false = grind (arith, nat_tests) in
    rw (e34, e42) (closing-inside cs (place + 1) after ∙ ap Some (omega arith)))))

-- what is inside the quotes is read as the text
unescaped-inside : (t : Bytes) → unescaped_bytes false (quoted_body t) ≡ t
unescaped-inside [] = refl
unescaped-inside (c ∷ cs) =
    let rest = unescaped-inside cs in
    let P : Bytes → Type 0 = λ e. unescaped_bytes false (e ++ quoted_body cs) ≡ c ∷ cs in
    let starred : (x : ℕ) → escape_of x ≡ c → P (42 ∷ x ∷ []) = λ x e. cc in
    cond_both (c == 10) _ _ P (λ e. starred 78 (grind (arith, nat_tests))) (λ _.
    cond_both (c == 27) _ _ P (λ e. starred 69 (grind (arith, nat_tests))) (λ _.
    cond_both (needs_star c) _ _ P (λ e. starred c (grind (arith, nat_tests))) (λ plain.
    let e42 : (c == 42) ≡ false = grind (arith, nat_tests) in
    rw e42 (ap (λ xs. c ∷ xs) rest))))

-- a blank, then the word in quotes, then what follows it
quoted_line : (before t after : Bytes) → (before ++ 32 ∷ quoted_word t) ++ after ≡ before ++ 32 ∷ 34 ∷ (quoted_body t ++ 34 ∷ after)
quoted_line before t after =
    append_assoc before (32 ∷ quoted_word t) after ∙ ap (λ rest. before ++ 32 ∷ 34 ∷ rest) (append_assoc (quoted_body t) (34 ∷ []) after)

quoted-item : (apart : Bool) (before t after : Bytes) (line : Bytes) → line ≡ before ++ 32 ∷ 34 ∷ (quoted_body t ++ 34 ∷ after)
    → item_at apart line (length before) ≡ Quoted (length before + 1 + 1) (length before + 1 + 1 + length (quoted_body t))
quoted-item apart before t after line e =
    let rest : Bytes = 32 ∷ 34 ∷ (quoted_body t ++ 34 ∷ after) in
    let here : drop (length before) line ≡ rest = rw e (drop-append_seam before rest) in
    let next : drop (length before + 1) line ≡ 34 ∷ (quoted_body t ++ 34 ∷ after) = rw e (drop-append-add before rest 1) in
    ap (λ d. item_by_first apart (length before + prefix_len is_blank d) (drop (length before + prefix_len is_blank d) line)) here
    ∙ ap (λ d. item_by_first apart (length before + 1) d) next
    ∙ ap (quoted_item (length before + 1 + 1)) (closing-inside t (length before + 1 + 1) after)

ascii : (t : Bytes) → IsText t → map to_ascii t ≡ t
ascii [] text = refl
ascii (c ∷ cs) text =
    let h : c < 128 = text 0 0 (omega arith) in
    let first : to_ascii c ≡ c = grind (arith, nat_tests) in
    let rest = ascii cs (λ k d within. text (suc k) d (omega arith)) in cc

-- what is in quotes is read as the text
quoted-value : (before t after : Bytes) (line : Bytes) → line ≡ before ++ 32 ∷ 34 ∷ (quoted_body t ++ 34 ∷ after) → IsText t
    → value_of line (Quoted (length before + 1 + 1) (length before + 1 + 1 + length (quoted_body t))) ≡ t
quoted-value before t after line e text =
    let from : ℕ = length before + 1 + 1 in
    let n : ℕ = length (quoted_body t) in
    let rest : Bytes = 32 ∷ 34 ∷ (quoted_body t ++ 34 ∷ after) in
    let two : length before + 1 + 1 ≡ length before + 2 = omega arith in
    let dropped : drop (length before + 1 + 1) line ≡ quoted_body t ++ 34 ∷ after = ap (λ k. drop k line) two ∙ rw e (drop-append-add before rest 2) in
    let many : (length before + 1 + 1 + length (quoted_body t)) - (length before + 1 + 1) ≡ length (quoted_body t) = omega arith in
    let between : bytes_between line (length before + 1 + 1) (length before + 1 + 1 + length (quoted_body t)) ≡ quoted_body t =
    ap (λ k. take k (drop (length before + 1 + 1) line)) many ∙ ap (take (length (quoted_body t))) dropped ∙ take-append_seam (quoted_body t) (34 ∷ after) in
    ap (λ b. map to_ascii (unescaped_bytes false b)) between ∙ ap (map to_ascii) (unescaped-inside t) ∙ ascii t text

quoted-reads : (apart : Bool) (before t after : Bytes) → IsText t
    → ReadsAs apart ((before ++ 32 ∷ quoted_word t) ++ after) (length before) (length (before ++ 32 ∷ quoted_word t)) t
quoted-reads apart before t after text =
    let line : Bytes = (before ++ 32 ∷ quoted_word t) ++ after in
    let parts = quoted_line before t after in
    let item = quoted-item apart before t after line parts in
    record {
      value = ap (value_of line) item ∙ quoted-value before t after line parts text;
      end = ap end_of item ∙ omega (arith, length-append before (32 ∷ quoted_word t), length-append (quoted_body t) (34 ∷ []));
    }

both-left : (a b : Bool) → (a && b) ≡ true → a ≡ true
both-left true b e = refl
both-left false b e = e

both-right : (a b : Bool) → (a && b) ≡ true → b ≡ true
both-right true b e = e
both-right false b e = absurd cc

not-true : (a : Bool) → not a ≡ true → a ≡ false
not-true true e = absurd cc
not-true false e = refl

-- a plain byte differs from one that is not plain
plain-other : (c k : ℕ) → is_literal_byte c ≡ true → is_literal_byte k ≡ false → (c == k) ≡ false
plain-other c k plain other =
    false_from_ne_true (c == k) (λ e.
    let same : c ≡ k = grind (arith, nat_tests) in
    both_ways (is_literal_byte k) other (sym (ap is_literal_byte same) ∙ plain))

plain-no-blank : (c : ℕ) → is_literal_byte c ≡ true → is_blank c ≡ false
plain-no-blank c plain = rw (plain-other c 32 plain refl) (plain-other c 9 plain refl)

plain-in-word : (c : ℕ) → is_literal_byte c ≡ true → is_word_byte false c ≡ true
plain-in-word c plain = rw (plain-no-blank c plain) (rw (plain-other c 59 plain refl) refl)

-- plain bytes are one word, up to a blank or the end
plain-run : (t after : Bytes) → list_all is_literal_byte t ≡ true → IsApart after → prefix_len (is_word_byte false) (t ++ after) ≡ length t
plain-run [] [] plain apart = refl
plain-run [] (c ∷ cs) plain apart = rw apart refl
plain-run (c ∷ cs) after plain apart =
    let rest = plain-run cs after (both-right (is_literal_byte c) (list_all is_literal_byte cs) plain) apart in
    rw (plain-in-word c (both-left (is_literal_byte c) (list_all is_literal_byte cs) plain)) (omega arith)

bare-item : (before : Bytes) (c : ℕ) (cs after : Bytes) (line : Bytes) → line ≡ before ++ 32 ∷ ((c ∷ cs) ++ after)
    → list_all is_literal_byte (c ∷ cs) ≡ true → IsApart after
    → item_at false line (length before) ≡ Word (length before + 1) (length before + 1 + length (c ∷ cs))
bare-item before c cs after line e plain apart =
    let rest : Bytes = 32 ∷ ((c ∷ cs) ++ after) in
    let first : is_literal_byte c ≡ true = both-left (is_literal_byte c) (list_all is_literal_byte cs) plain in
    let here : drop (length before) line ≡ rest = rw e (drop-append_seam before rest) in
    let next : drop (length before + 1) line ≡ (c ∷ cs) ++ after = rw e (drop-append-add before rest 1) in
    let blank : prefix_len is_blank rest ≡ 1 = rw (plain-no-blank c first) refl in
    let word : item_by_first false (length before + 1) ((c ∷ cs) ++ after) ≡ Word (length before + 1) (length before + 1 + prefix_len (is_word_byte false) ((c ∷ cs) ++ after)) =
    rw (plain-other c 59 first refl) (rw (plain-other c 34 first refl) refl) in
    ap (λ d. item_by_first false (length before + prefix_len is_blank d) (drop (length before + prefix_len is_blank d) line)) here
    ∙ ap (λ n. item_by_first false (length before + n) (drop (length before + n) line)) blank
    ∙ ap (item_by_first false (length before + 1)) next ∙ word
    ∙ ap (λ n. Word (length before + 1) (length before + 1 + n)) (plain-run (c ∷ cs) after plain apart)

bare-reads : (before t after : Bytes) → IsText t → needs_no_quotes t ≡ true → IsApart after
    → ReadsAs false ((before ++ 32 ∷ t) ++ after) (length before) (length (before ++ 32 ∷ t)) t
bare-reads before [] after text bare apart = absurd cc
bare-reads before (c ∷ cs) after text bare apart =
    let t : Bytes = c ∷ cs in
    let line : Bytes = (before ++ 32 ∷ (c ∷ cs)) ++ after in
    let parts : line ≡ before ++ 32 ∷ ((c ∷ cs) ++ after) = append_assoc before (32 ∷ (c ∷ cs)) after in
    let rest : (list_all is_literal_byte (c ∷ cs) && nat_lt (equal_signs (c ∷ cs)) 2) ≡ true = both-right (has_plain_ends (c ∷ cs)) _ bare in
    let plain : list_all is_literal_byte (c ∷ cs) ≡ true = both-left (list_all is_literal_byte (c ∷ cs)) (nat_lt (equal_signs (c ∷ cs)) 2) rest in
    let item = bare-item before c cs after line parts plain apart in
    let dropped : drop (length before + 1) line ≡ (c ∷ cs) ++ after = rw parts (drop-append-add before (32 ∷ ((c ∷ cs) ++ after)) 1) in
    let many : (length before + 1 + length (c ∷ cs)) - (length before + 1) ≡ length (c ∷ cs) = omega arith in
    let between : bytes_between line (length before + 1) (length before + 1 + length (c ∷ cs)) ≡ c ∷ cs =
    ap (λ k. take k (drop (length before + 1) line)) many ∙ ap (take (length (c ∷ cs))) dropped ∙ take-append_seam (c ∷ cs) after in
    record {
      value = ap (value_of line) item ∙ ap (map to_ascii) between ∙ ascii (c ∷ cs) text;
      end = ap end_of item ∙ omega (arith, length-append before (32 ∷ (c ∷ cs)));
    }

word-reads : (quotes : Bool) (before t after : Bytes) → IsText t → IsApart after
    → ReadsAs false ((before ++ 32 ∷ word_of quotes t) ++ after) (length before) (length (before ++ 32 ∷ word_of quotes t)) t
word-reads quotes before t after text apart =
    cond_both (not quotes && needs_no_quotes t) t (quoted_word t) (λ w. ReadsAs false ((before ++ 32 ∷ w) ++ after) (length before) (length (before ++ 32 ∷ w)) t)
    (λ e. bare-reads before t after text (both-right (not quotes) (needs_no_quotes t) e) apart) (λ _. quoted-reads false before t after text)

-- a line to which a blank and a word were appended
put-after : (quotes : Bool) (before middle t line : Bytes) → middle ≡ before ++ 32 ∷ [] → line ≡ middle ++ word_of quotes t
    → line ≡ before ++ 32 ∷ word_of quotes t
put-after quotes before middle t line blank is = is ∙ ap (λ m. m ++ word_of quotes t) blank ∙ append_assoc before (32 ∷ []) (word_of quotes t)

pub line_reads : {E : Type 0} (result : Result (Unit {0}) E) (quotes : Bool) (before middle t line : Bytes) → IsText t → middle ≡ before ++ 32 ∷ []
    → OnOk result (line ≡ middle ++ word_of quotes t)
    → OnOk result ((after : Bytes) → IsApart after → ReadsAs false (line ++ after) (length before) (length line) t)
line_reads (Ok done) quotes before middle t line text blank is =
    λ after apart. rw (put-after quotes before middle t line blank is) (word-reads quotes before t after text apart)
line_reads (Err why) quotes before middle t line text blank is = tt

pub line_item : {E : Type 0} (result : Result (Unit {0}) E) (quotes : Bool) (before middle t line : Bytes) → IsText t → middle ≡ before ++ 32 ∷ []
    → OnOk result (line ≡ middle ++ word_of quotes t)
    → OnOk result (quotes ≡ true → (after : Bytes) → ReadsAs true (line ++ after) (length before) (length line) t)
line_item (Ok done) true before middle t line text blank is =
    λ _ after. rw (put-after true before middle t line blank is) (quoted-reads true before t after text)
line_item (Ok done) false before middle t line text blank is = λ no after. absurd cc
line_item (Err why) quotes before middle t line text blank is = tt
