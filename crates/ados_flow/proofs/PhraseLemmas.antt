-- Words with one blank between two, from the first on.
use Rattle.std.proofs.Common.{◌≡◌, ℕ, List, [], ◌∷◌, ◌++◌, ◌<◌, Some, None, length, drop, get_or, refl, ap, sym, append-nil, arith}
use Rattle.std.specs.List.{join_with_byte}
use Rattle.ados_flow.specs.Branches.{phrase_or_none}

-- each word after a blank
abbrev pub after_blanks : List (List ℕ) → List ℕ
after_blanks [] = []
after_blanks (word ∷ words) = 32 ∷ word ++ after_blanks words

pub join_with_byte-blanks : (word : List ℕ) (words : List (List ℕ)) → join_with_byte 32 (word ∷ words) ≡ word ++ after_blanks words
join_with_byte-blanks word [] = sym (append-nil word)
join_with_byte-blanks word (next ∷ words) = ap (λ rest. word ++ 32 ∷ rest) (join_with_byte-blanks next words)

-- the phrase by its first word
pub phrase-first : (words : List (List ℕ)) → 0 < length words → Some (get_or words 0 [] ++ after_blanks (drop 1 words)) ≡ phrase_or_none words
phrase-first [] h = absurd (omega arith)
phrase-first (word ∷ words) h = ap Some (sym (join_with_byte-blanks word words))

pub phrase-none : (words : List (List ℕ)) → length words ≡ 0 → None ≡ phrase_or_none words
phrase-none [] h = refl
phrase-none (word ∷ words) h = absurd (omega arith)

pub ruleset joined = (join_with_byte-blanks)
