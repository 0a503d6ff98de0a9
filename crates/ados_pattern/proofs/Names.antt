-- The name of a literal text is ASCII, as the text is.
use Rattle.std.proofs.Common.{◌≡◌, ℕ, List, [], ◌∷◌, ◌++◌, Bool, true, false, ◌==◌, if◌then◌else◌, Option, Some, None, refl, sym, ◌∙◌, ap, subst, arith, suc, ◌<◌, ◌⊎◌, inl, inr, map}
use Rattle.std.proofs.lemmas.List.{map-append}
use Rattle.ados_text.specs.Text.{IsText, to_ascii}
use Rattle.ados_pattern.specs.declared.tokens.Token.{Token}
use Rattle.ados_pattern.specs.declared.tokens.Token.TheVariants.{Silent, Char, Negated, Member, ClassClose}
use Rattle.ados_pattern.specs.declared.tokens.Mode.{Mode}
use Rattle.ados_pattern.specs.declared.tokens.Mode.TheVariants.{Plain, Quoted, Begun, Class, ClassQuoted, Low, Ranged, RangedQuoted}
use Rattle.ados_pattern.specs.Tokens.{begins_range, class_token, next_mode, plain_token, quote_token, token_of, tokens_from}
use Rattle.ados_pattern.specs.Literal.{chars_after, literal_name}
use Rattle.ados_pattern.proofs.Bits.{lt-true}

-- a token adds nothing or its own byte to the name, or the text is not literal
abbrev pub Kind : Token → ℕ → Type 0
Kind t c = (t ≡ Silent) ⊎ ((t ≡ Char c) ⊎ ((name : List ℕ) (ts : List Token) → chars_after name (t ∷ ts) ≡ None))

pub pick : (c : ℕ) (b : Bool) (x y : Token) → Kind x c → Kind y c → Kind (if b then x else y) c
pick c true x y p q = p
pick c false x y p q = q

pub kind-quote : (c : ℕ) (rest : List ℕ) → Kind (quote_token rest) c
kind-quote c [] = inr (inr (λ name ts. refl))
kind-quote c (d ∷ rest) = inl refl

pub kind-plain : (c : ℕ) (rest : List ℕ) → Kind (plain_token c rest) c
kind-plain c rest =
    pick c (c == 39) _ _ (kind-quote c rest)
    (pick c (c == 91) _ _ (inr (inr (λ name ts. refl)))
    (pick c (c == 63) _ _ (inr (inr (λ name ts. refl)))
    (pick c (c == 37) _ _ (inr (inr (λ name ts. refl)))
    (pick c (c == 35) _ _ (inr (inr (λ name ts. refl)))
    (pick c (c == 126) _ _ (inr (inr (λ name ts. refl)))
    (pick c (c == 124) _ _ (inr (inr (λ name ts. refl)))
    (pick c (c == 40) _ _ (inr (inr (λ name ts. refl)))
    (pick c (c == 41) _ _ (inr (inr (λ name ts. refl))) (inr (inl refl))))))))))

pub kind-member : (c low high : ℕ) (rest : List ℕ) → Kind (if begins_range rest then Silent else Member low high) c
kind-member c low high rest = pick c (begins_range rest) Silent (Member low high) (inl refl) (inr (inr (λ name ts. refl)))

pub kind-class : (c : ℕ) (rest : List ℕ) → Kind (class_token c rest) c
kind-class c rest = pick c (c == 93) ClassClose _ (inr (inr (λ name ts. refl))) (pick c (c == 39) Silent _ (inl refl) (kind-member c c c rest))

pub kind-of : (mode : Mode) (c : ℕ) (rest : List ℕ) → Kind (token_of mode c rest) c
kind-of Plain c rest = kind-plain c rest
kind-of Quoted c rest = inr (inl refl)
kind-of Begun c rest = pick c (c == 126) Negated _ (inr (inr (λ name ts. refl))) (kind-class c rest)
kind-of Class c rest = kind-class c rest
kind-of ClassQuoted c rest = kind-member c c c rest
kind-of (Low low) c rest = inl refl
kind-of (Ranged low) c rest = pick c (c == 39) Silent (Member low c) (inl refl) (inr (inr (λ name ts. refl)))
kind-of (RangedQuoted low) c rest = inr (inr (λ name ts. refl))

abbrev pub IsKept : Option (List ℕ) → Type 0
IsKept None = Unit {0}
IsKept (Some name) = map to_ascii name ≡ name

pub kept-more : (name : List ℕ) (c : ℕ) → map to_ascii name ≡ name → to_ascii c ≡ c → map to_ascii (name ++ c ∷ []) ≡ name ++ c ∷ []
kept-more name c k e = map-append to_ascii name (c ∷ []) ∙ ap (λ ds. ds ++ to_ascii c ∷ []) k ∙ ap (λ d. name ++ d ∷ []) e

pub first-kept : (c : ℕ) (rest : List ℕ) → map to_ascii (c ∷ rest) ≡ c ∷ rest → to_ascii c ≡ c
first-kept c rest e = cc

pub rest-kept : (c : ℕ) (rest : List ℕ) → map to_ascii (c ∷ rest) ≡ c ∷ rest → map to_ascii rest ≡ rest
rest-kept c rest e = cc

pub chars-kept : (mode : Mode) (text name : List ℕ) → map to_ascii text ≡ text → map to_ascii name ≡ name → IsKept (chars_after name (tokens_from mode text))
chars-kept mode [] name e k = k
chars-kept mode (c ∷ rest) name e k =
    let ts : List Token = tokens_from (next_mode mode c rest) rest in
    let first : to_ascii c ≡ c = first-kept c rest e in
    let tail : map to_ascii rest ≡ rest = rest-kept c rest e in
    let P : Token → Type 0 = λ t. IsKept (chars_after name (t ∷ ts)) in
    elim (kind-of mode c rest) [
      | inl s ↦ subst P (sym s) (chars-kept (next_mode mode c rest) rest name tail k)
      | inr (inl s) ↦ subst P (sym s) (chars-kept (next_mode mode c rest) rest (name ++ c ∷ []) tail (kept-more name c k first))
      | inr (inr s) ↦ subst IsKept (sym (s name ts)) tt
    ]

pub ascii-kept : (text : List ℕ) → IsText text → map to_ascii text ≡ text
ascii-kept [] h = refl
ascii-kept (c ∷ rest) h =
    let small : c < 128 = h 0 0 (omega arith) in
    let first : to_ascii c ≡ c = rw (lt-true c 128 small) refl in
    ap (λ d. d ∷ map to_ascii rest) first ∙ ap (λ ds. c ∷ ds) (ascii-kept rest (λ k d l. h (suc k) d (omega (arith, l))))

-- the name that was read is ASCII
pub name_read : (text name : List ℕ) → IsText text → literal_name text ≡ Some name → Some (map to_ascii name) ≡ literal_name text
name_read text name ascii is = ap Some (subst IsKept is (chars-kept Plain text [] (ascii-kept text ascii) refl)) ∙ sym is
