-- The name of a literal text is the name that its form is.
use Rattle.std.proofs.Common.{◌≡◌, ℕ, List, [], ◌∷◌, ◌++◌, Option, Some, None, refl, sym, ◌∙◌, ap, append_assoc}
use Rattle.std.specs.Option.{option_map}
use Rattle.std.proofs.lemmas.List.{append-nil}
use Rattle.ados_pattern.specs.declared.tokens.Token.{Token}
use Rattle.ados_pattern.specs.declared.tokens.Mode.TheVariants.{Plain}
use Rattle.ados_pattern.specs.Tokens.{tokens_from}
use Rattle.ados_pattern.specs.Form.{Form, Empty, Char, Any, Range, Outside, Many, Other, Then, Either}
use Rattle.ados_pattern.specs.Grammar.{IsClass, IsPattern, Kind, Says, Alternatives, Row, Item, any_of, character, quoted, any, nothing, many, other, group, class, end, item, one, either, within, outside}
use Rattle.ados_pattern.specs.Literal.{chars_after, literal_name, name_in}
use Rattle.ados_pattern.specs.Signs.{bar}
use Rattle.ados_pattern.proofs.Views.{char-tokens}

-- the character that a form is
abbrev pub char_in : Form → Option ℕ
char_in (Char c) = Some c
char_in form = None

-- the name after an item, and after a row
abbrev pub name_after : List ℕ → Option (List ℕ) → List Token → Option (List ℕ)
name_after name None ts = None
name_after name (Some front) ts = chars_after (name ++ front) ts

abbrev pub with_char : Option ℕ → Option (List ℕ) → Option (List ℕ)
with_char None front = None
with_char (Some c) front = option_map (λ name. c ∷ name) front

abbrev pub as_name : Option ℕ → Option (List ℕ)
as_name c = option_map (λ c. c ∷ []) c

pub row-name : (f g : Form) → name_in (Then f g) ≡ with_char (char_in f) (name_in g)
row-name Empty g = refl
row-name (Char c) g = refl
row-name Any g = refl
row-name (Range a z) g = refl
row-name (Outside f) g = refl
row-name (Many f) g = refl
row-name (Other f) g = refl
row-name (Then a b) g = refl
row-name (Either a b) g = refl

pub name-more : (name : List ℕ) (c : Option ℕ) (front : Option (List ℕ)) (ts us : List Token) → ((n : List ℕ) → chars_after n ts ≡ name_after n front us) → name_after name (as_name c) ts ≡ name_after name (with_char c front) us
name-more name None front ts us h = refl
name-more name (Some c) None ts us h = h (name ++ c ∷ [])
name-more name (Some c) (Some front) ts us h = h (name ++ c ∷ []) ∙ ap (λ n. chars_after n us) (append_assoc name (c ∷ []) front)

abbrev pub ReadsName : List ℕ → Option (List ℕ) → Type 0
ReadsName text front = (name rest : List ℕ) → chars_after name (tokens_from Plain (text ++ rest)) ≡ name_after name front (tokens_from Plain rest)

-- an item gives its character as the name, if it is one, and a row its name; alternatives do so only as the whole text
abbrev pub Names : Kind → List ℕ → Form → Type 0
Names Item text form = ReadsName text (as_name (char_in form))
Names Row text form = (char_in form ≡ None) × ReadsName text (name_in form)
Names Alternatives text form = (char_in form ≡ None) × ((name : List ℕ) → chars_after name (tokens_from Plain text) ≡ name_after name (name_in form) [])

pub members-no-char : (ms : List (ℕ × ℕ)) → char_in (any_of ms) ≡ None
members-no-char [] = refl
members-no-char (m ∷ []) = refl
members-no-char (m ∷ n ∷ ms) = refl

pub class-no-char : {t : List ℕ} {f : Form} → IsClass t f → char_in f ≡ None
class-no-char (within t ms b row) = members-no-char ms
class-no-char (outside t ms row) = refl

pub either-name : (s t : List ℕ) (front : Option (List ℕ)) → ReadsName s front → (name : List ℕ) → chars_after name (tokens_from Plain (s ++ bar ∷ t)) ≡ None
either-name s t None r name = r name (bar ∷ t)
either-name s t (Some front) r name = r name (bar ∷ t)

pub says-names : {k : Kind} {text : List ℕ} {form : Form} → Says k text form → Names k text form
says-names (character c e) = λ name rest. ap (chars_after name) (char-tokens c rest e)
says-names (quoted c) = λ name rest. refl
says-names any = λ name rest. refl
says-names nothing = λ name rest. refl
says-names (many t f i) = λ name rest. refl
says-names (other t f i) = λ name rest. refl
says-names (group t f a) = let w : Names Alternatives t f = says-names a in λ name rest. sym (ap (λ c. name_after name (as_name c) (tokens_from Plain rest)) w.0)
says-names (class t f c) = λ name rest. sym (ap (λ c. name_after name (as_name c) (tokens_from Plain rest)) (class-no-char c))
says-names end = (refl, λ name rest. ap (λ n. chars_after n (tokens_from Plain rest)) (sym (append-nil name)))
says-names (item s t f g i r) =
    let w : Names Item s f = says-names i in
    let v : Names Row t g = says-names r in (
      refl,
      λ name rest. ap (λ x. chars_after name (tokens_from Plain x)) (append_assoc s t rest) ∙ w name (t ++ rest)
          ∙ name-more name (char_in f) (name_in g) (tokens_from Plain (t ++ rest)) (tokens_from Plain rest) (λ n. v.1 n rest)
          ∙ sym (ap (λ front. name_after name front (tokens_from Plain rest)) (row-name f g)),
    )
says-names (one t f r) = let v : Names Row t f = says-names r in (v.0, λ name. ap (λ x. chars_after name (tokens_from Plain x)) (sym (append-nil t)) ∙ v.1 name [])
says-names (either s t f g r a) = let v : Names Row s f = says-names r in (refl, λ name. either-name s t (name_in f) v.1 name)

pub whole-name : (front : Option (List ℕ)) → name_after [] front [] ≡ front
whole-name None = refl
whole-name (Some front) = refl

-- the name of a pattern's text is the name that its form is
pub pattern-name : (text : List ℕ) (form : Form) → IsPattern text form → literal_name text ≡ name_in form
pattern-name text form p = let w : Names Alternatives text form = says-names p in w.1 [] ∙ whole-name (name_in form)
