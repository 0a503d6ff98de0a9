-- What the grammar writes has no fault, and its tokens say what the grammar says.
use Rattle.std.proofs.Common.{◌≡◌, ℕ, ◌+◌, ◌-◌, List, [], ◌∷◌, ◌++◌, length, Bool, true, false, ◌==◌, if◌then◌else◌, Option, Some, None, refl, sym, ◌∙◌, ap, arith, append_assoc, length-append}
use Rattle.std.proofs.Math.Bool.{not}
use Rattle.std.proofs.lemmas.List.{append-nil}
use Rattle.ados_pattern.specs.declared.tokens.Token.{Token}
use Rattle.ados_pattern.specs.declared.tokens.Mode.TheVariants.{Plain, Begun}
use Rattle.ados_pattern.specs.Tokens.{tokens_from, tokens_of}
use Rattle.ados_pattern.specs.Fault.{closes, fault_from, has_nothing, is_bad_class}
use Rattle.ados_pattern.specs.Form.{Form, Empty, Char, Any, Many, Other, Then, Either}
use Rattle.ados_pattern.specs.Build.{Level, levels_of_tokens, with_group, item_many, item_other, on_row, with_bar, form_of_levels, form_of_tokens, whole_row, with_item}
use Rattle.ados_pattern.specs.Grammar.{IsClass, IsPattern, Kind, Says, Alternatives, Row, Item, character, quoted, any, nothing, many, other, group, class, end, item, one, either}
use Rattle.ados_pattern.specs.Signs.{bar, close_class, close_group, hash, is_sign, open_class, open_group, percent, question, quote, tilde}
use Rattle.ados_pattern.proofs.ClassReads.{if-false}
use Rattle.ados_pattern.proofs.ClassTexts.{class-built, class-good, class-text, text-closes, text-fault}
use Rattle.ados_pattern.proofs.FaultPlaces.{close-not-first}
use Rattle.ados_pattern.proofs.Views.{char-tokens}

-- the tokens of the text change the levels in this way, show no fault and close no group
pub record Passes (text : List ℕ) (change : List Level → List Level) : Type 0 where
  pub built : (rest : List ℕ) → levels_of_tokens (tokens_from Plain (text ++ rest)) ≡ change (levels_of_tokens (tokens_from Plain rest))
  pub kept : (d place : ℕ) (rest : List ℕ) → fault_from d place (tokens_from Plain (text ++ rest)) ≡ fault_from d (place + length text) (tokens_from Plain rest)
  pub level : (d : ℕ) (rest : List ℕ) → closes d (tokens_from Plain (text ++ rest)) ≡ closes d (tokens_from Plain rest)

pub record ReadsItem (text : List ℕ) (form : Form) : Type 0 where
  pub passes : Passes text (with_item form)
  pub begins : (rest : List ℕ) → has_nothing (tokens_from Plain (text ++ rest)) ≡ false

-- a row before a row
abbrev pub row_before : Form → Form → Form
row_before (Then i row) tail = Then i (row_before row tail)
row_before form tail = tail

pub record ReadsRow (text : List ℕ) (form : Form) : Type 0 where
  pub passes : Passes text (on_row (row_before form))
  pub ends : row_before form Empty ≡ form

-- alternatives before the end of a group, or of the text
pub record IsLevel (text rest : List ℕ) (form : Form) (below : List Level) : Type 0 where
  pub level : Level
  pub built : levels_of_tokens (tokens_from Plain (text ++ rest)) ≡ level ∷ below
  pub whole : whole_row level.0 level.1 ≡ form

pub record ReadsAlternatives (text : List ℕ) (form : Form) : Type 0 where
  pub built : (rest : List ℕ) (below : List Level) → levels_of_tokens (tokens_from Plain rest) ≡ (Empty, None) ∷ below → IsLevel text rest form below
  pub kept : (d place : ℕ) (rest : List ℕ) → fault_from d place (tokens_from Plain (text ++ rest)) ≡ fault_from d (place + length text) (tokens_from Plain rest)
  pub level : (d : ℕ) (rest : List ℕ) → closes d (tokens_from Plain (text ++ rest)) ≡ closes d (tokens_from Plain rest)

abbrev pub Reads : Kind → List ℕ → Form → Type 0
Reads Alternatives text form = ReadsAlternatives text form
Reads Row text form = ReadsRow text form
Reads Item text form = ReadsItem text form

pub at-place : (d a b : ℕ) (ts : List Token) → a ≡ b → fault_from d a ts ≡ fault_from d b ts
at-place d a b ts e = ap (λ p. fault_from d p ts) e

pub no-fault : (b : Bool) (place : ℕ) (tail : Option ℕ) → b ≡ false → (if b then Some place else tail) ≡ tail
no-fault b place tail e = if-false b (Some place) tail e

pub reads-char : (c : ℕ) → is_sign c ≡ false → ReadsItem (c ∷ []) (Char c)
reads-char c e = record {
  passes = record {
    built = λ rest. ap levels_of_tokens (char-tokens c rest e);
    kept = λ d place rest. ap (fault_from d place) (char-tokens c rest e);
    level = λ d rest. ap (closes d) (char-tokens c rest e);
  };
  begins = λ rest. ap has_nothing (char-tokens c rest e);
}

pub reads-quoted : (c : ℕ) → ReadsItem (quote ∷ c ∷ []) (Char c)
reads-quoted c = record {
  passes = record {
    built = λ rest. refl;
    kept = λ d place rest. at-place d (place + 1 + 1) (place + length (quote ∷ c ∷ [])) (tokens_from Plain rest) (omega arith);
    level = λ d rest. refl;
  };
  begins = λ rest. refl;
}

pub reads-any : ReadsItem (question ∷ []) Any
reads-any = record { passes = record { built = λ rest. refl; kept = λ d place rest. refl; level = λ d rest. refl }; begins = λ rest. refl }

pub reads-nothing : ReadsItem (percent ∷ []) Empty
reads-nothing = record { passes = record { built = λ rest. refl; kept = λ d place rest. refl; level = λ d rest. refl }; begins = λ rest. refl }

-- a sign changes the item after it, which has to be there
record IsMark (sign : ℕ) (change mark : Form → Form) : Type 0 where
  pub first : (f g : Form) → change (Then f g) ≡ Then (mark f) g
  pub built : (text : List ℕ) → levels_of_tokens (tokens_from Plain (sign ∷ text)) ≡ on_row change (levels_of_tokens (tokens_from Plain text))
  pub kept : (d place : ℕ) (text : List ℕ) →
      fault_from d place (tokens_from Plain (sign ∷ text)) ≡ (if has_nothing (tokens_from Plain text) then Some place else fault_from d (place + 1) (tokens_from Plain text))
  pub level : (d : ℕ) (text : List ℕ) → closes d (tokens_from Plain (sign ∷ text)) ≡ closes d (tokens_from Plain text)
  pub begins : (text : List ℕ) → has_nothing (tokens_from Plain (sign ∷ text)) ≡ false

mark-first : (sign : ℕ) (change mark : Form → Form) → IsMark sign change mark → (f : Form) (ls : List Level) → on_row change (with_item f ls) ≡ with_item (mark f) ls
mark-first sign change mark m f [] = refl
mark-first sign change mark m f (l ∷ ls) = ap (λ row. (row, l.1) ∷ ls) (m.first f l.0)

reads-marked : (sign : ℕ) (change mark : Form → Form) → IsMark sign change mark → (t : List ℕ) (f : Form) → ReadsItem t f → ReadsItem (sign ∷ t) (mark f)
reads-marked sign change mark m t f i = record {
  passes = record {
    built = λ rest. m.built (t ++ rest) ∙ ap (on_row change) (i.passes.built rest) ∙ mark-first sign change mark m f (levels_of_tokens (tokens_from Plain rest));
    kept = λ d place rest.
        m.kept d place (t ++ rest) ∙ no-fault (has_nothing (tokens_from Plain (t ++ rest))) place (fault_from d (place + 1) (tokens_from Plain (t ++ rest))) (i.begins rest)
        ∙ i.passes.kept d (place + 1) rest ∙ at-place d (place + 1 + length t) (place + length (sign ∷ t)) (tokens_from Plain rest) (omega arith);
    level = λ d rest. m.level d (t ++ rest) ∙ i.passes.level d rest;
  };
  begins = λ rest. m.begins (t ++ rest);
}

is-many : IsMark hash item_many Many
is-many = record { first = λ f g. refl; built = λ text. refl; kept = λ d place text. refl; level = λ d text. refl; begins = λ text. refl }

is-other : IsMark tilde item_other Other
is-other = record { first = λ f g. refl; built = λ text. refl; kept = λ d place text. refl; level = λ d text. refl; begins = λ text. refl }

-- a closing bracket after a text
pub close-level : (d : ℕ) (rest : List ℕ) → closes (d + 1) (tokens_from Plain (close_group ∷ rest)) ≡ closes d (tokens_from Plain rest)
close-level d rest = if-false (d + 1 == 0) true (closes (d + 1 - 1) (tokens_from Plain rest)) (close-not-first d) ∙ (let f : d + 1 - 1 ≡ d = omega arith in ap (λ k. closes k (tokens_from Plain rest)) f)

pub close-kept : (d place : ℕ) (rest : List ℕ) → fault_from (d + 1) place (tokens_from Plain (close_group ∷ rest)) ≡ fault_from d (place + 1) (tokens_from Plain rest)
close-kept d place rest = no-fault (d + 1 == 0) place (fault_from (d + 1 - 1) (place + 1) (tokens_from Plain rest)) (close-not-first d) ∙ (let f : d + 1 - 1 ≡ d = omega arith in ap (λ k. fault_from k (place + 1) (tokens_from Plain rest)) f)

pub reads-group : (t : List ℕ) (f : Form) → ReadsAlternatives t f → ReadsItem (open_group ∷ t ++ close_group ∷ []) f
reads-group t f a = record {
  passes = record {
    built = λ rest.
        let w = a.built (close_group ∷ rest) (levels_of_tokens (tokens_from Plain rest)) refl in
        ap (λ x. with_group (levels_of_tokens (tokens_from Plain x))) (append_assoc t (close_group ∷ []) rest) ∙ ap with_group w.built ∙ ap (λ g. with_item g (levels_of_tokens (tokens_from Plain rest))) w.whole;
    kept = λ d place rest.
        let e = append_assoc t (close_group ∷ []) rest in
        no-fault (not (closes 0 (tokens_from Plain ((t ++ close_group ∷ []) ++ rest)))) place (fault_from (d + 1) (place + 1) (tokens_from Plain ((t ++ close_group ∷ []) ++ rest))) (ap not (ap (λ x. closes 0 (tokens_from Plain x)) e ∙ a.level 0 (close_group ∷ rest)))
        ∙ ap (λ x. fault_from (d + 1) (place + 1) (tokens_from Plain x)) e ∙ a.kept (d + 1) (place + 1) (close_group ∷ rest) ∙ close-kept d (place + 1 + length t) rest
        ∙ at-place d (place + 1 + length t + 1) (place + length (open_group ∷ t ++ close_group ∷ [])) (tokens_from Plain rest) (omega (arith, length-append t (close_group ∷ [])));
    level = λ d rest. ap (λ x. closes (d + 1) (tokens_from Plain x)) (append_assoc t (close_group ∷ []) rest) ∙ a.level (d + 1) (close_group ∷ rest) ∙ close-level d rest;
  };
  begins = λ rest. refl;
}

pub reads-class : (t : List ℕ) (f : Form) → IsClass t f → ReadsItem (open_class ∷ t ++ close_class ∷ []) f
reads-class t f c = record {
  passes = record {
    built = λ rest. ap (λ x. with_group (levels_of_tokens (tokens_from Begun x))) (append_assoc t (close_class ∷ []) rest) ∙ ap with_group (class-built c rest);
    kept = λ d place rest.
        let e = append_assoc t (close_class ∷ []) rest in
        no-fault (is_bad_class false (tokens_from Begun ((t ++ close_class ∷ []) ++ rest))) place (fault_from d (place + 1) (tokens_from Begun ((t ++ close_class ∷ []) ++ rest))) (ap (λ x. is_bad_class false (tokens_from Begun x)) e ∙ class-good c rest)
        ∙ ap (λ x. fault_from d (place + 1) (tokens_from Begun x)) e ∙ text-fault (class-text c) d (place + 1) rest
        ∙ at-place d (place + 1 + length t + 1) (place + length (open_class ∷ t ++ close_class ∷ [])) (tokens_from Plain rest) (omega (arith, length-append t (close_class ∷ [])));
    level = λ d rest. ap (λ x. closes d (tokens_from Begun x)) (append_assoc t (close_class ∷ []) rest) ∙ text-closes (class-text c) d rest;
  };
  begins = λ rest. refl;
}

pub row-none : (ls : List Level) → on_row (row_before Empty) ls ≡ ls
row-none [] = refl
row-none (l ∷ ls) = refl

pub row-more : (f g : Form) (ls : List Level) → with_item f (on_row (row_before g) ls) ≡ on_row (row_before (Then f g)) ls
row-more f g [] = refl
row-more f g (l ∷ ls) = refl

pub reads-end : ReadsRow [] Empty
reads-end = record {
  passes = record {
    built = λ rest. sym (row-none (levels_of_tokens (tokens_from Plain rest)));
    kept = λ d place rest. at-place d place (place + 0) (tokens_from Plain rest) (omega arith);
    level = λ d rest. refl;
  };
  ends = refl;
}

pub reads-more : (s t : List ℕ) (f g : Form) → ReadsItem s f → ReadsRow t g → ReadsRow (s ++ t) (Then f g)
reads-more s t f g i r = record {
  passes = record {
    built = λ rest. ap (λ x. levels_of_tokens (tokens_from Plain x)) (append_assoc s t rest) ∙ i.passes.built (t ++ rest) ∙ ap (with_item f) (r.passes.built rest) ∙ row-more f g (levels_of_tokens (tokens_from Plain rest));
    kept = λ d place rest.
        ap (λ x. fault_from d place (tokens_from Plain x)) (append_assoc s t rest) ∙ i.passes.kept d place (t ++ rest) ∙ r.passes.kept d (place + length s) rest
        ∙ at-place d (place + length s + length t) (place + length (s ++ t)) (tokens_from Plain rest) (omega (arith, length-append s t));
    level = λ d rest. ap (λ x. closes d (tokens_from Plain x)) (append_assoc s t rest) ∙ i.passes.level d (t ++ rest) ∙ r.passes.level d rest;
  };
  ends = ap (Then f) r.ends;
}

pub reads-one : (t : List ℕ) (f : Form) → ReadsRow t f → ReadsAlternatives t f
reads-one t f r = record {
  built = λ rest below e. record { level = (row_before f Empty, None); built = r.passes.built rest ∙ ap (on_row (row_before f)) e; whole = r.ends };
  kept = r.passes.kept;
  level = r.passes.level;
}

pub reads-either : (s t : List ℕ) (f g : Form) → ReadsRow s f → ReadsAlternatives t g → ReadsAlternatives (s ++ bar ∷ t) (Either f g)
reads-either s t f g r a = record {
  built = λ rest below e.
      let w = a.built rest below e in
      record {
        level = (row_before f Empty, Some (whole_row w.level.0 w.level.1));
        built = ap (λ x. levels_of_tokens (tokens_from Plain x)) (append_assoc s (bar ∷ t) rest) ∙ r.passes.built (bar ∷ (t ++ rest)) ∙ ap (λ ls. on_row (row_before f) (with_bar ls)) w.built;
        whole = ap (λ x. Either x (whole_row w.level.0 w.level.1)) r.ends ∙ ap (Either f) w.whole;
      };
  kept = λ d place rest.
      ap (λ x. fault_from d place (tokens_from Plain x)) (append_assoc s (bar ∷ t) rest) ∙ r.passes.kept d place (bar ∷ (t ++ rest)) ∙ a.kept d (place + length s + 1) rest
      ∙ at-place d (place + length s + 1 + length t) (place + length (s ++ bar ∷ t)) (tokens_from Plain rest) (omega (arith, length-append s (bar ∷ t)));
  level = λ d rest. ap (λ x. closes d (tokens_from Plain x)) (append_assoc s (bar ∷ t) rest) ∙ r.passes.level d (bar ∷ (t ++ rest)) ∙ a.level d rest;
}

pub says-reads : {k : Kind} {text : List ℕ} {form : Form} → Says k text form → Reads k text form
says-reads (character c e) = reads-char c e
says-reads (quoted c) = reads-quoted c
says-reads any = reads-any
says-reads nothing = reads-nothing
says-reads (many t f i) = reads-marked hash item_many Many is-many t f (says-reads i)
says-reads (other t f i) = reads-marked tilde item_other Other is-other t f (says-reads i)
says-reads (group t f a) = reads-group t f (says-reads a)
says-reads (class t f c) = reads-class t f c
says-reads end = reads-end
says-reads (item s t f g i r) = reads-more s t f g (says-reads i) (says-reads r)
says-reads (one t f r) = reads-one t f (says-reads r)
says-reads (either s t f g r a) = reads-either s t f g (says-reads r) (says-reads a)

-- a pattern's tokens say its form
pub pattern-form : (text : List ℕ) (form : Form) → IsPattern text form → form_of_tokens (tokens_of text) ≡ form
pattern-form text form p =
    let a : ReadsAlternatives text form = says-reads p in
    let w = a.built [] [] refl in
    ap (λ x. form_of_tokens (tokens_of x)) (sym (append-nil text)) ∙ ap form_of_levels w.built ∙ w.whole

-- a pattern has no fault
pub pattern-kept : (text : List ℕ) (form : Form) → IsPattern text form → fault_from 0 0 (tokens_of text) ≡ None
pattern-kept text form p =
    let a : ReadsAlternatives text form = says-reads p in
    ap (λ x. fault_from 0 0 (tokens_of x)) (sym (append-nil text)) ∙ a.kept 0 0 []

-- a pattern closes no group around it
pub pattern-level : (text : List ℕ) (form : Form) → IsPattern text form → closes 0 (tokens_of text) ≡ false
pattern-level text form p =
    let a : ReadsAlternatives text form = says-reads p in
    ap (λ x. closes 0 (tokens_of x)) (sym (append-nil text)) ∙ a.level 0 []
