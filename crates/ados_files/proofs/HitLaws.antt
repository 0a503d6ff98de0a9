-- What a hit of Search is, by the parts of a line.
use Rattle.std.proofs.Common.{◌≡◌, ℕ, ◌≤◌, true, false, not, List, [], ◌∷◌, ◌++◌, length, take, drop, map, refl, ap, sym, ◌∙◌, arith, inl, inr, IsTrue}
use Rattle.std.specs.Prelude.{◌↔◌, nat_lt}
use Rattle.std.proofs.lemmas.List.{append-nil, length-map, take-append-drop}
use Rattle.std.proofs.Math.Seq.{take-append_seam}
use Rattle.std.proofs.lemmas.Slice.Eq.{bytes_eq-Decides}
use Rattle.ados_text.specs.Text.{Bytes, Text, fold_of, folded_text, is_same, to_ascii}
use Rattle.ados_pattern.specs.Form.{Form, Any, Empty, Many, Then}
use Rattle.ados_pattern.specs.Matches.{HasCut, Matches, Repeats, none, more}
use Rattle.ados_pattern.specs.Matching.{is_match}
use Rattle.ados_pattern.specs.Meaning.{Meaning, anywhere}
use Rattle.ados_pattern.proofs.Anys.{both-left, both-right, both-true, either-cases, or-right}
use Rattle.ados_pattern.proofs.Bits.{below-or-not, lt-false, lt-true}
use Rattle.ados_pattern.proofs.MatchLemmas.{is-match}
use Rattle.ados_files.specs.Hits.{is_hit}
use Rattle.ados_files.specs.Parts.{HasPart, begins_with, stands_in}
use Rattle.ados_files.specs.declared.hits.Wanted.TheVariants.{Inside, Matching}
use Rattle.ados_files.proofs.PartLemmas.{stands_here}

abbrev IsSame : Text → Text → Type 0
IsSame text part = IsTrue (is_same text part)

begun : (text line : List ℕ) → begins_with text line ≡ true → HasPart (IsSame text) line
begun text line h = record {
  front = [];
  part = take (length text) line;
  rest = drop (length text) line;
  joined = sym (take-append-drop (length text) line);
  holds = h;
}

found : (text line : List ℕ) → stands_in text line ≡ true → HasPart (IsSame text) line
found text [] h = begun text [] h
found text (c ∷ cs) h = elim (either-cases (begins_with text (c ∷ cs)) (stands_in text cs) h) [
  | inl e ↦ begun text (c ∷ cs) e
  | inr e ↦
      let inside : HasPart (IsSame text) cs = found text cs e in
      record { front = c ∷ inside.front; part = inside.part; rest = inside.rest; joined = ap (λ (t : List ℕ). c ∷ t) inside.joined; holds = inside.holds }
]

same_length : (a b : List ℕ) → is_same a b ≡ true → length a ≡ length b
same_length a b h =
    sym (length-map a fold_of) ∙ (ap length ((bytes_eq-Decides (folded_text a) (folded_text b)).0 h) ∙ length-map b fold_of)

stands : (text front part rest : List ℕ) → is_same text part ≡ true → stands_in text (front ++ (part ++ rest)) ≡ true
stands text [] part rest h =
    let taken : take (length text) (part ++ rest) ≡ part = ap (λ (n : ℕ). take n (part ++ rest)) (same_length text part h) ∙ take-append_seam part rest in
    stands_here text (part ++ rest) (ap (λ (t : List ℕ). is_same text t) taken ∙ h)
stands text (c ∷ front) part rest h = or-right (begins_with text (c ∷ (front ++ (part ++ rest)))) (stands_in text (front ++ (part ++ rest))) (stands text front part rest h)

pub text-hits : (text line : Bytes) → (is_hit (Inside text) line ≡ true) ↔ HasPart (IsSame text) line
text-hits text line = (
  found text line,
  λ h. ap (stands_in text) h.joined ∙ stands text h.front h.part h.rest h.holds,
)

any_text : (text : List ℕ) → Repeats (Matches Any) text
any_text [] = none
any_text (c ∷ cs) = more (c ∷ cs) (c ∷ []) cs refl (omega arith) refl (any_text cs)

abbrev around : Form → Form
around form = Then (Many Any) (Then form (Then (Many Any) Empty))

matched : (form : Form) (text : List ℕ) → Matches (around form) text → HasPart (Matches form) text
matched form text cut =
    let outer : HasCut (Matches (Many Any)) (Matches (Then form (Then (Many Any) Empty))) text = cut in
    let inner : HasCut (Matches form) (Matches (Then (Many Any) Empty)) outer.rest = outer.second in
    record {
      front = outer.front;
      part = inner.front;
      rest = inner.rest;
      joined = outer.joined ∙ ap (λ (t : List ℕ). outer.front ++ t) inner.joined;
      holds = inner.first;
    }

matches : (form : Form) (text : List ℕ) → HasPart (Matches form) text → Matches (around form) text
matches form text h =
    let last : HasCut (Matches (Many Any)) (Matches Empty) h.rest =
    record { front = h.rest; rest = []; joined = sym (append-nil h.rest); first = any_text h.rest; second = refl } in
    let inner : HasCut (Matches form) (Matches (Then (Many Any) Empty)) (h.part ++ h.rest) =
    record { front = h.part; rest = h.rest; joined = refl; first = h.holds; second = last } in
    let outer : HasCut (Matches (Many Any)) (Matches (Then form (Then (Many Any) Empty))) text =
    record { front = h.front; rest = h.part ++ h.rest; joined = h.joined; first = any_text h.front; second = inner } in
    outer

fits : (n : ℕ) → not (nat_lt 512 n) ≡ true → n ≤ 512
fits n h = elim (below-or-not 512 n) [
  | inl long ↦ let e : false ≡ true = sym (ap not (lt-true 512 n long)) ∙ h in absurd cc
  | inr short ↦ short
]

pub pattern-hits : (pattern : Meaning) (line : Bytes) →
    (is_hit (Matching (anywhere pattern)) line ≡ true) ↔ (length line ≤ 512) × HasPart (Matches pattern.form) (map to_ascii line)
pattern-hits pattern line =
    let text = map to_ascii line in
    let short = not (nat_lt 512 (length line)) in
    let is = is_match (around pattern.form) text in (
      λ h. (fits (length line) (both-left short is h), matched pattern.form text ((is-match (around pattern.form) text).0 (both-right short is h))),
      λ h. both-true short is (ap not (lt-false 512 (length line) h.0)) ((is-match (around pattern.form) text).1 (matches pattern.form text h.1)),
    )
