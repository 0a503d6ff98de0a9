-- What the result of a parse says of the text, by the grammar.
use Rattle.std.proofs.Common.{◌≡◌, ◌⊎◌, inl, inr, ℕ, ◌<◌, ◌≤◌, List, length, Bool, true, false, ◌↔◌, if◌then◌else◌, nat_lt, Option, Some, None, Result, Ok, Err, refl, sym, ◌∙◌, ap, subst, arith}
use Rattle.std.specs.Option.{MatchOption, option_map}
use Rattle.std.specs.Result.{IfOk, IsOkUnless}
use Rattle.std.proofs.lemmas.Grind.{common_steps}
use Rattle.std.proofs.lemmas.Option.{MatchOption-at_none, MatchOption-at_some}
use Rattle.std.proofs.lemmas.Result.{IfOk-weaker}
use Rattle.ados_pattern.specs.declared.errors.PatternFault.{PatternFault}
use Rattle.ados_pattern.specs.declared.errors.PatternFault.TheVariants.{BadPattern, NoMemory, TooLong}
use Rattle.ados_pattern.specs.Fault.{fault_from, fault_of}
use Rattle.ados_pattern.specs.Form.{Form}
use Rattle.ados_pattern.specs.FaultPlace.{FaultAt, IsFirstFault}
use Rattle.ados_pattern.specs.Grammar.{IsPattern}
use Rattle.ados_pattern.specs.Literal.{name_in}
use Rattle.ados_pattern.specs.Meaning.{Meaning, meaning_of}
use Rattle.ados_pattern.specs.Tokens.{tokens_of}
use Rattle.ados_pattern.specs.Build.{form_of_tokens}
use Rattle.ados_pattern.proofs.FirstFaults.{fault-found, first-found, first-is-found}
use Rattle.ados_pattern.proofs.GrammarBuilds.{kept-pattern}
use Rattle.ados_pattern.proofs.GrammarNames.{pattern-name}
use Rattle.ados_pattern.proofs.GrammarReads.{pattern-form, pattern-kept}

-- a result that gives the fault, or the meaning
pub record IsAnswer (text : List ℕ) (answer : Result Meaning PatternFault) : Type 0 where
  pub fault : MatchOption (fault_of text) (IsOkUnless answer NoMemory) (λ fault. answer ≡ Err fault)
  pub meaning : IfOk answer (λ pattern. pattern ≡ meaning_of text)

-- the cases of a text's fault
pub data FaultCase (text : List ℕ) : Type 0 where
  is_long : 255 < length text → fault_of text ≡ Some TooLong → FaultCase text
  is_bad : (place : ℕ) → length text ≤ 255 → fault_from 0 0 (tokens_of text) ≡ Some place → fault_of text ≡ Some (BadPattern place) → FaultCase text
  is_good : length text ≤ 255 → fault_from 0 0 (tokens_of text) ≡ None → fault_of text ≡ None → FaultCase text

pub fault-case : (text : List ℕ) → FaultCase text
fault-case text = go (nat_lt 255 (length text)) refl (fault_from 0 0 (tokens_of text)) refl
  where
    pick : Bool → Option ℕ → Option PatternFault
    pick b found = if b then Some TooLong else option_map BadPattern found

    go : (b : Bool) → nat_lt 255 (length text) ≡ b → (found : Option ℕ) → fault_from 0 0 (tokens_of text) ≡ found → FaultCase text
    go true l found f = is_long (grind (arith, l, common_steps)) (ap (λ b. if b then Some TooLong else option_map BadPattern (fault_from 0 0 (tokens_of text))) l)
    go false l None f = is_good (grind (arith, l, common_steps)) f (ap (λ b. if b then Some TooLong else option_map BadPattern (fault_from 0 0 (tokens_of text))) l ∙ ap (option_map BadPattern) f)
    go false l (Some place) f = is_bad place (grind (arith, l, common_steps)) f (ap (λ b. if b then Some TooLong else option_map BadPattern (fault_from 0 0 (tokens_of text))) l ∙ ap (option_map BadPattern) f)

pub no-memory-only : (answer : Result Meaning PatternFault) (fault : PatternFault) → IsOkUnless answer NoMemory → answer ≡ Err fault → fault ≡ NoMemory
no-memory-only answer fault h e = subst (λ a. IsOkUnless a NoMemory) e h

pub long-answer : (text : List ℕ) (answer : Result Meaning PatternFault) → IsAnswer text answer → (answer ≡ Err TooLong) ↔ (255 < length text)
long-answer text answer a = (λ e. long e (fault-case text), λ l. short l (fault-case text))
  where
    long : answer ≡ Err TooLong → FaultCase text → 255 < length text
    long e (is_long l f) = l
    long e (is_bad place l f g) = let h : answer ≡ Err (BadPattern place) = MatchOption-at_some (IsOkUnless answer NoMemory) (λ fault. answer ≡ Err fault) (BadPattern place) g a.fault in absurd cc
    long e (is_good l f g) = let h : TooLong ≡ NoMemory = no-memory-only answer TooLong (MatchOption-at_none (IsOkUnless answer NoMemory) (λ fault. answer ≡ Err fault) g a.fault) e in absurd cc

    short : 255 < length text → FaultCase text → answer ≡ Err TooLong
    short l (is_long m f) = MatchOption-at_some (IsOkUnless answer NoMemory) (λ fault. answer ≡ Err fault) TooLong f a.fault
    short l (is_bad place m f g) = absurd (omega (arith, l, m))
    short l (is_good m f g) = absurd (omega (arith, l, m))

pub bad-answer : (text : List ℕ) (answer : Result Meaning PatternFault) → IsAnswer text answer → (place : ℕ) → (answer ≡ Err (BadPattern place)) ↔ (length text ≤ 255) × IsFirstFault text place
bad-answer text answer a place = (λ e. bad e (fault-case text), λ h. first h.0 h.1 (fault-case text))
  where
    bad : answer ≡ Err (BadPattern place) → FaultCase text → (length text ≤ 255) × IsFirstFault text place
    bad e (is_long l f) = let h : answer ≡ Err TooLong = MatchOption-at_some (IsOkUnless answer NoMemory) (λ fault. answer ≡ Err fault) TooLong f a.fault in absurd cc
    bad e (is_bad found l f g) =
        let h : answer ≡ Err (BadPattern found) = MatchOption-at_some (IsOkUnless answer NoMemory) (λ fault. answer ≡ Err fault) (BadPattern found) g a.fault in
        let same : found ≡ place = cc in (l, subst (IsFirstFault text) same (first-found text found f))
    bad e (is_good l f g) = let h : BadPattern place ≡ NoMemory = no-memory-only answer (BadPattern place) (MatchOption-at_none (IsOkUnless answer NoMemory) (λ fault. answer ≡ Err fault) g a.fault) e in absurd cc

    first : length text ≤ 255 → IsFirstFault text place → FaultCase text → answer ≡ Err (BadPattern place)
    first l h (is_long m f) = absurd (omega (arith, l, m))
    first l h (is_bad found m f g) =
        let same : Some found ≡ Some place = sym f ∙ first-is-found text place h in
        let e : found ≡ place = cc in
        MatchOption-at_some (IsOkUnless answer NoMemory) (λ fault. answer ≡ Err fault) (BadPattern found) g a.fault ∙ ap (λ p. Err (BadPattern p)) e
    first l h (is_good m f g) = let same : None ≡ Some place = sym f ∙ first-is-found text place h in absurd cc

pub pattern-answer : (text : List ℕ) (answer : Result Meaning PatternFault) → IsAnswer text answer → IfOk answer (λ pattern. IsPattern text pattern.form × (pattern.name ≡ name_in pattern.form))
pattern-answer text (Err e) a = tt
pattern-answer text (Ok pattern) a = by_case (fault-case text)
  where
    by_case : FaultCase text → IsPattern text pattern.form × (pattern.name ≡ name_in pattern.form)
    by_case (is_long l f) = let h : Ok pattern ≡ Err TooLong = MatchOption-at_some (IsOkUnless (Ok pattern) NoMemory) (λ fault. Ok pattern ≡ Err fault) TooLong f a.fault in absurd cc
    by_case (is_bad place l f g) = let h : Ok pattern ≡ Err (BadPattern place) = MatchOption-at_some (IsOkUnless (Ok pattern) NoMemory) (λ fault. Ok pattern ≡ Err fault) (BadPattern place) g a.fault in absurd cc
    by_case (is_good l f g) =
        let p = kept-pattern text f in
        subst (λ m. IsPattern text m.form × (m.name ≡ name_in m.form)) (sym a.meaning) (p, pattern-name text (meaning_of text).form p)

pub only-answer : (text : List ℕ) (answer : Result Meaning PatternFault) → IsAnswer text answer → (form : Form) → IsPattern text form → length text ≤ 255 → IsOkUnless answer NoMemory × IfOk answer (λ pattern. pattern.form ≡ form)
only-answer text answer a form p l = (by_case (fault-case text), IfOk-weaker answer _ _ (λ pattern e. ap (λ m. m.form) e ∙ pattern-form text form p) a.meaning)
  where
    by_case : FaultCase text → IsOkUnless answer NoMemory
    by_case (is_long m f) = absurd (omega (arith, l, m))
    by_case (is_bad place m f g) = let h : None ≡ Some place = sym (pattern-kept text form p) ∙ f in absurd cc
    by_case (is_good m f g) = MatchOption-at_none (IsOkUnless answer NoMemory) (λ fault. answer ≡ Err fault) g a.fault

-- a text is a pattern or has a first fault
pub pattern-or-fault : (text : List ℕ) → ((form : Form) × IsPattern text form) ⊎ ((place : ℕ) × IsFirstFault text place)
pattern-or-fault text = go (fault_from 0 0 (tokens_of text)) refl
  where
    go : (found : Option ℕ) → fault_from 0 0 (tokens_of text) ≡ found → ((form : Form) × IsPattern text form) ⊎ ((place : ℕ) × IsFirstFault text place)
    go None e = inl (form_of_tokens (tokens_of text), kept-pattern text e)
    go (Some place) e = inr (place, first-found text place e)

pub pattern-no-fault : (text : List ℕ) (form : Form) (place : ℕ) → IsPattern text form → FaultAt text place → ⊥
pattern-no-fault text form place p at =
    let w = fault-found text place at in
    let e : None ≡ Some w.0 = sym (pattern-kept text form p) ∙ w.2 in absurd cc

pub one-form : (text : List ℕ) (one other : Form) → IsPattern text one → IsPattern text other → one ≡ other
one-form text one other p q = sym (pattern-form text one p) ∙ pattern-form text other q

-- what is computed of a text
pub no-fault-pattern : (text : List ℕ) (form : Form) → (fault_of text ≡ None) × ((meaning_of text).form ≡ form) ↔ (length text ≤ 255) × IsPattern text form
no-fault-pattern text form = (λ h. reads h.0 h.1 (fault-case text), λ h. free h.0 h.1 (fault-case text))
  where
    reads : fault_of text ≡ None → (meaning_of text).form ≡ form → FaultCase text → (length text ≤ 255) × IsPattern text form
    reads e same (is_long l f) = let h : None ≡ Some TooLong = sym e ∙ f in absurd cc
    reads e same (is_bad place l f g) = let h : None ≡ Some (BadPattern place) = sym e ∙ g in absurd cc
    reads e same (is_good l f g) = (l, subst (IsPattern text) same (kept-pattern text f))

    free : length text ≤ 255 → IsPattern text form → FaultCase text → (fault_of text ≡ None) × ((meaning_of text).form ≡ form)
    free l p (is_long m f) = absurd (omega (arith, l, m))
    free l p (is_bad place m f g) = let h : None ≡ Some place = sym (pattern-kept text form p) ∙ f in absurd cc
    free l p (is_good m f g) = (g, pattern-form text form p)

pub no-fault-name : (text : List ℕ) → fault_of text ≡ None → (meaning_of text).name ≡ name_in (meaning_of text).form
no-fault-name text e = pattern-name text (meaning_of text).form ((no-fault-pattern text (meaning_of text).form).0 (e, refl)).1

pub bad-fault : (text : List ℕ) (place : ℕ) → (fault_of text ≡ Some (BadPattern place)) ↔ (length text ≤ 255) × IsFirstFault text place
bad-fault text place = (λ e. bad e (fault-case text), λ h. first h.0 h.1 (fault-case text))
  where
    bad : fault_of text ≡ Some (BadPattern place) → FaultCase text → (length text ≤ 255) × IsFirstFault text place
    bad e (is_long l f) = let h : Some TooLong ≡ Some (BadPattern place) = sym f ∙ e in absurd cc
    bad e (is_bad found l f g) =
        let h : Some (BadPattern found) ≡ Some (BadPattern place) = sym g ∙ e in
        let same : found ≡ place = cc in (l, subst (IsFirstFault text) same (first-found text found f))
    bad e (is_good l f g) = let h : None ≡ Some (BadPattern place) = sym g ∙ e in absurd cc

    first : length text ≤ 255 → IsFirstFault text place → FaultCase text → fault_of text ≡ Some (BadPattern place)
    first l h (is_long m f) = absurd (omega (arith, l, m))
    first l h (is_bad found m f g) =
        let same : Some found ≡ Some place = sym f ∙ first-is-found text place h in
        let e : found ≡ place = cc in g ∙ ap (λ p. Some (BadPattern p)) e
    first l h (is_good m f g) = let same : None ≡ Some place = sym f ∙ first-is-found text place h in absurd cc

pub long-fault : (text : List ℕ) → (fault_of text ≡ Some TooLong) ↔ (255 < length text)
long-fault text = (λ e. long e (fault-case text), λ l. short l (fault-case text))
  where
    long : fault_of text ≡ Some TooLong → FaultCase text → 255 < length text
    long e (is_long l f) = l
    long e (is_bad place l f g) = let h : Some (BadPattern place) ≡ Some TooLong = sym g ∙ e in absurd cc
    long e (is_good l f g) = let h : None ≡ Some TooLong = sym g ∙ e in absurd cc

    short : 255 < length text → FaultCase text → fault_of text ≡ Some TooLong
    short l (is_long m f) = f
    short l (is_bad place m f g) = absurd (omega (arith, l, m))
    short l (is_good m f g) = absurd (omega (arith, l, m))
