-- Of which lines it is told that they give an option that is left out.
use Rattle.std.proofs.Common.{ℕ, zero, suc, ◌+◌, ◌≡◌, ◌∙◌, ◌==◌, ◌&&◌, ◌||◌, List, [], ◌∷◌, ◌++◌, Bool, true, false, Some, None, length, map, take, refl, sym, ap, arith}
use Rattle.std.specs.Prelude.{slice_get}
use Rattle.std.specs.List.{list_any}
use Rattle.std.proofs.lemmas.Bool.{eqb-true}
use Rattle.std.proofs.lemmas.Bool.Decides.{nat_tests}
use Rattle.std.proofs.lemmas.List.{take_all}
use Rattle.std.proofs.lemmas.List.Folds.{list_any-append}
use Rattle.ados_text.specs.Text.{Text}
use Rattle.ados_resident.specs.declared.dialects.Dialect.{Dialect}
use Rattle.ados_vars.specs.Vars.{Pairs}
use Rattle.ados_script.specs.Lines.{is_some_and, line_of}
use Rattle.ados_check.specs.LeftOut.{StayTold, TellsEach, TellsLeftOut, ToldTheSame, ToldWith, gives_at, gives_left_out, has_any, is_left_out, is_told}
use Rattle.ados_check.specs.Signs.{is_at, told_sign}
use Rattle.ados_check.specs.Table.{AreReleaseTwo}
use Rattle.ados_check.specs.declared.release_two.Command.{Command}
use Rattle.ados_check.specs.declared.findings.Finding.{Finding}
use Rattle.ados_check.specs.declared.findings.Problem.{Problem}
use Rattle.ados_check.specs.declared.findings.Problem.TheVariants as problem

or-none : (b : Bool) → (b || false) ≡ b
or-none true = refl
or-none false = refl

and-none : (b : Bool) → (b && false) ≡ false
and-none true = refl
and-none false = refl

-- one more finding
pub told_one : (old new : List Finding) (line : ℕ) (what : Problem) → new ≡ old ++ record { line = line; problem = what } ∷ [] → ToldWith line (is_left_out what) old new
told_one old new line what pushed number =
    let p : Finding → Bool = λ one. is_at number one && is_left_out one.problem in
    ap (list_any p) pushed ∙ list_any-append p old (record { line = line; problem = what } ∷ []) ∙ ap (λ b. is_told number old || b) (or-none (line == number && is_left_out what))

-- one that is told of nothing more
pub told_other : (old new : List Finding) (line : ℕ) (what : Problem) → is_left_out what ≡ false → ToldWith line (is_left_out what) old new → ToldTheSame old new
told_other old new line what other told number =
    told number ∙ ap (λ b. is_told number old || (line == number && b)) other ∙ ap (λ b. is_told number old || b) (and-none (line == number)) ∙ or-none (is_told number old)

-- a sign is none
pub sign_other : (what : Problem) (byte : ℕ) → told_sign what ≡ Some byte → is_left_out what ≡ false
sign_other (problem.LeftOut options) byte e = cc
sign_other other byte e = refl

pub none_told : (old new : List Finding) → ((number : ℕ) → is_told number old ≡ false) → ToldTheSame old new → (number : ℕ) → is_told number new ≡ false
none_told old new none same number = same number ∙ none number

-- nothing, and then one or more of a line
pub told_itself : (line : ℕ) (found : List Finding) → ToldWith line false found found
told_itself line found number = sym (ap (λ b. is_told number found || b) (and-none (line == number)) ∙ or-none (is_told number found))

both-told : (a at b : Bool) → ((a || (at && b)) || (at && true)) ≡ (a || (at && true))
both-told true at b = refl
both-told false true true = refl
both-told false true false = refl
both-told false false b = refl

pub told_again : (line : ℕ) (b : Bool) (first old new : List Finding) → ToldWith line b first old → ToldWith line true old new → ToldWith line true first new
told_again line b first old new one two number =
    two number ∙ ap (λ t. t || (line == number && true)) (one number) ∙ both-told (is_told number first) (line == number) b

pub any_shown : {A B : Type 0} (f : A → B) (xs : List A) → has_any (map f xs) ≡ has_any xs
any_shown f [] = refl
any_shown f (x ∷ xs) = refl

pub any_pushed : {A : Type 0} (xs : List A) (x : A) → has_any (xs ++ x ∷ []) ≡ true
any_pushed [] x = refl
any_pushed (y ∷ ys) x = refl

-- the lines up to one
same-get : {A : Type 0} (lines : List A) (place : ℕ) → slice_get (take (suc place) lines) place ≡ slice_get lines place
same-get [] place = refl
same-get (x ∷ xs) zero = refl
same-get (x ∷ xs) (suc place) = same-get xs place

past-get : {A : Type 0} (lines : List A) (place : ℕ) → slice_get (take place lines) place ≡ None
past-get [] zero = refl
past-get [] (suc place) = refl
past-get (x ∷ xs) zero = refl
past-get (x ∷ xs) (suc place) = past-get xs place

other-get : {A : Type 0} (lines : List A) (place k : ℕ) → (k ≡ place → ⊥) → slice_get (take (suc place) lines) k ≡ slice_get (take place lines) k
other-get [] zero k other = refl
other-get [] (suc place) k other = refl
other-get (x ∷ xs) zero zero other = absurd (other refl)
other-get (x ∷ xs) zero (suc k) other = refl
other-get (x ∷ xs) (suc place) zero other = refl
other-get (x ∷ xs) (suc place) (suc k) other = other-get xs place k (λ e. other (ap suc e))

abbrev pub Tells : {A : Type 0} → (A → Bool) → List A → List Finding → ℕ → Type 0
Tells test lines found number = is_told number found ≡ is_some_and test (line_of lines number)

pub told_more : {A : Type 0} (test : A → Bool) (lines : List A) (place : ℕ) (text : A) (old new : List Finding) → slice_get lines place ≡ Some text
    → ((number : ℕ) → Tells test (take place lines) old number) → ToldWith (place + 1) (test text) old new → (number : ℕ) → Tells test (take (place + 1) lines) new number
told_more test lines place text old new is before told zero =
    let never : ((place + 1) == 0) ≡ false = grind (arith, nat_tests) in
    told zero ∙ ap (λ b. b || (((place + 1) == 0) && test text)) (before zero) ∙ ap (λ b. b && test text) never
told_more test lines place text old new is before told (suc k) = by ((place + 1) == suc k) refl
  where
    next : place + 1 ≡ suc place
    next = omega arith

    by : (b : Bool) → ((place + 1) == suc k) ≡ b → Tells test (take (place + 1) lines) new (suc k)
    by true e =
        let same : k ≡ place = omega (arith, eqb-true _ _ e) in
        let before-is = before (suc k) ∙ ap (λ j. is_some_and test (slice_get (take place lines) j)) same ∙ ap (is_some_and test) (past-get lines place) in
        told (suc k) ∙ ap (λ t. t || (((place + 1) == suc k) && test text)) before-is ∙ ap (λ t. t && test text) e
        ∙ sym (ap (λ j. is_some_and test (slice_get (take (place + 1) lines) j)) same ∙ ap (λ n. is_some_and test (slice_get (take n lines) place)) next
        ∙ ap (is_some_and test) (same-get lines place ∙ is))
    by false e =
        let other : k ≡ place → ⊥ = λ same. differs same e in
        told (suc k) ∙ ap (λ t. is_told (suc k) old || (t && test text)) e ∙ or-none (is_told (suc k) old) ∙ before (suc k)
        ∙ sym (ap (λ n. is_some_and test (slice_get (take n lines) k)) next ∙ ap (is_some_and test) (other-get lines place k other))
      where
        differs : k ≡ place → ((place + 1) == suc k) ≡ false → ⊥
        differs same e = grind (arith, nat_tests)

pub told_all : {A : Type 0} (test : A → Bool) (lines : List A) (count : ℕ) (found : List Finding) → count ≡ length lines
    → ((number : ℕ) → Tells test (take count lines) found number) → (number : ℕ) → Tells test lines found number
told_all test lines count found e told number = told number ∙ ap (λ ls. is_some_and test (line_of ls number)) (ap (λ n. take n lines) e ∙ take_all (length lines) lines (omega arith))

-- at the end, of all lines
pub told_at_last : (commands : List Command) (one dialect : Dialect) (others aliases : Pairs) (lines : List Text) (count : ℕ) (old new : List Finding)
    → AreReleaseTwo commands → one ≡ dialect → others ≡ aliases → count ≡ length lines
    → ((number : ℕ) → is_told number old ≡ gives_at commands one others (take count lines) number) → ToldTheSame old new → TellsLeftOut dialect aliases lines new
told_at_last commands one dialect others aliases lines count old new are p q e told same = (
  commands,
  are,
  λ number.
      same number ∙ told_all (gives_left_out commands one others) lines count old e told number
      ∙ ap (λ d. gives_at commands d others lines number) p ∙ ap (λ a. gives_at commands dialect a lines number) q,
)

-- what was told stays
pub told_stays : (line : ℕ) (b : Bool) (old new : List Finding) → ToldWith line b old new → StayTold old new
told_stays line b old new told number is = told number ∙ ap (λ t. t || (line == number && b)) is

pub stays_itself : (found : List Finding) → StayTold found found
stays_itself found number is = is

pub stays_again : (first old new : List Finding) → StayTold first old → StayTold old new → StayTold first new
stays_again first old new one two number is = two number (one number is)

pub each_told : (dialect : Dialect) (aliases : Pairs) (others lines : List Text) (old found new : List Finding) → aliases ≡ [] → others ≡ lines
    → TellsLeftOut dialect aliases others old → StayTold old found → ToldTheSame found new → TellsEach dialect lines new
each_told dialect aliases others lines old found new none e tells stay same = (
  tells.0,
  tells.1,
  λ number gives.
      same number
      ∙ stay number
      (tells.2 number ∙ ap (λ ps. gives_at tells.0 dialect ps others number) none ∙ ap (λ ls. gives_at tells.0 dialect [] ls number) e ∙ gives),
)
