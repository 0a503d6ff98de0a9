-- What errors say of their lines.
use Rattle.std.proofs.Common.{ℕ, zero, suc, ◌≡◌, ◌∙◌, ◌==◌, ◌&&◌, ◌||◌, ◌-◌, ◌<◌, List, [], ◌∷◌, ◌++◌, Bool, true, false, cond, Option, Some, None, refl, ap, subst, arith, length, slice_index, slice_index_or}
use Rattle.std.specs.Prelude.{IfSome}
use Rattle.std.specs.List.{All, filter, find, flat_map, list_any}
use Rattle.std.specs.Option.{option_or}
use Rattle.std.proofs.lemmas.Bool.{both_ways, eq-eqb, eqb-true}
use Rattle.std.proofs.lemmas.List.Elements.{All-nil, All-push}
use Rattle.std.proofs.lemmas.List.Folds.{list_any-append}
use Rattle.ados_text.specs.Lines.{lines_of}
use Rattle.ados_text.specs.Text.{Bytes, Text, is_past_ascii}
use Rattle.ados_line.specs.Comment.{without_comment}
use Rattle.ados_resident.specs.declared.dialects.Dialect.{Dialect}
use Rattle.ados_check.specs.declared.directives.Sample.{Sample}
use Rattle.ados_check.specs.declared.directives.Sample.TheVariants.{Bad}
use Rattle.ados_check.specs.Directives.{IfBad, IsNeverCalled}
use Rattle.ados_check.specs.Errors.{AreAlwaysSo, AreSo, AreSoWith, AreSoWithFound, EndsInReturn, IsAlwaysSound, IsSignOf, IsSo, IsSound, SaysOfBytes, SaysSo, StaySo}
use Rattle.ados_check.specs.Signs.{end_return, file_line, first_sign, is_at, is_dotted, is_remark, is_return, line_at, listed, sign_of, signs_at, signs_told, told_sign}
use Rattle.ados_check.specs.declared.findings.Finding.{Finding}
use Rattle.ados_check.specs.declared.findings.Problem.{Problem}
use Rattle.ados_check.specs.declared.findings.Problem.TheVariants as problem

-- one more problem, of which what it says is so
pub one_so : (dialect : Dialect) (lines : List Text) (found : List Finding) (line : ℕ) (what : Problem)
    → AreSo dialect lines found → SaysSo dialect lines line what → AreSo dialect lines (found ++ record { line = line; problem = what } ∷ [])
one_so dialect lines found line what are is = All-push (λ (one : Finding). SaysSo dialect lines one.line one.problem) found (record { line = line; problem = what }) are is

-- of a problem with a sign nothing more is said
pub sign_so : (dialect : Dialect) (lines : List Text) (line byte : ℕ) (what : Problem) → told_sign what ≡ Some byte → SaysSo dialect lines line what
sign_so dialect lines line byte (problem.LongLine count) e = cc
sign_so dialect lines line byte (problem.Line fault) e = cc
sign_so dialect lines line byte (problem.Arguments command template fault) e = cc
sign_so dialect lines line byte problem.BadDirective e = cc
sign_so dialect lines line byte (problem.NoLab label) e = cc
sign_so dialect lines line byte problem.ElseWithoutEndIf e = cc
sign_so dialect lines line byte problem.FlatCopy e = cc
sign_so dialect lines line byte other e = tt

-- one that is found
pub found_so : (number : ℕ) (found : Option Problem) (what : Problem) (old new : List Finding) → found ≡ Some what → AreSoWith number what old new → AreSoWithFound number found old new
found_so number found what old new is more dialect lines are holds = more dialect lines are (subst (λ one. IfSome one (IsSound dialect lines number)) is holds).1

pub sound_told : (dialect : Dialect) (lines : List Text) (number : ℕ) (found : Option Problem) → IfSome found (IsSound dialect lines number) → IfSome found (λ what. told_sign what ≡ None)
sound_told dialect lines number None holds = tt
sound_told dialect lines number (Some what) holds = holds.0

pub stay_so : (old new : List Finding) → AreAlwaysSo old → StaySo old new → AreAlwaysSo new
stay_so old new always stay dialect lines = stay dialect lines (always dialect lines)

pub stay_again : (first old new : List Finding) → StaySo first old → StaySo old new → StaySo first new
stay_again first old new one two dialect lines are = two dialect lines (one dialect lines are)

-- a bad directive
pub bad_so : (dialect : Dialect) (lines : List Text) (sample : Sample) (line : ℕ) (old new : List Finding) → IfBad sample (IsNeverCalled lines) → sample ≡ Bad line
    → AreSoWith line problem.BadDirective old new → AreSo dialect lines old → AreSo dialect lines new
bad_so dialect lines sample line old new holds is more are = more dialect lines are (subst (λ one. IfBad one (IsNeverCalled lines)) is holds)

pub same_so : (one dialect : Dialect) (others lines : List Text) (old new : List Finding) → one ≡ dialect → others ≡ lines → (AreSo one others old → AreSo one others new)
    → AreSo dialect lines old → AreSo dialect lines new
same_so one dialect others lines old new same alike stay =
    subst (λ d. AreSo d lines old → AreSo d lines new) same (subst (λ l. AreSo one l old → AreSo one l new) alike stay)

-- one of which nothing is said
pub note_so : (number : ℕ) (what : Problem) (old new : List Finding) → IsAlwaysSound number what → AreSoWith number what old new → StaySo old new
note_so number what old new quiet more dialect lines are = more dialect lines are (quiet dialect lines).1

abbrev Has : ℕ → List ℕ → Type 0
Has byte bytes = list_any (λ b. b == byte) bytes ≡ true

is-itself : (n : ℕ) → (n == n) ≡ true
is-itself n = eq-eqb n n refl

or-after : (a b : Bool) → b ≡ true → (a || b) ≡ true
or-after true b e = refl
or-after false b e = e

has-after : (byte : ℕ) (front bytes : List ℕ) → Has byte bytes → Has byte (front ++ bytes)
has-after byte front bytes has = list_any-append (λ b. b == byte) front bytes ∙ or-after (list_any (λ b. b == byte) front) (list_any (λ b. b == byte) bytes) has

has-first : (byte : ℕ) (told : Option ℕ) (bytes : List ℕ) → told ≡ Some byte → Has byte (listed told ++ bytes)
has-first byte None bytes e = cc
has-first byte (Some b) bytes e = let same : b ≡ byte = cc in ap (λ test. test || list_any (λ c. c == byte) bytes) (eq-eqb b byte same)

here-told : (b : Bool) (one : Finding) (rest : List Finding) (byte : ℕ) → b ≡ true → told_sign one.problem ≡ Some byte
    → Has byte (flat_map (λ (f : Finding). listed (told_sign f.problem)) (cond b (one ∷ rest) rest))
here-told true one rest byte at told = has-first byte (told_sign one.problem) (flat_map (λ (f : Finding). listed (told_sign f.problem)) rest) told
here-told false one rest byte at told = cc

later-told : (b : Bool) (one : Finding) (rest : List Finding) (byte : ℕ) → Has byte (flat_map (λ (f : Finding). listed (told_sign f.problem)) rest)
    → Has byte (flat_map (λ (f : Finding). listed (told_sign f.problem)) (cond b (one ∷ rest) rest))
later-told true one rest byte has = has-after byte (listed (told_sign one.problem)) (flat_map (λ (f : Finding). listed (told_sign f.problem)) rest) has
later-told false one rest byte has = has

-- a byte of which a finding speaks is among those of its line
told-at : (found : List Finding) (k : ℕ) (d : Finding) (byte : ℕ) → k < length found → told_sign (slice_index_or found k d).problem ≡ Some byte
    → Has byte (signs_told (slice_index_or found k d).line found)
told-at [] k d byte inside told = absurd (omega (arith, inside))
told-at (one ∷ found) zero d byte inside told = here-told (is_at one.line one) one (filter (is_at one.line) found) byte (is-itself one.line) told
told-at (one ∷ found) (suc k) d byte inside told =
    let line = (slice_index_or found k d).line in
    later-told (is_at line one) one (filter (is_at line) found) byte (told-at found k d byte (omega (arith, inside)) told)

only-one : (byte : ℕ) (sign : Option ℕ) → Has byte (listed sign) → listed sign ≡ byte ∷ []
only-one byte None has = cc
only-one byte (Some b) has = ap (λ c. c ∷ []) (same (b == byte) refl has)
  where
    same : (test : Bool) → (b == byte) ≡ test → (test || false) ≡ true → b ≡ byte
    same true is held = eqb-true b byte is
    same false is held = cc

only-at : (bytes : Bytes) (number byte : ℕ) → Has byte (signs_at bytes number) → signs_at bytes number ≡ byte ∷ []
only-at bytes zero byte has = cc
only-at bytes (suc k) byte has = only-one byte (sign_of (is_dotted bytes) (file_line bytes k)) has

if-some : (found : Option ℕ) (P : ℕ → Type 0) → ((byte : ℕ) → found ≡ Some byte → P byte) → IfSome found P
if-some None P holds = tt
if-some (Some byte) P holds = holds byte refl

past-found : (text : Bytes) (byte : ℕ) → find is_past_ascii text ≡ Some byte → is_past_ascii byte ≡ true
past-found [] byte e = cc
past-found (c ∷ cs) byte e = by (is_past_ascii c) refl (λ rest. past-found cs byte rest) e
  where
    by : (b : Bool) → is_past_ascii c ≡ b → (find is_past_ascii cs ≡ Some byte → is_past_ascii byte ≡ true) → cond b (Some c) (find is_past_ascii cs) ≡ Some byte
        → is_past_ascii byte ≡ true
    by true is rest e = let same : c ≡ byte = cc in subst (λ k. is_past_ascii k ≡ true) same is
    by false is rest e = rest e

both-hold : (a b : Bool) → cond {A = Option ℕ} (a && b) (Some 13) None ≡ Some 13 → (a ≡ true) × (b ≡ true)
both-hold true true e = (refl, refl)
both-hold true false e = cc
both-hold false b e = cc

ends-in : (line : Bytes) → end_return line (without_comment line) ≡ Some 13 → EndsInReturn line
ends-in line e =
    let both = both-hold (is_return (slice_index line (length line - 1))) (length (without_comment line) == length line) e in
    (eqb-true _ _ both.0, eqb-true _ _ both.1)

-- a sign 13 is no byte past ASCII
not-past : (line : Bytes) (found : Option ℕ) → find is_past_ascii (without_comment line) ≡ found
    → option_or found (end_return line (without_comment line)) ≡ Some 13 → EndsInReturn line
not-past line None is e = ends-in line e
not-past line (Some byte) is e =
    let same : byte ≡ 13 = cc in
    absurd (both_ways false refl (subst (λ k. is_past_ascii k ≡ true) same (past-found (without_comment line) byte is)))

returned : (bytes : Bytes) (number : ℕ) → signs_at bytes number ≡ 13 ∷ [] → EndsInReturn (line_at bytes number)
returned bytes zero e = cc
returned bytes (suc k) e = by (is_dotted bytes && is_remark line) e
  where
    line : Bytes
    line = file_line bytes k

    only : (sign : Option ℕ) → listed sign ≡ 13 ∷ [] → sign ≡ Some 13
    only None e = cc
    only (Some byte) e = let same : byte ≡ 13 = cc in ap Some same

    by : (b : Bool) → listed (cond b None (first_sign line (without_comment line))) ≡ 13 ∷ [] → EndsInReturn line
    by true e = cc
    by false e = not-past line (find is_past_ascii (without_comment line)) refl (only _ e)

of-bytes : (bytes : Bytes) (number : ℕ) (what : Problem) → IsSignOf bytes number what → SaysOfBytes (line_at bytes number) what
of-bytes bytes number (problem.EndReturn others) at = returned bytes number at
of-bytes bytes number (problem.PrintedReturn others) at = returned bytes number at
of-bytes bytes number other at = tt

-- what each of them says is so, if each sign is found of which they speak
pub all_so : (dialect : Dialect) (bytes : Bytes) (found : List Finding) → ((number : ℕ) → signs_told number found ≡ signs_at bytes number)
    → AreSo dialect (lines_of bytes) found → All (IsSo dialect bytes) found
all_so dialect bytes found signs are k d inside =
    let one = slice_index_or found k d in
    let sign = if-some (told_sign one.problem) (λ byte. signs_at bytes one.line ≡ byte ∷ [])
    (λ byte told. only-at bytes one.line byte (subst (Has byte) (signs one.line) (told-at found k d byte inside told))) in
    record { says = are k d inside; sign = sign; of_bytes = of-bytes bytes one.line one.problem sign }

pub none_so : (dialect : Dialect) (lines : List Text) → AreSo dialect lines []
none_so dialect lines = All-nil (λ (one : Finding). SaysSo dialect lines one.line one.problem)
