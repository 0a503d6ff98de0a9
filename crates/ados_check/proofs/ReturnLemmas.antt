-- Findings that speak of a carriage return, of which one is kept.
use Rattle.std.proofs.Common.{ℕ, ◌≡◌, ◌∙◌, ◌==◌, ◌||◌, List, [], ◌∷◌, Bool, true, false, not, cond, Option, Some, None, refl, ap, sym, subst}
use Rattle.std.specs.List.{filter, find, list_any}
use Rattle.std.specs.Option.{option_map}
use Rattle.std.proofs.lemmas.Bool.{eq-eqb}
use Rattle.ados_check.specs.declared.findings.Finding.{Finding}
use Rattle.ados_check.specs.Problems.{refuses_return, speaks_of_return}
use Rattle.ados_check.specs.Returns.{is_kept, merged, with_return_of}

abbrev is-other : Finding → Bool
is-other one = not (speaks_of_return one.problem)

abbrev is-refused : Finding → Bool
is-refused one = refuses_return one.problem

others-test : (here speaks : Bool) (one : Finding) (kept all : List Finding) → speaks_of_return one.problem ≡ speaks → filter is-other kept ≡ filter is-other all
    → filter is-other (cond (here || not speaks) (one ∷ kept) kept) ≡ filter is-other (one ∷ all)
others-test true true one kept all is same = rw is same
others-test false true one kept all is same = rw is same
others-test true false one kept all is same = rw is (ap (λ l. one ∷ l) same)
others-test false false one kept all is same = rw is (ap (λ l. one ∷ l) same)

others-kept : (line : ℕ) (found : List Finding) → filter is-other (filter (is_kept line) found) ≡ filter is-other found
others-kept line [] = refl
others-kept line (one ∷ found) =
    others-test (one.line == line) (speaks_of_return one.problem) one (filter (is_kept line) found) found refl (others-kept line found)

-- what speaks of something else stays
pub others_merged : (found : List Finding) → filter (λ one. not (speaks_of_return one.problem)) (merged found) ≡ filter (λ one. not (speaks_of_return one.problem)) found
others_merged found = by (option_map (λ (one : Finding). one.line) (find is-refused found))
  where
    by : (line : Option ℕ) → filter is-other (with_return_of line found) ≡ filter is-other found
    by None = refl
    by (Some line) = others-kept line found

any-found : (found : List Finding) (one : Finding) → find is-refused found ≡ Some one → list_any is-refused found ≡ true
any-found [] one e = cc
any-found (x ∷ found) one e = by (is-refused x) (λ rest. any-found found one rest) e
  where
    by : (b : Bool) → (find is-refused found ≡ Some one → list_any is-refused found ≡ true) → cond b (Some x) (find is-refused found) ≡ Some one
        → (b || list_any is-refused found) ≡ true
    by true rest e = refl
    by false rest e = rest e

any-past : (kept : Bool) (x : Finding) (rest : List Finding) → is-refused x ≡ false → list_any is-refused rest ≡ true → list_any is-refused (cond kept (x ∷ rest) rest) ≡ true
any-past true x rest is any = rw is any
any-past false x rest is any = any

-- the first that refuses one is kept
first-kept : (found : List Finding) (one : Finding) → find is-refused found ≡ Some one → list_any is-refused (filter (is_kept one.line) found) ≡ true
first-kept [] one e = cc
first-kept (x ∷ found) one e = by (is-refused x) refl (λ rest. first-kept found one rest) e
  where
    by : (b : Bool) → is-refused x ≡ b → (find is-refused found ≡ Some one → list_any is-refused (filter (is_kept one.line) found) ≡ true)
        → cond b (Some x) (find is-refused found) ≡ Some one → list_any is-refused (filter (is_kept one.line) (x ∷ found)) ≡ true
    by true is rest e =
        let same : x ≡ one = cc in
        subst (λ (o : Finding). list_any is-refused (filter (is_kept o.line) (x ∷ found)) ≡ true) same (rw (eq-eqb x.line x.line refl, is) refl)
    by false is rest e = any-past (is_kept one.line x) x (filter (is_kept one.line) found) is (rest e)

pub refused_merged : (found : List Finding) → list_any (λ one. refuses_return one.problem) (merged found) ≡ list_any (λ one. refuses_return one.problem) found
refused_merged found = by (find is-refused found) refl
  where
    by : (first : Option Finding) → find is-refused found ≡ first
        → list_any is-refused (with_return_of (option_map (λ (one : Finding). one.line) first) found) ≡ list_any is-refused found
    by None e = refl
    by (Some one) e = first-kept found one e ∙ sym (any-found found one e)

-- what is kept of a line, if that is the first that refuses one
pub is_merged : (found slice new : List Finding) (first : Option ℕ) (line : ℕ) → slice ≡ found
    → first ≡ option_map (λ one. one.line) (find (λ one. refuses_return one.problem) slice) → first ≡ Some line → new ≡ filter (is_kept line) found → new ≡ merged found
is_merged found slice new first line same is some kept =
    let at : option_map (λ (one : Finding). one.line) (find is-refused found) ≡ Some line =
    subst (λ f. option_map (λ (one : Finding). one.line) (find is-refused f) ≡ Some line) same (sym is ∙ some) in
    kept ∙ ap (λ l. with_return_of l found) (sym at)
