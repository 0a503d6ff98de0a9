-- What a search finds stands in others, and what it does not find does not.
use Rattle.std.proofs.Common.{◌≡◌, ℕ, true, false, [], ◌∷◌, ◌+◌, ◌≤◌, ◌++◌, ◌||◌, ◌&&◌, T, length, take, drop, Option, None, Some, is_some, sym, ap, ◌∙◌, nat_eq, nat_le, arith, ⊎_elim}
use Rattle.std.proofs.Math.Seq.{take-append_seam, drop-append_seam}
use Rattle.std.proofs.Math.Bool.{or-true}
use Rattle.std.proofs.lemmas.Bool.{cases_Bool}
use Rattle.std.proofs.lemmas.List.{length-append, take-append-drop}
use Rattle.std.proofs.lemmas.Slice.Eq.{bytes_eq-Decides}
use Rattle.std.specs.List.{starts_with}
use Rattle.memchr.specs.Find.{OccursAt, FindsNeedle}
use Rattle.memchr.proofs.lemmas.MatchLemmas.{OccursAt-split, OccursAt-from_part}
use Rattle.ados_text.specs.Text.{Bytes}
use Rattle.ados_share.specs.Around.{stands_in, is_within}

-- the bytes before some that stand in others, and those after them
record Stands (part all : Bytes) : Type 0 where
  before : Bytes
  after : Bytes
  is : all ≡ before ++ (part ++ after)

begins : (part all : Bytes) → starts_with nat_eq all part ≡ true → stands_in part all ≡ true
begins part [] h = h
begins part (b ∷ all) h = ap (λ t. t || stands_in part all) h

yes : (before part after : Bytes) → stands_in part (before ++ (part ++ after)) ≡ true
yes [] part after = begins part (part ++ after) ((bytes_eq-Decides part _).1 (sym (take-append_seam part after)))
yes (b ∷ before) part after = ap (λ t. starts_with nat_eq (b ∷ (before ++ (part ++ after))) part || t) (yes before part after) ∙ or-true _

at-first : (part all : Bytes) → starts_with nat_eq all part ≡ true → Stands part all
at-first part all h = record {
  before = [];
  after = drop (length part) all;
  is = sym (take-append-drop (length part) all) ∙ ap (λ (first : Bytes). first ++ drop (length part) all) (sym ((bytes_eq-Decides part (take (length part) all)).0 h));
}

later : (b : ℕ) (part all : Bytes) → Stands part all → Stands part (b ∷ all)
later b part all s = record { before = b ∷ s.before; after = s.after; is = ap (λ (l : Bytes). b ∷ l) s.is }

stands : (part all : Bytes) → stands_in part all ≡ true → Stands part all
stands part [] h = at-first part [] h
stands part (b ∷ all) h =
    ⊎_elim (λ t. at-first part (b ∷ all) t)
    (λ f. later b part all (stands part all (sym (ap (λ t. t || stands_in part all) f) ∙ h)))
    (cases_Bool (starts_with nat_eq (b ∷ all) part))

fits : (b p a all : Bytes) → all ≡ b ++ (p ++ a) → length b + length p ≤ length all
fits b p a all e =
    let whole : length all ≡ length b + length (p ++ a) = ap length e ∙ length-append b (p ++ a) in
    let rest : length (p ++ a) ≡ length p + length a = length-append p a in
    omega (arith, whole, rest)

there : (part all : Bytes) (s : Stands part all) → OccursAt all part (length s.before)
there part all s =
    OccursAt-from_part all part (length s.before) (fits s.before part s.after all s.is)
    (ap (λ (l : Bytes). take (length part) (drop (length s.before) l)) s.is
    ∙ ap (take (length part)) (drop-append_seam s.before (part ++ s.after)) ∙ take-append_seam part s.after)

occurs : (part all : Bytes) (k : ℕ) → OccursAt all part k → stands_in part all ≡ true
occurs part all k here =
    ap (stands_in part) (sym (take-append-drop k all) ∙ ap (λ (rest : Bytes). take k all ++ rest) (OccursAt-split all part k here))
    ∙ yes (take k all) part (drop (k + length part) all)

nowhere : (part all : Bytes) → FindsNeedle all part 0 None → stands_in part all ≡ true → T false
nowhere part all finds h =
    let s = stands part all h in
    let within = fits s.before part s.after all s.is in
    absurd (finds (length s.before) (omega arith) (omega (arith, within)) (there part all s))

found : (part all : Bytes) (r : Option ℕ) → FindsNeedle all part 0 r → is_some r ≡ stands_in part all
found part all None finds = ⊎_elim (λ t. absurd (nowhere part all finds t)) (λ f. sym f) (cases_Bool (stands_in part all))
found part all (Some k) finds = sym (occurs part all k finds.1)

pub first : (part all : Bytes) → starts_with nat_eq all part ≡ true → true ≡ is_within part all
first part all h = sym (ap (λ t. t || (nat_le 16 (length part) && stands_in part all)) h)

pub few : (part all : Bytes) → starts_with nat_eq all part ≡ false → nat_le 16 (length part) ≡ false → false ≡ is_within part all
few part all h less = sym (ap (λ t. t || (nat_le 16 (length part) && stands_in part all)) h ∙ ap (λ t. t && stands_in part all) less)

pub many : (part all : Bytes) (r : Option ℕ) → starts_with nat_eq all part ≡ false → nat_le 16 (length part) ≡ true → FindsNeedle all part 0 r → is_some r ≡ is_within part all
many part all r h more finds =
    found part all r finds
    ∙ sym (ap (λ t. t || (nat_le 16 (length part) && stands_in part all)) h ∙ ap (λ t. t && stands_in part all) more)
