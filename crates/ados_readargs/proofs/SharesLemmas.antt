-- each plain word is taken by one option, in the order of the line
use Rattle.std.proofs.Common.{ℕ, zero, suc, ◌≡◌, ◌+◌, ◌-◌, ◌<◌, ◌≤◌, nat_lt, List, [], ◌∷◌, ◌++◌, Bool, true, false, ◌&&◌, ◌||◌, not, Option, Some, None, if◌then◌else◌, length, take, drop, get_or, refl, ap, sym, ◌∙◌, append-nil, arith}
use Rattle.std.proofs.Math.Seq.{take-add}
use Rattle.std.proofs.lemmas.List.{take_more, drop_more, length-take-le, take_all, drop_all}
use Rattle.std.proofs.lemmas.Option.{slice_get-get_or}
use Rattle.std.proofs.lemmas.Bool.Decides.{nat_tests}
use Rattle.ados_items.specs.declared.items.Item.{Item}
use Rattle.ados_readargs.specs.declared.options.Qualifiers.{Qualifiers}
use Rattle.ados_readargs.specs.declared.options.TemplateOption.{TemplateOption}
use Rattle.ados_readargs.specs.declared.readings.Reading.{Reading}
use Rattle.ados_readargs.specs.Readings.{Readings, is_vacant}
use Rattle.ados_readargs.specs.Options.{no_qualifiers, qualifiers_of, option_qualifiers}
use Rattle.ados_readargs.specs.Shares.{vacant_count, front_share, middle_share, back_share, option_share, first_shares}

abbrev no_option : TemplateOption
no_option = record { names = []; qualifiers = no_qualifiers }

-- how much an option counts
abbrev counted : Bool → ℕ → Qualifiers → List Reading → ℕ
counted needed place q given = if is_vacant place q given && (not needed || q.required) then 1 else 0

count-append : (needed : Bool) (place : ℕ) (xs ys : List TemplateOption) (given : List Reading)
    → vacant_count needed place (xs ++ ys) given ≡ vacant_count needed place xs given + vacant_count needed (place + length xs) ys given
count-append needed place [] ys given =
    let moved : vacant_count needed (place + 0) ys given ≡ vacant_count needed place ys given = ap (λ p. vacant_count needed p ys given) (omega arith) in
    omega (arith, moved)
count-append needed place (x ∷ xs) ys given =
    let h = count-append needed (place + 1) xs ys given in
    let moved : vacant_count needed (place + 1 + length xs) ys given ≡ vacant_count needed (place + length (x ∷ xs)) ys given = ap (λ p. vacant_count needed p ys given) (omega arith) in
    omega (arith, h, moved)

qualifiers-at : (options : List TemplateOption) (n : ℕ) → n < length options → option_qualifiers options n ≡ (get_or options n no_option).qualifiers
qualifiers-at options n h = ap qualifiers_of (slice_get-get_or options n no_option h)

front-more : (options : List TemplateOption) (given : List Reading) (n : ℕ) → n < length options
    → vacant_count false 0 (take (n + 1) options) given ≡ vacant_count false 0 (take n options) given + counted false n (option_qualifiers options n) given
front-more options given n h =
    let e1 : vacant_count false 0 (take (n + 1) options) given ≡ vacant_count false 0 (take n options ++ get_or options n no_option ∷ []) given = ap (λ os. vacant_count false 0 os given) (take_more options n no_option h) in
    let e2 = count-append false 0 (take n options) (get_or options n no_option ∷ []) given in
    let long : length (take n options) ≡ n = length-take-le n options (omega arith) in
    let e3 : vacant_count false (0 + length (take n options)) (get_or options n no_option ∷ []) given ≡ vacant_count false n (get_or options n no_option ∷ []) given = ap (λ p. vacant_count false p (get_or options n no_option ∷ []) given) (omega (arith, long)) in
    let e4 : counted false n (get_or options n no_option).qualifiers given ≡ counted false n (option_qualifiers options n) given = ap (λ q. counted false n q given) (sym (qualifiers-at options n h)) in
    omega (arith, e1, e2, e3, e4)

back-less : (options : List TemplateOption) (given : List Reading) (n : ℕ) → n < length options
    → vacant_count true n (drop n options) given ≡ counted true n (option_qualifiers options n) given + vacant_count true (n + 1) (drop (n + 1) options) given
back-less options given n h =
    let e1 : vacant_count true n (drop n options) given ≡ vacant_count true n (get_or options n no_option ∷ drop (n + 1) options) given = ap (λ os. vacant_count true n os given) (drop_more options n no_option h) in
    let e4 : counted true n (get_or options n no_option).qualifiers given ≡ counted true n (option_qualifiers options n) given = ap (λ q. counted true n q given) (sym (qualifiers-at options n h)) in
    omega (arith, e1, e4)

-- one more word, if there is one
one-more : (more : Bool) (k n : ℕ) (plain : List Item) → n ≡ k + (if more then 1 else 0)
    → take k plain ++ (if more then take 1 (drop k plain) else []) ≡ take n plain
one-more true k n plain e = let same : k + 1 ≡ n = omega (arith, e) in sym (take-add k 1 plain) ∙ ap (λ i. take i plain) same
one-more false k n plain e = let same : k ≡ n = omega (arith, e) in append-nil (take k plain) ∙ ap (λ i. take i plain) same

front-counted : (v r : Bool) (a b : ℕ) → a ≡ b + (if v && (not false || r) then 1 else 0) → a ≡ b + (if v then 1 else 0)
front-counted true r a b e = e
front-counted false r a b e = e

front-step : (options : List TemplateOption) (readings : Readings) (n : ℕ) → n < length options
    → take (vacant_count false 0 (take n options) readings.given) readings.plain ++ front_share options readings n ≡ take (vacant_count false 0 (take (n + 1) options) readings.given) readings.plain
front-step options readings n h =
    let vacant = is_vacant n (option_qualifiers options n) readings.given in
    one-more vacant (vacant_count false 0 (take n options) readings.given) _ readings.plain
    (front-counted vacant (option_qualifiers options n).required _ _ (front-more options readings.given n h))

-- the first options take the first words
to-front-none : (options : List TemplateOption) (readings : Readings) (n : ℕ) → n ≤ length options
    → first_shares None n options readings ≡ take (vacant_count false 0 (take n options) readings.given) readings.plain
to-front-none options readings zero h = refl
to-front-none options readings (suc n) h =
    let e : n + 1 ≡ suc n = omega arith in
    ap (λ s. s ++ front_share options readings n) (to-front-none options readings n (omega arith))
    ∙ front-step options readings n (omega arith) ∙ ap (λ i. take (vacant_count false 0 (take i options) readings.given) readings.plain) e

share-front : (m n : ℕ) (options : List TemplateOption) (readings : Readings) → n < m
    → option_share (Some m) options readings n ≡ front_share options readings n
share-front m n options readings h = grind (arith, nat_tests, h)

share-middle : (m : ℕ) (options : List TemplateOption) (readings : Readings)
    → option_share (Some m) options readings m ≡ middle_share options readings m
share-middle m options readings = grind (arith, nat_tests)

share-back : (m n : ℕ) (options : List TemplateOption) (readings : Readings) → m < n
    → option_share (Some m) options readings n ≡ back_share options readings m n
share-back m n options readings h = grind (arith, nat_tests, h)

to-front-some : (m : ℕ) (options : List TemplateOption) (readings : Readings) (n : ℕ) → m < length options → n ≤ m
    → first_shares (Some m) n options readings ≡ take (vacant_count false 0 (take n options) readings.given) readings.plain
to-front-some m options readings zero w h = refl
to-front-some m options readings (suc n) w h =
    let e : n + 1 ≡ suc n = omega arith in
    ap (λ s. s ++ option_share (Some m) options readings n) (to-front-some m options readings n w (omega arith))
    ∙ ap (λ s. take (vacant_count false 0 (take n options) readings.given) readings.plain ++ s) (share-front m n options readings (omega arith))
    ∙ front-step options readings n (omega arith) ∙ ap (λ i. take (vacant_count false 0 (take i options) readings.given) readings.plain) e

shares-more : (mo : Option ℕ) (options : List TemplateOption) (readings : Readings) (n k : ℕ) → n ≡ suc k
    → first_shares mo n options readings ≡ first_shares mo k options readings ++ option_share mo options readings k
shares-more mo options readings n k e = ap (λ i. first_shares mo i options readings) e

back-last : (b : Bool) (front after count : ℕ) (plain : List Item) → nat_lt after (length plain - front) ≡ b → count ≡ 1 + after
    → take (front + (length plain - front - count)) plain ++ (if b then take 1 (drop (length plain - 1 - after) plain) else [])
    ≡ take (front + (length plain - front - after)) plain
back-last true front after count plain t e =
    let below : after < length plain - front = grind (arith, nat_tests, t) in
    let e1 : front + (length plain - front - count) ≡ length plain - 1 - after = omega arith in
    let e2 : length plain - 1 - after + 1 ≡ front + (length plain - front - after) = omega arith in
    ap (λ i. take i plain ++ take 1 (drop (length plain - 1 - after) plain)) e1
    ∙ sym (take-add (length plain - 1 - after) 1 plain) ∙ ap (λ i. take i plain) e2
back-last false front after count plain t e =
    let past : length plain - front ≤ after = grind (arith, nat_tests, t) in
    let e1 : front + (length plain - front - count) ≡ front + (length plain - front - after) = omega arith in
    append-nil _ ∙ ap (λ i. take i plain) e1

back-words : (v r : Bool) (front after count : ℕ) (plain : List Item) → count ≡ (if v && (not true || r) then 1 else 0) + after
    → take (front + (length plain - front - count)) plain
    ++ (if v && (r && nat_lt after (length plain - front)) then take 1 (drop (length plain - 1 - after) plain) else [])
    ≡ take (front + (length plain - front - after)) plain
back-words false r front after count plain e =
    let same : count ≡ after = omega (arith, e) in
    append-nil _ ∙ ap (λ i. take (front + (length plain - front - i)) plain) same
back-words true false front after count plain e =
    let same : count ≡ after = omega (arith, e) in
    append-nil _ ∙ ap (λ i. take (front + (length plain - front - i)) plain) same
back-words true true front after count plain e = back-last (nat_lt after (length plain - front)) front after count plain refl e

-- after the /M, all words are taken except those of the options still to come
abbrev kept : ℕ → ℕ → List TemplateOption → Readings → List Item
kept m n options readings =
    let front = vacant_count false 0 (take m options) readings.given in
    take (front + (length readings.plain - front - vacant_count true n (drop n options) readings.given)) readings.plain

to-back : (m : ℕ) (options : List TemplateOption) (readings : Readings) (j n : ℕ) → m < length options
    → n ≡ m + 1 + j → n ≤ length options → first_shares (Some m) n options readings ≡ kept m n options readings
to-back m options readings zero n w e h =
    let front = vacant_count false 0 (take m options) readings.given in
    let e1 : m + 1 ≡ n = omega arith in
    shares-more (Some m) options readings n m (omega arith)
    ∙ ap (λ s. s ++ option_share (Some m) options readings m) (to-front-some m options readings m w (omega arith))
    ∙ ap (λ s. take front readings.plain ++ s) (share-middle m options readings)
    ∙ sym (take-add front (length readings.plain - front - vacant_count true (m + 1) (drop (m + 1) options) readings.given) readings.plain)
    ∙ ap (λ i. kept m i options readings) e1
to-back m options readings (suc j) n w e h =
    let k = m + 1 + j in
    let e1 : k + 1 ≡ n = omega arith in
    shares-more (Some m) options readings n k (omega arith)
    ∙ ap (λ s. s ++ option_share (Some m) options readings k) (to-back m options readings j k w refl (omega arith))
    ∙ ap (λ s. kept m k options readings ++ s) (share-back m k options readings (omega arith))
    ∙ back-words (is_vacant k (option_qualifiers options k) readings.given) (option_qualifiers options k).required (vacant_count false 0 (take m options) readings.given)
    (vacant_count true (k + 1) (drop (k + 1) options) readings.given) (vacant_count true k (drop k options) readings.given) readings.plain (back-less options readings.given k (omega arith))
    ∙ ap (λ i. kept m i options readings) e1

pub takes_all-none : (options : List TemplateOption) (readings : Readings)
    → nat_lt (vacant_count false 0 options readings.given) (length readings.plain) ≡ false → first_shares None (length options) options readings ≡ readings.plain
takes_all-none options readings t =
    let few : length readings.plain ≤ vacant_count false 0 options readings.given = grind (arith, nat_tests, t) in
    to-front-none options readings (length options) (omega arith)
    ∙ ap (λ os. take (vacant_count false 0 os readings.given) readings.plain) (take_all (length options) options (omega arith)) ∙ take_all _ readings.plain few

pub takes_all-some : (m : ℕ) (options : List TemplateOption) (readings : Readings) → m < length options
    → first_shares (Some m) (length options) options readings ≡ readings.plain
takes_all-some m options readings w =
    let none : vacant_count true (length options) (drop (length options) options) readings.given ≡ 0 = ap (λ os. vacant_count true (length options) os readings.given) (drop_all (length options) options (omega arith)) in
    to-back m options readings (length options - m - 1) (length options) w (omega arith) (omega arith)
    ∙ take_all _ readings.plain (omega (arith, none))
