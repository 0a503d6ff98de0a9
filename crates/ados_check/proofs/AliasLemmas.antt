-- The words that lines make aliases of, as they are gathered.
use Rattle.std.proofs.Common.{◌≡◌, ◌∙◌, ◌||◌, List, [], ◌∷◌, Bool, true, false, Option, Some, None, cond, is_some, refl, ap, sym}
use Rattle.std.specs.Str.{bytes_eq}
use Rattle.std.proofs.lemmas.Slice.Eq.{bytes_eq-Decides}
use Rattle.ados_text.specs.Text.{Text, folded_text, is_same}
use Rattle.ados_vars.specs.Vars.{Pairs, set_pair, value_in}
use Rattle.ados_check.specs.Aliases.{HasAll, HasLines, HasNone, has_made, may_be_alias}
use Rattle.ados_check.specs.Renames.{is_renamed}
use Rattle.ados_check.specs.declared.made_aliases.MadeAliases.{MadeAliases}

-- the same name is the same as each other word
alike : (word name other : Text) → is_same name other ≡ true → is_same word name ≡ is_same word other
alike word name other same = ap (bytes_eq (folded_text word)) ((bytes_eq-Decides (folded_text name) (folded_text other)).0 same)

or-none : (b : Bool) → b ≡ (b || false)
or-none true = refl
or-none false = refl

same-held : (b : Bool) (value other : Text) (rest : Option Text) → is_some (cond b (Some value) rest) ≡ (is_some (cond b (Some other) rest) || b)
same-held true value other rest = refl
same-held false value other rest = or-none (is_some rest)

other-held : (b c : Bool) (other : Text) (new old : Option Text) → is_some new ≡ (is_some old || c)
    → is_some (cond b (Some other) new) ≡ (is_some (cond b (Some other) old) || c)
other-held true c other new old rest = refl
other-held false c other new old rest = rest

first-held : (b : Bool) (value : Text) → is_some (cond b (Some value) None) ≡ (false || b)
first-held true value = refl
first-held false value = refl

set-past : (b : Bool) (p : Text × Text) (ps : Pairs) (name value word : Text) → is_same name p.0 ≡ b
    → is_some (value_in (set_pair ps name value) word) ≡ (is_some (value_in ps word) || is_same word name)
    → is_some (value_in (cond b ((p.0, value) ∷ ps) (p ∷ set_pair ps name value)) word) ≡ (is_some (value_in (p ∷ ps) word) || is_same word name)
unfolding value_in
set-past true p ps name value word same rest =
    same-held (is_same word p.0) value p.1 (value_in ps word)
    ∙ ap (λ c. is_some (cond (is_same word p.0) (Some p.1) (value_in ps word)) || c) (sym (alike word name p.0 same))
set-past false p ps name value word same rest =
    other-held (is_same word p.0) (is_same word name) p.1 (value_in (set_pair ps name value) word) (value_in ps word) rest

-- one more name
pub set_value : (pairs : Pairs) (name value word : Text) → is_some (value_in (set_pair pairs name value) word) ≡ (is_some (value_in pairs word) || is_same word name)
unfolding set_pair value_in
set_value [] name value word = first-held (is_same word name) value
set_value (p ∷ ps) name value word = set-past (is_same name p.0) p ps name value word refl (set_value ps name value word)

-- it is among those that are known, and the others stay
pub one_known : (any : Bool) (pairs : Pairs) (name value word : Text)
    → (any || is_some (value_in (set_pair pairs name value) word)) ≡ ((any || is_some (value_in pairs word)) || is_same word name)
one_known true pairs name value word = refl
one_known false pairs name value word = set_value pairs name value word

-- then any word is known
pub all_known : (known : Bool) (same : Bool) → true ≡ (known || (true || same))
all_known true same = refl
all_known false same = refl

pub none_known : (known : Bool) → known ≡ (known || false)
none_known = or-none

-- those of both lists of lines are known
pub both_added : (none first all : MadeAliases) (typed lines : List Text) → HasNone none → HasLines none first typed → HasLines first all lines → HasAll all typed lines
both_added none first all typed lines empty one two word =
    two word ∙ ap (λ known. known || may_be_alias lines word) (one word ∙ ap (λ known. known || may_be_alias typed word) (empty word))

-- a word is an alias of the shell or one that lines make
pub renamed : (made : MadeAliases) (aliases : Pairs) (lines : List Text) (word : Text) (is : Bool) → HasAll made [] lines
    → is ≡ (is_some (value_in aliases word) || has_made made word) → is ≡ is_renamed aliases lines word
renamed made aliases lines word is all known = known ∙ ap (λ b. is_some (value_in aliases word) || b) (all word)
