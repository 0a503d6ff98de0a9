-- The options of a template by its text, and which texts are templates.
use Rattle.std.specs.Prelude.{ℕ, ◌-◌, ◌==◌, nat_lt, List, [], ◌∷◌, ◌++◌, Bool, true, false, ◌&&◌, ◌||◌, not, Option, Some, None, length, take, map, IsSome, if◌then◌else◌}
use Rattle.std.specs.List.{slice_split, list_any, count_by}
use Rattle.ados_text.specs.Text.{Bytes, Text, fold_of, to_ascii, is_same}
use Rattle.ados_readargs.specs.declared.options.Qualifiers.{Qualifiers}
use Rattle.ados_readargs.specs.declared.options.TemplateOption.{TemplateOption}
use Rattle.ados_readargs.specs.Options.{has_name, is_rest, no_qualifiers}

-- the qualifiers with one more, by its letter in lower case; none if it is unknown or there already
abbrev pub with_letter : ℕ → Qualifiers → Option Qualifiers
with_letter c q =
    if c == 97 && not q.required then Some (record q { required = true }) else
    (if c == 107 && not q.keyword then Some (record q { keyword = true }) else
    (if c == 115 && not q.switch then Some (record q { switch = true }) else
    (if c == 116 && not q.toggle then Some (record q { toggle = true }) else
    (if c == 110 && not q.number then Some (record q { number = true }) else
    (if c == 109 && not q.many then Some (record q { many = true }) else
    (if c == 102 && not q.rest then Some (record q { rest = true }) else None))))))

-- the same by the text of a qualifier
abbrev pub with_qualifier : Bytes → Qualifiers → Option Qualifiers
with_qualifier [] q = None
with_qualifier (c ∷ []) q = with_letter (fold_of c) q
with_qualifier (c ∷ d ∷ more) q = None

-- the same if there are qualifiers
abbrev pub if_qualifiers : (Qualifiers → Option Qualifiers) → Option Qualifiers → Option Qualifiers
if_qualifiers next None = None
if_qualifiers next (Some q) = next q

-- the qualifiers with those of the pieces
abbrev pub parsed_qualifiers : Qualifiers → List Bytes → Option Qualifiers
parsed_qualifiers q [] = Some q
parsed_qualifiers q (piece ∷ pieces) = if_qualifiers (λ more. parsed_qualifiers more pieces) (with_qualifier piece q)

-- /S and /T occur with no other qualifier
abbrev pub qualifiers_if_alone : ℕ → Qualifiers → Option Qualifiers
qualifiers_if_alone count q = if (q.switch || q.toggle) && nat_lt 1 count then None else Some q

-- the qualifiers that the pieces of an option say
abbrev pub qualifiers_of_pieces : List Bytes → Option Qualifiers
qualifiers_of_pieces pieces = if_qualifiers (qualifiers_if_alone (length pieces)) (parsed_qualifiers no_qualifiers pieces)

-- the two bytes are equal
abbrev pub is_byte : ℕ → ℕ → Bool
is_byte c b = b == c

-- the names, separated by `=`
abbrev pub names_of : Bytes → List Text
names_of text = map (map to_ascii) (slice_split (is_byte 61) text)

-- the option with the names, if there are qualifiers
abbrev pub option_with : Bytes → Option Qualifiers → Option TemplateOption
option_with names None = None
option_with names (Some q) = Some (record { names = names_of names; qualifiers = q })

-- an option from its names and qualifiers, which `/` separates
abbrev pub option_of_pieces : List Bytes → Option TemplateOption
option_of_pieces [] = None
option_of_pieces (names ∷ pieces) = option_with names (qualifiers_of_pieces pieces)

-- the option of a text
abbrev pub option_of : Bytes → Option TemplateOption
option_of text = option_of_pieces (slice_split (is_byte 47) text)

-- the options with one more, if there is one, after which `next` continues
abbrev pub options_with : (List TemplateOption → Option (List TemplateOption)) → List TemplateOption → Option TemplateOption → Option (List TemplateOption)
options_with next done None = None
options_with next done (Some option) = next (done ++ option ∷ [])

-- the options of the texts, after those so far
abbrev pub parsed_options : List TemplateOption → List Bytes → Option (List TemplateOption)
parsed_options done [] = Some done
parsed_options done (text ∷ texts) = options_with (λ more. parsed_options more texts) done (option_of text)

-- the name is not empty, and is among the names or in one of the options
abbrev pub occurs_again : Text → List Text → List TemplateOption → Bool
occurs_again name names later = nat_lt 0 (length name) && (list_any (is_same name) names || list_any (has_name name) later)

-- one of the names occurs twice in the option, or in a later option
abbrev pub is_twice : List Text → List TemplateOption → Bool
is_twice [] later = false
is_twice (name ∷ names) later = occurs_again name names later || is_twice names later

-- a name occurs twice
abbrev pub has_twice : List TemplateOption → Bool
has_twice [] = false
has_twice (option ∷ options) = is_twice option.names options || has_twice options

-- the option has /M
abbrev pub is_many : TemplateOption → Bool
is_many option = option.qualifiers.many

-- at most one /M, not with /F, which is last; no name twice
abbrev pub is_template : List TemplateOption → Bool
is_template options =
    not (nat_lt 1 (count_by is_many options)) && (not (list_any is_many options && list_any is_rest options) &&
    (not (list_any is_rest (take (length options - 1) options)) && not (has_twice options)))

-- the options, if they are a template
abbrev pub checked_options : Option (List TemplateOption) → Option (List TemplateOption)
checked_options None = None
checked_options (Some options) = if is_template options then Some options else None

-- The options of a template's text, which commas separate; none if the text is not a template.
abbrev pub template_of : Text → Option (List TemplateOption)
template_of [] = Some []
template_of (c ∷ cs) = checked_options (parsed_options [] (slice_split (is_byte 44) (c ∷ cs)))

-- the options of a template, if there is one
abbrev pub options_or_none : Option (List TemplateOption) → List TemplateOption
options_or_none None = []
options_or_none (Some options) = options

-- the options of a template's text, none if it is bad
abbrev pub options_of : Text → List TemplateOption
options_of text = options_or_none (template_of text)

-- The text is a template.
abbrev pub IsTemplate : Text → Type 0
IsTemplate text = IsSome (template_of text)
