-- The options of a template: their names, and what their qualifiers mean.
use Rattle.std.specs.Prelude.{ℕ, List, Bool, false, ◌||◌, not, Option, Some, None, slice_get}
use Rattle.std.specs.List.{list_any}
use Rattle.ados_text.specs.Text.{Bytes, is_same}
use Rattle.ados_readargs.specs.declared.options.Qualifiers.{Qualifiers}
use Rattle.ados_readargs.specs.declared.options.TemplateOption.{TemplateOption}

-- the option has the name
abbrev pub has_name : Bytes → TemplateOption → Bool
has_name name option = list_any (λ own. is_same own name) option.names

-- the option has /F
abbrev pub is_rest : TemplateOption → Bool
is_rest option = option.qualifiers.rest

-- the option has /A
abbrev pub is_required : TemplateOption → Bool
is_required option = option.qualifiers.required

-- the option has /N
abbrev pub takes_number : TemplateOption → Bool
takes_number option = option.qualifiers.number

-- no qualifier
abbrev pub no_qualifiers : Qualifiers
no_qualifiers = record { required = false; keyword = false; switch = false; toggle = false; number = false; many = false; rest = false }

-- none of /K, /S and /T
abbrev pub is_positional : Qualifiers → Bool
is_positional q = not (q.keyword || q.switch || q.toggle)

-- neither /S nor /T
abbrev pub takes_value : Qualifiers → Bool
takes_value q = not (q.switch || q.toggle)

-- the qualifiers of an option, if there is one
abbrev pub qualifiers_of : Option TemplateOption → Qualifiers
qualifiers_of None = no_qualifiers
qualifiers_of (Some option) = option.qualifiers

-- the qualifiers of the option at a place
abbrev pub option_qualifiers : List TemplateOption → ℕ → Qualifiers
option_qualifiers options place = qualifiers_of (slice_get options place)
