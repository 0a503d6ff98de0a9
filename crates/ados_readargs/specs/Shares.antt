-- How plain words are assigned to the options that are open: before the /M, to it, and after it.
use Rattle.std.specs.Prelude.{◌≡◌, ℕ, zero, suc, ◌+◌, ◌-◌, ◌==◌, nat_lt, List, [], ◌∷◌, ◌++◌, Bool, true, false, ◌&&◌, ◌||◌, not, Option, Some, None, length, take, drop, position, if◌then◌else◌}
use Rattle.ados_items.specs.declared.items.Item.{Item}
use Rattle.ados_readargs.specs.declared.options.TemplateOption.{TemplateOption}
use Rattle.ados_readargs.specs.declared.readings.Reading.{Reading}
use Rattle.ados_readargs.specs.Options.{is_positional, option_qualifiers}
use Rattle.ados_readargs.specs.Readings.{Readings, is_vacant, given_items}

-- how many of the options, which begin at a place, are vacant, and have /A if that is `needed`
abbrev pub vacant_count : Bool → ℕ → List TemplateOption → List Reading → ℕ
vacant_count needed place [] given = 0
vacant_count needed place (option ∷ options) given =
    (if is_vacant place option.qualifiers given && (not needed || option.qualifiers.required) then 1 else 0) + vacant_count needed (place + 1) options given

-- the option is plain and has /M
abbrev pub is_middle : TemplateOption → Bool
is_middle option = is_positional option.qualifiers && option.qualifiers.many

-- the place of the plain /M
abbrev pub middle_of : List TemplateOption → Option ℕ
middle_of options = position is_middle options

-- the plain word of a vacant option before the /M: the option with n vacant ones before it takes the word with n words before it
abbrev pub front_share : List TemplateOption → Readings → ℕ → List Item
front_share options readings place =
    if is_vacant place (option_qualifiers options place) readings.given then take 1 (drop (vacant_count false 0 (take place options) readings.given) readings.plain) else []

-- the plain words of the /M: all except those of the options before it, and of the vacant /A options after it
abbrev pub middle_share : List TemplateOption → Readings → ℕ → List Item
middle_share options readings middle =
    let front = vacant_count false 0 (take middle options) readings.given in
    let after = vacant_count true (middle + 1) (drop (middle + 1) options) readings.given in
    take (length readings.plain - front - after) (drop front readings.plain)

-- the plain word of a vacant /A option after the /M: the last option takes the last word
abbrev pub back_share : List TemplateOption → Readings → ℕ → ℕ → List Item
back_share options readings middle place =
    let front = vacant_count false 0 (take middle options) readings.given in
    let after = vacant_count true (place + 1) (drop (place + 1) options) readings.given in
    if is_vacant place (option_qualifiers options place) readings.given && ((option_qualifiers options place).required && nat_lt after (length readings.plain - front))
    then take 1 (drop (length readings.plain - 1 - after) readings.plain) else []

-- the plain words that the option at a place takes
abbrev pub option_share : Option ℕ → List TemplateOption → Readings → ℕ → List Item
option_share None options readings place = front_share options readings place
option_share (Some middle) options readings place =
    if nat_lt place middle then front_share options readings place else
    (if place == middle then middle_share options readings middle else back_share options readings middle place)

-- more plain words than vacant options, and no /M
abbrev pub has_word_left : Option ℕ → List TemplateOption → Readings → Bool
has_word_left None options readings = nat_lt (vacant_count false 0 options readings.given) (length readings.plain)
has_word_left (Some middle) options readings = false

-- a plain word is left over
abbrev pub is_left : List TemplateOption → Readings → Bool
is_left options readings = has_word_left (middle_of options) options readings

-- What the option at a place holds: what keywords give it, and after that its plain words.
abbrev pub held_items : List TemplateOption → Readings → ℕ → List Item
held_items options readings place = given_items place readings.given ++ option_share (middle_of options) options readings place

-- the plain words that the first n options take, in order
abbrev pub first_shares : Option ℕ → ℕ → List TemplateOption → Readings → List Item
first_shares middle zero options readings = []
first_shares middle (suc n) options readings = first_shares middle n options readings ++ option_share middle options readings n

-- Each plain word is taken by one option, in the order of the line.
abbrev pub TakesAll : List TemplateOption → Readings → Type 0
TakesAll options readings = first_shares (middle_of options) (length options) options readings ≡ readings.plain
