-- What the words of a line are read as: fillings of options, and plain words.
use Rattle.std.specs.Prelude.{ℕ, ◌+◌, ◌==◌, List, [], ◌∷◌, Bool, false, ◌&&◌, not, Option, Some, None, if◌then◌else◌}
use Rattle.std.specs.List.{list_any, filter_map, count_by}
use Rattle.ados_items.specs.declared.items.Item.{Item}
use Rattle.ados_readargs.specs.declared.options.Qualifiers.{Qualifiers}
use Rattle.ados_readargs.specs.declared.options.TemplateOption.{TemplateOption}
use Rattle.ados_readargs.specs.declared.readings.Reading.{Reading}
use Rattle.ados_readargs.specs.declared.readings.Reading.TheVariants.{Named, Given}
use Rattle.ados_readargs.specs.Options.{is_positional}

-- what the words of a line were read as: what is said of options, and the plain words, which options take once all words are read
pub record Readings : Type 0 where
  pub given : List Reading
  pub plain : List Item

-- nothing is read yet
abbrev pub no_readings : Readings
no_readings = record { given = []; plain = [] }

-- the reading fills the option at a place
abbrev pub fills_option : ℕ → Reading → Bool
fills_option place (Named option) = option == place
fills_option place (Given option item) = option == place

-- one of the readings fills the option at a place
abbrev pub is_filled : ℕ → List Reading → Bool
is_filled place given = list_any (fills_option place) given

-- the option is plain, and no reading fills it
abbrev pub is_vacant : ℕ → Qualifiers → List Reading → Bool
is_vacant place q given = is_positional q && not (is_filled place given)

-- the first option that is vacant, in options that begin at a place
abbrev pub first_vacant_from : ℕ → List TemplateOption → List Reading → Option ℕ
first_vacant_from place [] given = None
first_vacant_from place (option ∷ options) given =
    if is_vacant place option.qualifiers given then Some place else first_vacant_from (place + 1) options given

-- the first option that is vacant
abbrev pub first_vacant : List TemplateOption → List Reading → Option ℕ
first_vacant options given = first_vacant_from 0 options given

-- what a reading gives to the option at a place
abbrev pub given_item : ℕ → Reading → Option Item
given_item place (Named option) = None
given_item place (Given option item) = if option == place then Some item else None

-- what the option at a place is given
abbrev pub given_items : ℕ → List Reading → List Item
given_items place given = filter_map (given_item place) given

-- the reading names the option at a place
abbrev pub names_option : ℕ → Reading → Bool
names_option place (Named option) = option == place
names_option place (Given option item) = false

-- how often the option at a place is named
abbrev pub named_count : ℕ → List Reading → ℕ
named_count place given = count_by (names_option place) given
