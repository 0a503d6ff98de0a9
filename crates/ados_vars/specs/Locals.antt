-- The local variables of a shell. RC and Result2 have positions among them, and show the results of its last command:
-- the values stored at these positions are never shown.
use Rattle.std.specs.Prelude.{◌≡◌, ℕ, [], ◌∷◌, ◌++◌, Bool, not, ◌||◌, IsSome, codes, if◌then◌else◌}
use Rattle.std.specs.List.{filter}
use Rattle.std.specs.Fmt.{decimal, signed_decimal}
use Rattle.ados_text.specs.Text.{Text, is_same}
use Rattle.ados_text.specs.declared.codes.Code.{Code}
use Rattle.ados_text.specs.declared.codes.Result2.{Result2}
use Rattle.ados_vars.specs.Vars.{Pairs, set_pair, value_in, remove_pair}

abbrev pub process_name : Text
process_name = codes "Process"

abbrev pub code_name : Text
code_name = codes "RC"

abbrev pub fault_name : Text
fault_name = codes "Result2"

-- RC and Result2 are set to these texts, RC first
unfoldable pub with_codes : Pairs → Text → Text → Pairs
with_codes pairs code fault = set_pair (set_pair pairs code_name code) fault_name fault

-- RC and Result2 are set to the results of a command, in decimal
unfoldable pub shown_pairs : Pairs → Code → Result2 → Pairs
shown_pairs pairs code result2 = with_codes pairs (signed_decimal code.0) (decimal result2.0)

-- the name is that of one of the two
abbrev pub is_of_codes : Text → Bool
is_of_codes name = is_same name code_name || is_same name fault_name

-- a name is removed; if it is one of the two, it is set again by the end of the command, and so goes last
unfoldable pub unset_pair : Pairs → Text → Pairs
unset_pair pairs name = if is_of_codes name then with_codes (remove_pair pairs name) [] [] else remove_pair pairs name

-- the initial variables of the shell of a number: Process, which is the number, RC and Result2
abbrev pub own_pairs : ℕ → Pairs
own_pairs number = (process_name, decimal number) ∷ (code_name, []) ∷ (fault_name, []) ∷ []

-- the name is that of one of a shell's own variables
abbrev pub is_own : Text → Bool
is_own name = is_same name process_name || is_of_codes name

-- the pair is of a variable that is not one of a shell's own
abbrev pub is_other : Text × Text → Bool
is_other pair = not (is_own pair.0)

-- the initial variables of a shell that another one creates, by its number: its own, and after them the others of its
-- creator, in their order
unfoldable pub copied_pairs : ℕ → Pairs → Pairs
copied_pairs number pairs = own_pairs number ++ filter is_other pairs

-- RC and Result2 are set to something
pub record HasCodes (pairs : Pairs) : Type 0 where
  pub code : IsSome (value_in pairs code_name)
  pub fault : IsSome (value_in pairs fault_name)

-- The variables that are shown are the same as if each command set RC and Result2 to its results: after a command that
-- does nothing else, one that sets a name, and one that removes a name.
abbrev pub AnswerIsSeen : Type 0
AnswerIsSeen = (pairs : Pairs) (old code : Code) (before result2 : Result2) → shown_pairs (shown_pairs pairs old before) code result2 ≡ shown_pairs pairs code result2

abbrev pub SettingIsSeen : Type 0
SettingIsSeen = (pairs : Pairs) (old code : Code) (before result2 : Result2) (name value : Text) → HasCodes pairs
    → shown_pairs (set_pair (shown_pairs pairs old before) name value) code result2 ≡ shown_pairs (set_pair pairs name value) code result2

abbrev pub UnsettingIsSeen : Type 0
UnsettingIsSeen = (pairs : Pairs) (old code : Code) (before result2 : Result2) (name : Text) → HasCodes pairs
    → shown_pairs (remove_pair (shown_pairs pairs old before) name) code result2 ≡ shown_pairs (unset_pair pairs name) code result2

-- they have positions at first, whether another shell created it or none,
abbrev pub CodesBegin : Type 0
CodesBegin = (number : ℕ) (pairs : Pairs) → HasCodes (own_pairs number) × HasCodes (copied_pairs number pairs)

-- and keep them
abbrev pub CodesStay : Type 0
CodesStay = (pairs : Pairs) (name value : Text) → HasCodes pairs → HasCodes (set_pair pairs name value) × HasCodes (unset_pair pairs name)
