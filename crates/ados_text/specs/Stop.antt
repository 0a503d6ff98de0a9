-- What a call gives that can be refused, by definitions in which no allocation fails.
use Rattle.std.specs.Prelude.{◌≡◌, Option, Some, None, Result, Ok, Err}
use Rattle.ados_text.specs.declared.codes.Result2.{Result2}
use Rattle.ados_text.specs.declared.stops.Stop.{Stop}
use Rattle.ados_text.specs.declared.stops.Stop.TheVariants.{Refused, NoMemory}

-- a call succeeds if there is no fault, and otherwise it is refused with the fault. Only without a fault can an
-- allocation fail
abbrev pub Answers : {X : Type 0} → Result X Stop → Option Result2 → Type 0
Answers (Ok x) fault = fault ≡ None
Answers (Err NoMemory) fault = fault ≡ None
Answers (Err (Refused number)) fault = fault ≡ Some number

-- a call gives the same value or the same fault as the definition, unless an allocation failed
abbrev pub Gives : {X : Type 0} → Result X Stop → Result X Result2 → Type 0
Gives (Ok x) given = given ≡ Ok x
Gives (Err (Refused fault)) given = given ≡ Err fault
Gives (Err NoMemory) given = Unit {0}
