-- What options were given, by the places of its texts among the texts of the line's words.
use Rattle.std.specs.Prelude.{ℕ, ◌-◌, ◌==◌, ◌<◌, ◌≤◌, List, [], Bool, map, get_or, take, drop, if◌then◌else◌}
use Rattle.ados_text.specs.Text.{Text}
use Rattle.ados_readargs.specs.declared.args.Arg.{Arg}
use Rattle.ados_readargs.specs.declared.args.Arg.TheVariants as arg
use Rattle.ados_readargs.specs.declared.slots.Slot.{Slot}
use Rattle.ados_readargs.specs.declared.slots.Slot.TheVariants.{Absent, On, One, Many}

-- the argument that a slot stands for
abbrev pub arg_in : List Text → Slot → Arg
arg_in texts Absent = arg.Absent
arg_in texts On = arg.On
arg_in texts (One place) = arg.One (get_or texts place [])
arg_in texts (Many from to) = arg.Many (take (to - from) (drop from texts))

-- the arguments that slots stand for
abbrev pub args_in : List Text → List Slot → List Arg
args_in texts slots = map (arg_in texts) slots

-- the slot's texts are among the first `count`
abbrev pub HoldsIn : ℕ → Slot → Type 0
HoldsIn count Absent = Unit {0}
HoldsIn count On = Unit {0}
HoldsIn count (One place) = place < count
HoldsIn count (Many from to) = (from ≤ to) × (to ≤ count)

-- the slot of an option, with /M or without, that holds the texts from one place up to another
abbrev pub slot_of : Bool → ℕ → ℕ → Slot
slot_of many from to = if from == to then Absent else (if many then Many from to else One from)

-- the slot of a switch or toggle that is on or not
abbrev pub switch_slot : Bool → Slot
switch_slot on = if on then On else Absent
