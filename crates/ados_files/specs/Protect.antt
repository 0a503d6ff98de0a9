-- Protect: the bits of objects, with ALL of all that is below them too.
use Rattle.std.specs.Prelude.{ℕ, List, [], ◌∷◌, drop, codes, Bool, true, false, not, ◌&&◌, ◌||◌, ◌==◌, Option, Some, None, Result, Ok, Err, if◌then◌else◌}
use Rattle.std.specs.FinMap as map
use Rattle.ados_text.specs.Text.{Text}
use Rattle.ados_text.specs.declared.codes.Result2.{Result2}
use Rattle.ados_text.specs.declared.codes.TheConstants.Result2.{BAD_NUMBER, TOO_MANY_ARGUMENTS}
use Rattle.ados_readargs.specs.declared.args.Arg.{Arg}
use Rattle.ados_readargs.specs.Args.{option_texts, option_text, has_switch}
use Rattle.ados_ram.specs.Place.{Place, key_of}
use Rattle.ados_ram.specs.Entry.{fresh_bits}
use Rattle.ados_ram.specs.FileOperations.{protect_of, protect_fault}
use Rattle.ados_ram.specs.declared.entries.Bits.{Bits}
use Rattle.ados_ram.specs.declared.entries.Entry.{Entry}
use Rattle.ados_find.specs.Codes.{fail_codes}
use Rattle.ados_find.specs.Shared.{SharedState, with_files}
use Rattle.ados_find.specs.Views.{View}
use Rattle.ados_find.specs.Effects.{Effect, codes_effect}
use Rattle.ados_find.specs.Done.{Done, fresh_work, refused_or, act_on_each, end_effect}
use Rattle.ados_files.specs.Letters.{are_letters_of, has_letter}
use Rattle.ados_files.specs.Texts.{text_or_empty}
use Rattle.ados_objects.specs.Acts.{at_names}
use Rattle.ados_files.specs.Below.{on_all}
use Rattle.ados_files.specs.declared.options.TheConstants.{PROTECT_FILE, PROTECT_FLAGS, PROTECT_ADD, PROTECT_SUB, PROTECT_ALL}
use Rattle.ados_files.specs.declared.protect.Way.{Way}
use Rattle.ados_files.specs.declared.protect.Way.TheVariants.{Set, Add, Take}
use Rattle.ados_files.specs.declared.protect.Change.{Change}

-- the flags begin with this sign
abbrev pub begins_with : ℕ → Text → Bool
begins_with sign [] = false
begins_with sign (c ∷ cs) = c == sign

-- the letters of the flags: those after a leading `+` or `-`
abbrev pub flag_letters : Text → Text
flag_letters flags = if begins_with 43 flags || begins_with 45 flags then drop 1 flags else flags

-- the bits that letters name, in either case: h s p a r w e d
abbrev pub bits_of : Text → Bits
bits_of letters =
    record {
      hold = has_letter 104 letters;
      script = has_letter 115 letters;
      pure = has_letter 112 letters;
      archive = has_letter 97 letters;
      read = has_letter 114 letters;
      write = has_letter 119 letters;
      execute = has_letter 101 letters;
      delete = has_letter 100 letters;
    }

-- how the bits change: with ADD (the first Bool) they are added, with SUB (the second) removed, otherwise set; not both at once
abbrev pub way_of : Bool → Bool → Result Way Result2
way_of true true = Err TOO_MANY_ARGUMENTS
way_of true false = Ok Add
way_of false true = Ok Take
way_of false false = Ok Set

-- a change of bits by a way, with the bits of these letters, or the fault of the way
abbrev pub change_by : Result Way Result2 → Text → Result Change Result2
change_by (Err fault) letters = Err fault
change_by (Ok way) letters = Ok (record { way = way; bits = bits_of letters })

-- the change that the flags and the switches ADD (`add`) and SUB (`sub`) ask for
abbrev pub change_of : Text → Bool → Bool → Result Change Result2
change_of flags add sub =
    if are_letters_of (codes "hsparwed") (flag_letters flags) then change_by (way_of (add || begins_with 43 flags) (sub || begins_with 45 flags)) (flag_letters flags)
    else Err BAD_NUMBER

-- a bit after a change in a way, given the bit as it was (`old`) and the bit that is given
abbrev pub changed_bit : Way → Bool → Bool → Bool
changed_bit Set old given = given
changed_bit Add old given = old || given
changed_bit Take old given = old && not given

-- the bits after a change
abbrev pub changed_bits : Change → Bits → Bits
changed_bits change old =
    record {
      hold = changed_bit change.way old.hold change.bits.hold;
      script = changed_bit change.way old.script change.bits.script;
      pure = changed_bit change.way old.pure change.bits.pure;
      archive = changed_bit change.way old.archive change.bits.archive;
      read = changed_bit change.way old.read change.bits.read;
      write = changed_bit change.way old.write change.bits.write;
      execute = changed_bit change.way old.execute change.bits.execute;
      delete = changed_bit change.way old.delete change.bits.delete;
    }

-- the bits of an object by its entry; those of a new object if there is none
abbrev pub object_bits : Option Entry → Bits
object_bits None = fresh_bits
object_bits (Some e) = e.bits

-- changes the bits of the object at a place, unless that is refused
abbrev pub protect_one : Change → Done → Place → Done
protect_one change done place = (let bits = changed_bits change (object_bits (map.get done.shared.files (key_of place))) in
    refused_or (protect_fault done.shared.files (key_of place)) done
    (record done { shared = with_files done.shared (protect_of done.shared.files (key_of place) bits) }))

-- Protect of the objects that texts name, with ALL (`all`) of all below them too, given the change or its fault
abbrev pub protect_texts : SharedState → View → Bool → Result Change Result2 → List Text → Effect
protect_texts shared view all (Err fault) texts = codes_effect shared (fail_codes fault)
protect_texts shared view all (Ok change) texts = end_effect (act_on_each (at_names (on_all all (protect_one change)) view) (fresh_work shared) texts)

-- Protect, given its arguments
abbrev pub protect_row : SharedState → View → List Arg → Effect
protect_row shared view args =
    protect_texts shared view (has_switch args PROTECT_ALL)
    (change_of (text_or_empty (option_text args PROTECT_FLAGS)) (has_switch args PROTECT_ADD) (has_switch args PROTECT_SUB)) (option_texts args PROTECT_FILE)
