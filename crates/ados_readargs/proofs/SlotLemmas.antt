-- what options were given stays as it is when more texts are put after its own
use Rattle.std.proofs.Common.{ℕ, suc, ◌≡◌, ◌≤◌, ◌+◌, ◌-◌, ◌==◌, List, [], ◌∷◌, ◌++◌, Bool, true, false, map, length, take, drop, get_or, slice_get, Some, if◌then◌else◌, refl, ap, ◌∙◌, arith}
use Rattle.std.specs.List.{All}
use Rattle.std.specs.Option.{option_map}
use Rattle.std.proofs.lemmas.List.{take-append-le, drop-append-le, length-drop, map-append, take_all, get_or_append_left, get_or_past, length-map, length-take}
use Rattle.std.proofs.lemmas.Option.{slice_get-map}
use Rattle.std.proofs.lemmas.Bool.Decides.{nat_tests}
use Rattle.std.proofs.Math.Seq.{drop-append_seam, get_or-append_seam}
use Rattle.ados_text.specs.Text.{Text}
use Rattle.ados_items.specs.Items.{value_of}
use Rattle.ados_items.specs.declared.items.Item.{Item}
use Rattle.ados_readargs.specs.declared.args.Arg.TheVariants as arg
use Rattle.ados_readargs.specs.declared.slots.Slot.{Slot}
use Rattle.ados_readargs.specs.declared.slots.Slot.TheVariants.{Absent, On, One, Many}
use Rattle.ados_readargs.specs.Args.{many_of, one_of, texts_or_none, option_texts}
use Rattle.ados_readargs.specs.Slots.{arg_in, args_in, HoldsIn, slot_of}

part-append : (texts more : List Text) (from to : ℕ) → from ≤ to → to ≤ length texts → take (to - from) (drop from (texts ++ more)) ≡ take (to - from) (drop from texts)
part-append texts more from to a b =
    let left : length (drop from texts) ≡ length texts - from = length-drop from texts in
    ap (take (to - from)) (drop-append-le from texts more (omega arith)) ∙ take-append-le (to - from) (drop from texts) more (omega arith)

arg-kept : (texts more : List Text) (slot : Slot) → HoldsIn (length texts) slot → arg_in (texts ++ more) slot ≡ arg_in texts slot
arg-kept texts more Absent h = refl
arg-kept texts more On h = refl
arg-kept texts more (One place) h = ap arg.One (get_or_append_left texts more [] place h)
arg-kept texts more (Many from to) h = ap arg.Many (part-append texts more from to h.0 h.1)

pub args-kept : (texts more : List Text) (slots : List Slot) → All (HoldsIn (length texts)) slots → args_in (texts ++ more) slots ≡ args_in texts slots
args-kept texts more [] within = refl
args-kept texts more (slot ∷ slots) within =
    let here : HoldsIn (length texts) slot = within 0 slot (omega arith) in
    let first : arg_in (texts ++ more) slot ≡ arg_in texts slot = arg-kept texts more slot here in
    let rest = args-kept texts more slots (λ k d h. within (suc k) d (omega arith)) in cc

-- what was put after them, with /M or without
slot-value : (many : Bool) (line : List ℕ) (items : List Item) (texts : List Text) (from to : ℕ) → from ≡ length texts → to ≡ length texts + length items
    → arg_in (texts ++ map (value_of line) items) (slot_of many from to) ≡ (if many then many_of line items else one_of line items)
slot-value true line [] texts from to a b = let same : (from == to) ≡ true = grind (arith, nat_tests) in rw same refl
slot-value false line [] texts from to a b = let same : (from == to) ≡ true = grind (arith, nat_tests) in rw same refl
slot-value true line (item ∷ items) texts from to a b =
    let other : (from == to) ≡ false = grind (arith, nat_tests) in
    let long : length (map (value_of line) (item ∷ items)) ≡ length (item ∷ items) = length-map (item ∷ items) (value_of line) in
    rw other (ap arg.Many (ap (λ k. take (to - from) (drop k (texts ++ map (value_of line) (item ∷ items)))) a
    ∙ ap (take (to - from)) (drop-append_seam texts (map (value_of line) (item ∷ items))) ∙ take_all (to - from) (map (value_of line) (item ∷ items)) (omega arith)))
slot-value false line (item ∷ items) texts from to a b =
    let other : (from == to) ≡ false = grind (arith, nat_tests) in
    rw (other, a) (ap arg.One (get_or-append_seam texts (value_of line item) (map (value_of line) items) []))

-- the arguments with one more
pub one-more : (many : Bool) (line : List ℕ) (items : List Item) (texts : List Text) (slots : List Slot) (from to : ℕ) → from ≡ length texts → to ≡ length texts + length items
    → All (HoldsIn (length texts)) slots
    → args_in (texts ++ map (value_of line) items) (slots ++ slot_of many from to ∷ []) ≡ args_in texts slots ++ (if many then many_of line items else one_of line items) ∷ []
one-more many line items texts slots from to a b within =
    map-append (arg_in (texts ++ map (value_of line) items)) slots (slot_of many from to ∷ [])
    ∙ ap (λ args. args ++ arg_in (texts ++ map (value_of line) items) (slot_of many from to) ∷ []) (args-kept texts (map (value_of line) items) slots within)
    ∙ ap (λ arg. args_in texts slots ++ arg ∷ []) (slot-value many line items texts from to a b)

-- past the texts that an option was given there is none
pub text-past : (texts : List Text) (slots : List Slot) (place number from to : ℕ) → slice_get slots place ≡ Some (Many from to) → to - from ≤ number
    → get_or (option_texts (args_in texts slots) place) number [] ≡ []
text-past texts slots place number from to e h =
    ap (λ found. get_or (texts_or_none found) number []) (slice_get-map (arg_in texts) slots place ∙ ap (option_map (arg_in texts)) e)
    ∙ get_or_past (take (to - from) (drop from texts)) number [] (let long = length-take (to - from) (drop from texts) in omega (arith, h, long))
