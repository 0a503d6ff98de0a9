-- How a directive changes what holds above it.
use Rattle.std.specs.Prelude.{ℕ, List, [], ◌∷◌, Bool, true, ◌==◌, ◌||◌, Option, Some, None, is_some, Result, Ok, Err, codes, if◌then◌else◌}
use Rattle.std.specs.Option.{option_map, option_and_then}
use Rattle.ados_text.specs.Text.{Text, Bytes, is_same}
use Rattle.ados_items.specs.declared.items.Item.{Item}
use Rattle.ados_items.specs.declared.items.Item.TheVariants as item
use Rattle.ados_items.specs.Items.{is_blank, item_at, value_of}
use Rattle.ados_readargs.specs.declared.options.TemplateOption.{TemplateOption}
use Rattle.ados_readargs.specs.declared.args.Arg.{Arg}
use Rattle.ados_readargs.specs.declared.errors.ArgFault.{ArgFault}
use Rattle.ados_readargs.specs.Fill.{fill_of}
use Rattle.ados_readargs.specs.Template.{options_of}
use Rattle.ados_subst.specs.declared.above.Above.{Above}
use Rattle.ados_subst.specs.declared.directives.Directive.{Directive}
use Rattle.ados_subst.specs.declared.directives.Directive.TheVariants.{Key, Default, Sets}
use Rattle.ados_subst.specs.declared.faults.SubstFault.{SubstFault}
use Rattle.ados_subst.specs.declared.faults.SubstFault.TheVariants.{BadDirective}
use Rattle.ados_subst.specs.declared.marks.Mark.{Mark}
use Rattle.ados_subst.specs.declared.marks.Mark.TheVariants.{Bra, Ket, Dollar, Dot}
use Rattle.ados_subst.specs.declared.slots.Slot.{Slot}
use Rattle.ados_subst.specs.Faults.{args_fault}
use Rattle.ados_subst.specs.Marks.{with_mark}
use Rattle.ados_subst.specs.Slots.{slots_of, with_default}
use Rattle.ados_items.specs.Parts.{first_word, rest_of}

-- what holds above, with these options
abbrev pub with_slots : Above → List Slot → Above
with_slots above slots = record above { slots = Some slots }

-- the options with their arguments, if the template is filled
abbrev pub slots_of_args : List TemplateOption → Result (List Arg) ArgFault → Result (List Slot) SubstFault
slots_of_args options (Ok args) = Ok (slots_of options args)
slots_of_args options (Err fault) = Err (args_fault fault)

-- the options of a template's text, filled with arguments
abbrev pub slots_of_template : Text → Bytes → Result (List Slot) SubstFault
slots_of_template text args = slots_of_args (options_of text) (fill_of text args)

abbrev pub above_of_slots : Above → Result (List Slot) SubstFault → Result Above SubstFault
above_of_slots above (Ok slots) = Ok (with_slots above slots)
above_of_slots above (Err fault) = Err fault

-- `.KEY`: the template, which is filled at once; there is at most one
abbrev pub key_result : Above → Bytes → ℕ → Text → Result Above SubstFault
key_result above args number text =
    if is_some above.slots then Err (BadDirective number) else above_of_slots above (slots_of_template text args)

-- the default that a text gives: a quoted item's text, or the text as it is
abbrev pub default_of_item : Text → Item → Text
default_of_item text (item.Quoted from to) = value_of text (item.Quoted from to)
default_of_item text _ = text

abbrev pub default_of : Text → Text
default_of text = default_of_item text (item_at true text 0)

abbrev pub above_of_default : Above → ℕ → Option (List Slot) → Result Above SubstFault
above_of_default above number (Some slots) = Ok (with_slots above slots)
above_of_default above number None = Err (BadDirective number)

-- `.DEF`: a default of the option that the first word names
abbrev pub default_result : Above → ℕ → Text → Result Above SubstFault
default_result above number text =
    let default = default_of (rest_of text) in
    above_of_default above number (option_and_then (λ slots. with_default slots (first_word text) default) above.slots)

-- `.BRA` and those like it: one other character
abbrev pub mark_result : Above → ℕ → Mark → Text → Result Above SubstFault
mark_result above number mark [] = Err (BadDirective number)
mark_result above number mark (c ∷ []) = Ok (record above { marks = with_mark mark c above.marks })
mark_result above number mark (c ∷ d ∷ cs) = Err (BadDirective number)

-- the mark that a directive's word sets
abbrev pub mark_named : Text → Option Mark
mark_named word =
    if is_same word (codes "BRA") then Some Bra else
    (if is_same word (codes "KET") then Some Ket else
    (if is_same word (codes "DOLLAR") || is_same word (codes "DOL") then Some Dollar else
    (if is_same word (codes "DOT") then Some Dot else None)))

-- the directive with a word
abbrev pub directive_named : Text → Option Directive
directive_named word =
    if is_same word (codes "KEY") || is_same word (codes "K") then Some Key else
    (if is_same word (codes "DEF") then Some Default else option_map Sets (mark_named word))

-- how a directive with this text changes what holds above it
abbrev pub named_directive_result : Above → Bytes → ℕ → Text → Option Directive → Result Above SubstFault
named_directive_result above args number text None = Err (BadDirective number)
named_directive_result above args number text (Some Key) = key_result above args number text
named_directive_result above args number text (Some Default) = default_result above number text
named_directive_result above args number text (Some (Sets mark)) = mark_result above number mark text

-- a comment: nothing follows its dot, or a blank or a `\` does
abbrev pub is_remark : Text → Bool
is_remark [] = true
is_remark (c ∷ cs) = is_blank c || c == 92

-- What holds above the next line, by a directive in the line with a number and what follows its dot.
abbrev pub directive_result : Above → Bytes → ℕ → Text → Result Above SubstFault
directive_result above args number body =
    if is_remark body then Ok above
    else named_directive_result above args number (rest_of body) (directive_named (first_word body))
