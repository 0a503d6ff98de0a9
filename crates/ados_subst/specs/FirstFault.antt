-- Where a script's first fault is: in a directive, below lines that have none.
use Rattle.std.specs.Prelude.{◌≡◌, ◌≢◌, ◌⊎◌, ℕ, ◌+◌, List, [], ◌∷◌, ◌++◌, length, true, false, Option, Some, None, is_some, unwrap_or, Ok, Err}
use Rattle.ados_text.specs.Text.{Bytes, Text}
use Rattle.ados_readargs.specs.declared.errors.ArgFault.{ArgFault}
use Rattle.ados_readargs.specs.Fill.{fill_of}
use Rattle.ados_subst.specs.declared.above.Above.{Above}
use Rattle.ados_subst.specs.declared.directives.Directive.TheVariants.{Key, Default, Sets}
use Rattle.ados_subst.specs.declared.faults.SubstFault.{SubstFault}
use Rattle.ados_subst.specs.declared.faults.SubstFault.TheVariants.{BadDirective}
use Rattle.ados_subst.specs.declared.marks.Mark.{Mark}
use Rattle.ados_subst.specs.declared.slots.Slot.{Slot}
use Rattle.ados_subst.specs.Above.{initial_above}
use Rattle.ados_subst.specs.Directives.{directive_result, directive_named, is_remark}
use Rattle.ados_subst.specs.Faults.{args_fault}
use Rattle.ados_subst.specs.Scripts.{directive_text}
use Rattle.ados_subst.specs.Slots.{find_slot}
use Rattle.ados_items.specs.Parts.{first_word, rest_of}

-- a name that no option has: above the template there are no options, and an empty name is not a name
abbrev pub NamesNone : Option (List Slot) → Text → Type 0
NamesNone slots name = (name ≡ []) ⊎ (find_slot (unwrap_or slots []) name ≡ None)

-- The fault of a directive with this after its dot, in the line with a number: an unknown word; a second template; a template
-- that is bad, or that the arguments do not fill; a default of no option; and another character that is not just one.
pub data IsDirectiveFault (above : Above) (args : Bytes) (number : ℕ) (body : Text) : SubstFault → Type 0 where
  unknown : directive_named (first_word body) ≡ None → IsDirectiveFault above args number body (BadDirective number)
  second_template : directive_named (first_word body) ≡ Some Key → is_some above.slots ≡ true
      → IsDirectiveFault above args number body (BadDirective number)
  not_filled : (fault : ArgFault) → directive_named (first_word body) ≡ Some Key → is_some above.slots ≡ false
      → fill_of (rest_of body) args ≡ Err fault → IsDirectiveFault above args number body (args_fault fault)
  no_option : directive_named (first_word body) ≡ Some Default → NamesNone above.slots (first_word (rest_of body))
      → IsDirectiveFault above args number body (BadDirective number)
  no_character : (mark : Mark) → directive_named (first_word body) ≡ Some (Sets mark) → length (rest_of body) ≢ 1
      → IsDirectiveFault above args number body (BadDirective number)

-- lines without a fault lead from what holds above them to what holds above the next one
pub data LinesLead (args : Bytes) : Above → ℕ → List Text → Above → Type 0 where
  here : (above : Above) (number : ℕ) → LinesLead args above number [] above
  directive : (above next end : Above) (number : ℕ) (line body : Text) (lines : List Text)
      → directive_text above.marks.dot line ≡ Some body → directive_result above args number body ≡ Ok next
      → LinesLead args next (number + 1) lines end → LinesLead args above number (line ∷ lines) end
  other : (above end : Above) (number : ℕ) (line : Text) (lines : List Text) → directive_text above.marks.dot line ≡ None
      → LinesLead args above (number + 1) lines end → LinesLead args above number (line ∷ lines) end

-- a fault is in a directive among lines, the first of which has a number, and no line before that has one
pub record FaultBelow (args : Bytes) (above : Above) (number : ℕ) (lines : List Text) (fault : SubstFault) : Type 0 where
  pub front : List Text
  pub line : Text
  pub rest : List Text
  pub body : Text
  pub there : Above
  pub joined : lines ≡ front ++ line ∷ rest
  pub led : LinesLead args above number front there
  pub directive : directive_text there.marks.dot line ≡ Some body
  pub no_remark : is_remark body ≡ false
  pub bad : IsDirectiveFault there args (number + length front) body fault

-- the first fault of a script's lines, which are counted from 1
abbrev pub IsFirstFault : Bytes → List Text → SubstFault → Type 0
IsFirstFault args lines fault = FaultBelow args initial_above 1 lines fault
