-- The fault of a script is that of its first directive that has one.
use Rattle.std.proofs.Common.{◌≡◌, ◌≢◌, ◌∙◌, ◌↔◌, ◌⊎◌, ℕ, ◌+◌, List, [], ◌∷◌, ◌++◌, length, true, false, Option, Some, None, is_some, Result, Ok, Err, refl, ap, subst, arith, if◌then◌else◌, inl, inr}
use Rattle.std.specs.Option.{option_and_then, option_map}
use Rattle.std.specs.List.{find}
use Rattle.std.proofs.lemmas.Bool.{cond_both}
use Rattle.ados_text.specs.Text.{Bytes, Text}
use Rattle.ados_readargs.specs.declared.args.Arg.{Arg}
use Rattle.ados_readargs.specs.declared.errors.ArgFault.{ArgFault}
use Rattle.ados_readargs.specs.Fill.{fill_of}
use Rattle.ados_readargs.specs.Template.{options_of}
use Rattle.ados_subst.specs.declared.above.Above.{Above}
use Rattle.ados_subst.specs.declared.directives.Directive.{Directive}
use Rattle.ados_subst.specs.declared.directives.Directive.TheVariants.{Key, Default, Sets}
use Rattle.ados_subst.specs.declared.faults.SubstFault.{SubstFault}
use Rattle.ados_subst.specs.declared.faults.SubstFault.TheVariants.{BadDirective}
use Rattle.ados_subst.specs.declared.marks.Mark.{Mark}
use Rattle.ados_subst.specs.declared.slots.Slot.{Slot}
use Rattle.ados_subst.specs.Above.{initial_above}
use Rattle.ados_subst.specs.Directives.{slots_of_args, slots_of_template, above_of_slots, key_result, default_of, above_of_default, default_result, mark_result, directive_named, named_directive_result, is_remark, directive_result}
use Rattle.ados_subst.specs.Faults.{args_fault}
use Rattle.ados_subst.specs.FirstFault.{NamesNone, IsDirectiveFault, unknown, second_template, not_filled, no_option, no_character, LinesLead, here, directive, other, FaultBelow, IsFirstFault}
use Rattle.ados_subst.specs.Lines.{substituted_line}
use Rattle.ados_subst.specs.References.{reference_value}
use Rattle.ados_subst.specs.Scripts.{directive_text, with_line, lines_after_directive, lines_from_line, substituted_lines, is_dotted, script_of}
use Rattle.ados_subst.specs.Slots.{is_named, with_default_in, with_default}
use Rattle.ados_items.specs.Parts.{first_word, rest_of}

-- if a default finds no option
map-none : {X Y : Type 0} (f : X → Y) (o : Option X) → option_map f o ≡ None → o ≡ None
map-none f None e = refl
map-none f (Some x) e = cc

no-default : (name text : Text) (slots : List Slot) → with_default_in name text slots ≡ None → find (is_named name) slots ≡ None
no-default name text [] = λ e. refl
no-default name text (slot ∷ slots) =
    let P : Option (List Slot) → Type 0 = λ o. o ≡ None → find (is_named name) (slot ∷ slots) ≡ None in
    cond_both (is_named name slot) (Some (record slot { default = Some text } ∷ slots)) (option_map (λ more. slot ∷ more) (with_default_in name text slots)) P
    (λ is e. cc)
    (λ other e. rw other (no-default name text slots (map-none (λ more. slot ∷ more) (with_default_in name text slots) e)))

default-none : (name text : Text) (slots : List Slot) → find (is_named name) slots ≡ None → with_default_in name text slots ≡ None
default-none name text [] = λ e. refl
default-none name text (slot ∷ slots) =
    let P : Option Slot → Type 0 = λ o. o ≡ None → with_default_in name text (slot ∷ slots) ≡ None in
    cond_both (is_named name slot) (Some slot) (find (is_named name) slots) P
    (λ is e. cc)
    (λ other e. rw other (ap (option_map (λ more. slot ∷ more)) (default-none name text slots e)))

names-none : (slots : Option (List Slot)) (name text : Text) → option_and_then (λ s. with_default s name text) slots ≡ None → NamesNone slots name
names-none None name text e = inr refl
names-none (Some slots) [] text e = inl refl
names-none (Some slots) (c ∷ cs) text e = inr (no-default (c ∷ cs) text slots e)

none-named : (slots : Option (List Slot)) (name text : Text) → NamesNone slots name → option_and_then (λ s. with_default s name text) slots ≡ None
none-named None name text none = refl
none-named (Some slots) [] text none = refl
none-named (Some slots) (c ∷ cs) text (inl e) = cc
none-named (Some slots) (c ∷ cs) text (inr e) = default-none (c ∷ cs) text slots e

defaulted-fault : (above : Above) (number : ℕ) (text : Text) (fault : SubstFault) → default_result above number text ≡ Err fault →
    NamesNone above.slots (first_word text) × (BadDirective number ≡ fault)
defaulted-fault above number text fault e =
    by (option_and_then (λ s. with_default s (first_word text) (default_of (rest_of text))) above.slots) refl e
  where
    by : (o : Option (List Slot)) → option_and_then (λ s. with_default s (first_word text) (default_of (rest_of text))) above.slots ≡ o →
        above_of_default above number o ≡ Err fault → NamesNone above.slots (first_word text) × (BadDirective number ≡ fault)
    by None none h = (names-none above.slots (first_word text) (default_of (rest_of text)) none, cc)
    by (Some slots) some h = cc

-- another character that is not just one
marked-fault : (above : Above) (number : ℕ) (mark : Mark) (text : Text) (fault : SubstFault) → mark_result above number mark text ≡ Err fault →
    (length text ≢ 1) × (BadDirective number ≡ fault)
marked-fault above number mark [] fault e = (λ one. omega (arith, one), cc)
marked-fault above number mark (c ∷ []) fault e = cc
marked-fault above number mark (c ∷ d ∷ cs) fault e = (λ one. omega (arith, one), cc)

fault-marked : (above : Above) (number : ℕ) (mark : Mark) (text : Text) → length text ≢ 1 → mark_result above number mark text ≡ Err (BadDirective number)
fault-marked above number mark [] none = refl
fault-marked above number mark (c ∷ []) none = absurd (none refl)
fault-marked above number mark (c ∷ d ∷ cs) none = refl

-- a template: a second one, or one that is not filled
abbrev KeyFault : Above → Bytes → ℕ → Text → SubstFault → Type 0
KeyFault above args number text fault =
    ((is_some above.slots ≡ true) × (BadDirective number ≡ fault))
    ⊎ ((is_some above.slots ≡ false) × (of_args : ArgFault) × (fill_of text args ≡ Err of_args) × (args_fault of_args ≡ fault))

keyed-fault : (above : Above) (args : Bytes) (number : ℕ) (text : Text) (fault : SubstFault) → key_result above args number text ≡ Err fault → KeyFault above args number text fault
keyed-fault above args number text fault =
    let P : Result Above SubstFault → Type 0 = λ r. r ≡ Err fault → KeyFault above args number text fault in
    cond_both (is_some above.slots) (Err (BadDirective number)) (above_of_slots above (slots_of_template text args)) P
    (λ second e. inl (second, cc))
    (λ first e. let it = filled (fill_of text args) refl e in inr (first, it.0, it.1, it.2))
  where
    filled : (r : Result (List Arg) ArgFault) → fill_of text args ≡ r → above_of_slots above (slots_of_args (options_of text) r) ≡ Err fault →
        (of_args : ArgFault) × (fill_of text args ≡ Err of_args) × (args_fault of_args ≡ fault)
    filled (Ok found) h e = cc
    filled (Err of_args) h e = (of_args, h, cc)

-- what a directive's fault is
directed-fault : (above : Above) (args : Bytes) (number : ℕ) (body : Text) (fault : SubstFault) → directive_result above args number body ≡ Err fault →
    (is_remark body ≡ false) × IsDirectiveFault above args number body fault
directed-fault above args number body fault =
    let P : Result Above SubstFault → Type 0 = λ r. r ≡ Err fault → (is_remark body ≡ false) × IsDirectiveFault above args number body fault in
    cond_both (is_remark body) (Ok above) (named_directive_result above args number (rest_of body) (directive_named (first_word body))) P
    (λ remark e. cc)
    (λ none e. (none, named (directive_named (first_word body)) refl e))
  where
    is : (found : SubstFault) → IsDirectiveFault above args number body found → found ≡ fault → IsDirectiveFault above args number body fault
    is found it same = subst (λ f. IsDirectiveFault above args number body f) same it

    named : (o : Option Directive) → directive_named (first_word body) ≡ o → named_directive_result above args number (rest_of body) o ≡ Err fault →
        IsDirectiveFault above args number body fault
    named None h e = let same : BadDirective number ≡ fault = cc in is (BadDirective number) (unknown h) same
    named (Some Key) h e = elim (keyed-fault above args number (rest_of body) fault e) [
      | inl second ↦ is (BadDirective number) (second_template h second.0) second.1
      | inr first ↦ is (args_fault first.1) (not_filled first.1 h first.0 first.2) first.3
    ]
    named (Some Default) h e =
        let it = defaulted-fault above number (rest_of body) fault e in
        is (BadDirective number) (no_option h it.0) it.1
    named (Some (Sets mark)) h e =
        let it = marked-fault above number mark (rest_of body) fault e in
        is (BadDirective number) (no_character mark h it.0) it.1

fault-named : {above : Above} {args : Bytes} {number : ℕ} {body : Text} {fault : SubstFault} → IsDirectiveFault above args number body fault →
    named_directive_result above args number (rest_of body) (directive_named (first_word body)) ≡ Err fault
fault-named {above} {args} {number} {body} (unknown h) = ap (named_directive_result above args number (rest_of body)) h
fault-named {above} {args} {number} {body} (second_template h second) =
    ap (named_directive_result above args number (rest_of body)) h
    ∙ ap (λ b. if b then Err (BadDirective number) else above_of_slots above (slots_of_template (rest_of body) args)) second
fault-named {above} {args} {number} {body} (not_filled of_args h first bad) =
    ap (named_directive_result above args number (rest_of body)) h
    ∙ ap (λ b. if b then Err (BadDirective number) else above_of_slots above (slots_of_template (rest_of body) args)) first
    ∙ ap (λ r. above_of_slots above (slots_of_args (options_of (rest_of body)) r)) bad
fault-named {above} {args} {number} {body} (no_option h none) =
    ap (named_directive_result above args number (rest_of body)) h
    ∙ ap (above_of_default above number) (none-named above.slots (first_word (rest_of body)) (default_of (rest_of (rest_of body))) none)
fault-named {above} {args} {number} {body} (no_character mark h none) =
    ap (named_directive_result above args number (rest_of body)) h ∙ fault-marked above number mark (rest_of body) none

fault-directed : (above : Above) (args : Bytes) (number : ℕ) (body : Text) (fault : SubstFault) → is_remark body ≡ false →
    IsDirectiveFault above args number body fault → directive_result above args number body ≡ Err fault
fault-directed above args number body fault none it =
    ap (λ b. if b then Ok above else named_directive_result above args number (rest_of body) (directive_named (first_word body))) none ∙ fault-named it

-- one more line before others, which has no fault
extend : (args : Bytes) (above next : Above) (number : ℕ) (line : Text) (lines : List Text) (fault : SubstFault) →
    ((front : List Text) (end : Above) → LinesLead args next (number + 1) front end → LinesLead args above number (line ∷ front) end) →
    FaultBelow args next (number + 1) lines fault → FaultBelow args above number (line ∷ lines) fault
extend args above next number line lines fault leads below =
    let same : number + 1 + length below.front ≡ number + length (line ∷ below.front) = omega arith in
    record {
      front = line ∷ below.front;
      line = below.line;
      rest = below.rest;
      body = below.body;
      there = below.there;
      joined = ap (λ l. line ∷ l) below.joined;
      led = leads below.front below.there below.led;
      directive = below.directive;
      no_remark = below.no_remark;
      bad = subst (λ n. IsDirectiveFault below.there args n below.body fault) same below.bad;
    }

with-line-fault : (line : Text) (rest : Result (List Text) SubstFault) (fault : SubstFault) → with_line line rest ≡ Err fault → rest ≡ Err fault
with-line-fault line (Ok more) fault e = cc
with-line-fault line (Err found) fault e = e

-- the fault of lines is one below what holds above them
abbrev Goes : Bytes → Text → ℕ → List Text → Type 0
Goes args process number lines = (above : Above) (fault : SubstFault) → substituted_lines args process above number lines ≡ Err fault → FaultBelow args above number lines fault

directive-fault : (args : Bytes) (process : Text) (above : Above) (number : ℕ) (line body : Text) (lines : List Text) (made : Result Above SubstFault) (fault : SubstFault) →
    Goes args process (number + 1) lines → directive_text above.marks.dot line ≡ Some body → directive_result above args number body ≡ made →
    lines_after_directive (λ next. substituted_lines args process next (number + 1) lines) made ≡ Err fault → FaultBelow args above number (line ∷ lines) fault
directive-fault args process above number line body lines (Ok next) fault goes some made e =
    extend args above next number line lines fault (λ front end led. directive above next end number line body front some made led)
    (goes next fault (with-line-fault [] (substituted_lines args process next (number + 1) lines) fault e))
directive-fault args process above number line body lines (Err found) fault goes some made e =
    let same : found ≡ fault = cc in
    let bad : directive_result above args number body ≡ Err fault = made ∙ ap Err same in
    let it = directed-fault above args number body fault bad in
    let place : number ≡ number + 0 = omega arith in
    record {
      front = [];
      line = line;
      rest = lines;
      body = body;
      there = above;
      joined = refl;
      led = here above number;
      directive = some;
      no_remark = it.0;
      bad = subst (λ n. IsDirectiveFault above args n body fault) place it.1;
    }

line-fault : (args : Bytes) (process : Text) (above : Above) (number : ℕ) (line : Text) (lines : List Text) (body : Option Text) (fault : SubstFault) →
    Goes args process (number + 1) lines → directive_text above.marks.dot line ≡ body →
    lines_from_line (λ next. substituted_lines args process next (number + 1) lines) args process above number line body ≡ Err fault →
    FaultBelow args above number (line ∷ lines) fault
line-fault args process above number line lines None fault goes none e =
    extend args above above number line lines fault (λ front end led. other above end number line front none led)
    (goes above fault (with-line-fault (substituted_line above.marks (reference_value above process) line) (substituted_lines args process above (number + 1) lines) fault e))
line-fault args process above number line lines (Some body) fault goes some e =
    directive-fault args process above number line body lines (directive_result above args number body) fault goes some refl e

lines-fault : (args : Bytes) (process : Text) (number : ℕ) (lines : List Text) → Goes args process number lines
lines-fault args process number [] above fault e = cc
lines-fault args process number (line ∷ lines) above fault e =
    line-fault args process above number line lines (directive_text above.marks.dot line) fault (lines-fault args process (number + 1) lines) refl e

-- and a fault below it is the fault of the lines
led-fault : (args : Bytes) (process : Text) {above there : Above} {number : ℕ} {front : List Text} → LinesLead args above number front there →
    (line : Text) (rest : List Text) (body : Text) (fault : SubstFault) → directive_text there.marks.dot line ≡ Some body →
    directive_result there args (number + length front) body ≡ Err fault → substituted_lines args process above number (front ++ line ∷ rest) ≡ Err fault
led-fault args process (here above number) line rest body fault some bad =
    let place : number ≡ number + 0 = omega arith in
    ap (lines_from_line (λ next. substituted_lines args process next (number + 1) rest) args process above number line) some
    ∙ ap (lines_after_directive (λ next. substituted_lines args process next (number + 1) rest)) (ap (λ n. directive_result above args n body) place ∙ bad)
led-fault args process (directive above next end number first its lines has made led) line rest body fault some bad =
    let place : number + 1 + length lines ≡ number + length (first ∷ lines) = omega arith in
    ap (lines_from_line (λ other. substituted_lines args process other (number + 1) (lines ++ line ∷ rest)) args process above number first) has
    ∙ (ap (lines_after_directive (λ other. substituted_lines args process other (number + 1) (lines ++ line ∷ rest))) made
    ∙ ap (with_line []) (led-fault args process led line rest body fault some (ap (λ n. directive_result end args n body) place ∙ bad)))
led-fault args process (other above end number first lines none led) line rest body fault some bad =
    let place : number + 1 + length lines ≡ number + length (first ∷ lines) = omega arith in
    ap (lines_from_line (λ next. substituted_lines args process next (number + 1) (lines ++ line ∷ rest)) args process above number first) none
    ∙ ap (with_line (substituted_line above.marks (reference_value above process) first)) (led-fault args process led line rest body fault some (ap (λ n. directive_result end args n body) place ∙ bad))

pub first-directive : (lines : List Text) (args : Bytes) (process : Text) (fault : SubstFault) →
    (script_of lines args process ≡ Err fault) ↔ (is_dotted lines ≡ true) × IsFirstFault args lines fault
first-directive lines args process fault = (stands, λ it. is it.0 it.1)
  where
    stands : script_of lines args process ≡ Err fault → (is_dotted lines ≡ true) × IsFirstFault args lines fault
    stands =
        let P : Result (List Text) SubstFault → Type 0 = λ r. r ≡ Err fault → (is_dotted lines ≡ true) × IsFirstFault args lines fault in
        cond_both (is_dotted lines) (substituted_lines args process initial_above 1 lines) (Ok lines) P
        (λ dotted e. (dotted, lines-fault args process 1 lines initial_above fault e)) (λ plain e. cc)

    is : is_dotted lines ≡ true → IsFirstFault args lines fault → script_of lines args process ≡ Err fault
    is dotted it =
        ap (λ b. if b then substituted_lines args process initial_above 1 lines else Ok lines) dotted
        ∙ (ap (substituted_lines args process initial_above 1) it.joined
        ∙ led-fault args process it.led it.line it.rest it.body fault it.directive
        (fault-directed it.there args (1 + length it.front) it.body fault it.no_remark it.bad))
