-- the cut of a line is its pieces, or the first fault
use Rattle.std.proofs.Common.{ℕ, zero, suc, ◌+◌, ◌<◌, ◌≤◌, ◌≡◌, ◌∙◌, List, ◌++◌, true, false, ◌||◌, Option, Some, None, Result, Ok, Err, IfOk, length, drop, refl, ap, sym, subst, arith, append_assoc, append-nil, inl, inr}
use Rattle.std.specs.List.{flat_map}
use Rattle.std.proofs.lemmas.Bool.{both_ways, cond_both}
use Rattle.std.proofs.lemmas.List.{length-append, length-drop, drop_all}
use Rattle.ados_items.specs.declared.items.Item.{Item}
use Rattle.ados_items.specs.declared.items.Item.TheVariants.{Word, Quoted, Equal, End, Unmatched}
use Rattle.ados_items.specs.Items.{item_at, value_of, bytes_between}
use Rattle.ados_items.proofs.ItemLemmas.{StandsAfter, item-after}
use Rattle.ados_line.specs.declared.faults.LineFault.{LineFault}
use Rattle.ados_line.specs.declared.faults.LineFault.TheVariants.{ArgumentMissing, TooManyArguments, NotImplemented, UnmatchedQuotes}
use Rattle.ados_line.specs.declared.signs.Sign.{Sign}
use Rattle.ados_line.specs.declared.signs.Sign.TheVariants.{Input, Output, Append}
use Rattle.ados_line.specs.declared.cuts.Cut.{Cut}
use Rattle.ados_line.specs.declared.lines.Expanded.{Expanded}
use Rattle.ados_line.specs.Signs.{begins, is_both, sign_at, width_of}
use Rattle.ados_line.specs.Cut.{with_blanks, with_name, read_name, is_taken, read_redirection, by_sign, cut_word, cut_item, is_run, with_rest, run_word, run_item, cut_item_by_command, cut_later_items, cut_of, nothing_read, line_or_nothing, expanded_of_cut}
use Rattle.ados_line.specs.Answers.{Gives}
use Rattle.ados_line.specs.FirstFault.{is_redirected, IsFaultAt, second, no_name, both, open_name, open_item, IsFirstFault}
use Rattle.ados_line.specs.Pieces.{sign_bytes, piece_bytes, EndsAt, is_signed, command_of, IsOfPieces}
use Rattle.ados_line.proofs.PieceLemmas.{Parts, spans-between, spans-rest, none-left, kept-parts, blank-parts, run-blank-parts, rest-parts, name-parts}
use Rattle.ados_line.proofs.CutSteps.{Comes, both-signed, lift, no-equal-at, sign-here, signed, stop, taken-named, unsigned, wide}

-- what is known about the line's cut from a later place on
abbrev GoesOn : (ℕ → Cut → Result Cut LineFault) → List ℕ → Result Cut LineFault → ℕ → Type 0
GoesOn next line answer place = (to : ℕ) (read : Cut) → place < to → to ≤ length line → next to read ≡ answer → Comes line to read answer

on-later : (next : ℕ → Cut → Result Cut LineFault) (line : List ℕ) (answer : Result Cut LineFault) (place tail : ℕ) → place ≤ tail
    → GoesOn next line answer place → GoesOn next line answer tail
on-later next line answer place tail h goes = λ to read above within e. goes to read (omega arith) within e

sign-long : (sign : Sign) → length (sign_bytes sign) ≡ width_of sign
sign-long Input = refl
sign-long Output = refl
sign-long Append = refl

-- a redirection whose name is the item after its sign, and ends at a place
signed-parts : (next : ℕ → Cut → Result Cut LineFault) (line : List ℕ) (read : Cut) (answer : Result Cut LineFault) (from : ℕ) (sign : Sign) (item : Item) (to : ℕ)
    → sign_at line from ≡ Some sign → is_both line from ≡ false
    → item_at false line (from + width_of sign) ≡ item → EndsAt to item → from + width_of sign ≤ to → to ≤ length line → is_taken sign read ≡ false
    → GoesOn next line answer from → next to (with_name sign (value_of line item) read) ≡ answer → Comes line from read answer
signed-parts next line read answer from sign item to found single same ends above within free goes e =
    let start = from + width_of sign in
    let w = wide sign in
    let tail = bytes_between line start to in
    let spans = spans-between line start to above within in
    let wide_sign = sign-long sign in
    let joins = length-append (sign_bytes sign) tail in
    let P : ℕ → Type 0 = λ k. EndsAt k (item_at false line start) in
    lift line from to read (with_name sign (value_of line item) read) answer
    (λ end after p. name-parts line from to end sign tail (value_of line item) read after free
    (sign-here line from sign found ∙ ap (λ l. sign_bytes sign ++ l) spans.0 ∙ sym (append_assoc (sign_bytes sign) tail (drop to line)), omega (arith, joins, wide_sign, spans.1))
    (found, single, subst P (sym spans.1) (rw same ends), ap (value_of line) (sym same)) p)
    (goes to _ (omega (arith, w)) within e)

named-parts : (next : ℕ → Cut → Result Cut LineFault) (line : List ℕ) (read : Cut) (answer : Result Cut LineFault) (from : ℕ) (sign : Sign) (item : Item)
    → sign_at line from ≡ Some sign → is_both line from ≡ false → from ≤ length line
    → item_at false line (from + width_of sign) ≡ item → StandsAfter (from + width_of sign) (length line) item → is_taken sign read ≡ false
    → GoesOn next line answer from → read_name next line sign read item ≡ answer → Comes line from read answer
named-parts next line read answer from sign (Word start to) found single inside same stands free goes e =
    signed-parts next line read answer from sign (Word start to) to found single same refl (omega (arith, stands.0, stands.1)) stands.2 free goes e
named-parts next line read answer from sign (Quoted start to) found single inside same stands free goes e =
    signed-parts next line read answer from sign (Quoted start to) (to + 1) found single same refl (omega (arith, stands.0, stands.1)) (omega (arith, stands.2)) free goes e
named-parts next line read answer from sign (Equal at) found single inside same stands free goes e = absurd (no-equal-at line (from + width_of sign) at same)
named-parts next line read answer from sign (End at) found single inside same stands free goes e =
    stop line from read ArgumentMissing answer inside (no_name sign at found single (taken-named sign read ∙ free) same) e
named-parts next line read answer from sign (Unmatched start) found single inside same stands free goes e =
    stop line from read UnmatchedQuotes answer inside (open_name sign start found single (taken-named sign read ∙ free) same) e

redirected-parts : (next : ℕ → Cut → Result Cut LineFault) (line : List ℕ) (read : Cut) (answer : Result Cut LineFault) (from : ℕ) (sign : Sign)
    → sign_at line from ≡ Some sign → is_both line from ≡ false → from ≤ length line
    → GoesOn next line answer from → read_redirection next line from read sign ≡ answer → Comes line from read answer
redirected-parts next line read answer from sign found single inside goes =
    let P : Result Cut LineFault → Type 0 = λ r. r ≡ answer → Comes line from read answer in
    cond_both (is_taken sign read) (Err TooManyArguments) _ P
    (λ taken e. stop line from read TooManyArguments answer inside (second sign found single (taken-named sign read ∙ taken)) e)
    (λ free e. named-parts next line read answer from sign _ found single inside refl (item-after false line (from + width_of sign)) free goes e)

-- blanks before a word that is not a piece of the arguments
blanks-lift : (line : List ℕ) (read : Cut) (answer : Result Cut LineFault) (place from to : ℕ) → item_at true line place ≡ Word from to
    → place ≤ from → from ≤ length line → is_run read.command ≡ false
    → Comes line from (with_blanks read.command (bytes_between line place from) read) answer → Comes line place read answer
blanks-lift line read answer place from to same before inside other =
    let bytes = bytes_between line place from in
    let spans = spans-between line place from before inside in
    lift line place from read (with_blanks read.command bytes read) answer
    (λ end after p. blank-parts line place from end bytes read after read.command refl other spans
    (rw same (omega (arith, spans.1)), λ runs. absurd (both_ways _ other runs)) p)

-- a word
sign-parts : (next : ℕ → Cut → Result Cut LineFault) (line : List ℕ) (read : Cut) (answer : Result Cut LineFault) (place from to : ℕ) (sign : Option Sign)
    → sign_at line from ≡ sign → is_both line from ≡ false → item_at true line place ≡ Word from to
    → place ≤ from → from < to → to ≤ length line → is_run read.command ≡ false → GoesOn next line answer place
    → by_sign next line place read from to sign ≡ answer → Comes line place read answer
sign-parts next line read answer place from to (Some sign) found single same before long within other goes e =
    blanks-lift line read answer place from to same before (omega arith) other
    (redirected-parts next line _ answer from sign found single (omega arith) (on-later next line answer place from before goes) e)
sign-parts next line read answer place from to None found single same before long within other goes e =
    let spans = spans-between line place to (omega arith) within in
    lift line place to read _ answer
    (λ end after p. kept-parts line place to end (bytes_between line place to) _ read after read.command refl spans
    (rw same (other, spans.1, refl, unsigned line from found)) p)
    (goes to _ (omega arith) within e)

word-parts : (next : ℕ → Cut → Result Cut LineFault) (line : List ℕ) (read : Cut) (answer : Result Cut LineFault) (place from to : ℕ) → item_at true line place ≡ Word from to
    → place ≤ from → from < to → to ≤ length line → is_run read.command ≡ false → GoesOn next line answer place
    → cut_word next line place read from to ≡ answer → Comes line place read answer
word-parts next line read answer place from to same before long within other goes =
    let P : Result Cut LineFault → Type 0 = λ r. r ≡ answer → Comes line place read answer in
    cond_both (is_both line from) (Err NotImplemented) _ P
    (λ two e. blanks-lift line read answer place from to same before (omega arith) other
    (stop line from _ NotImplemented answer (omega arith) (both two) e))
    (λ single e. sign-parts next line read answer place from to (sign_at line from) refl single same before long within other goes e)

-- any item if the command is not Run
item-parts : (next : ℕ → Cut → Result Cut LineFault) (line : List ℕ) (read : Cut) (answer : Result Cut LineFault) (place : ℕ) (item : Item) → item_at true line place ≡ item
    → place ≤ length line → StandsAfter place (length line) item → is_run read.command ≡ false → GoesOn next line answer place
    → cut_item next line place read item ≡ answer → Comes line place read answer
item-parts next line read answer place (Word from to) same inside stands other goes e =
    word-parts next line read answer place from to same stands.0 stands.1 stands.2 other goes e
item-parts next line read answer place (Quoted from to) same inside stands other goes e =
    let spans = spans-between line place (to + 1) (omega (arith, stands.0, stands.1)) (omega (arith, stands.2)) in
    lift line place (to + 1) read _ answer
    (λ end after p. kept-parts line place (to + 1) end _ _ read after read.command refl spans (rw same (other, spans.1, refl, refl)) p)
    (goes (to + 1) _ (omega (arith, stands.0, stands.1)) (omega (arith, stands.2)) e)
item-parts next line read answer place (Equal at) same inside stands other goes e =
    let spans = spans-between line place (at + 1) (omega (arith, stands.0)) (omega (arith, stands.1)) in
    lift line place (at + 1) read _ answer
    (λ end after p. kept-parts line place (at + 1) end _ _ read after read.command refl spans (rw same (other, spans.1, refl, refl)) p)
    (goes (at + 1) _ (omega (arith, stands.0)) (omega (arith, stands.1)) e)
item-parts next line read answer place (End at) same inside stands other goes e =
    let P : Result Cut LineFault → Type 0 = λ it. Comes line place read it in
    let spans = spans-rest line place inside in
    subst P e (blank-parts line place (length line) (length line) _ read _ read.command refl other spans
    (rw same spans.1, λ runs. absurd (both_ways _ other runs)) (none-left line (length line) _))
item-parts next line read answer place (Unmatched from) same inside stands other goes e =
    stop line place read UnmatchedQuotes answer inside (open_item from other same) e

-- after Run: the rest of the line, if no sign begins there
abbrev rested : List ℕ → ℕ → Cut → Result Cut LineFault
rested line place read = Ok (with_rest (drop place line) read)

rest-left : (line : List ℕ) (read : Cut) (answer : Result Cut LineFault) (place : ℕ) → place ≤ length line → is_run read.command ≡ true
    → is_signed line (item_at true line place) ≡ false → rested line place read ≡ answer → Comes line place read answer
rest-left line read answer place inside runs none e =
    let P : Result Cut LineFault → Type 0 = λ it. Comes line place read it in
    let spans = spans-rest line place inside in
    subst P e (rest-parts line place (length line) (drop place line) read _ read.command refl runs spans (runs, spans.1, none) (none-left line (length line) _))

-- blanks before a sign after Run
run-lift : (line : List ℕ) (read : Cut) (answer : Result Cut LineFault) (place from to : ℕ) → item_at true line place ≡ Word from to
    → place ≤ from → from ≤ length line → is_run read.command ≡ true → (begins line 60 from || begins line 62 from) ≡ true
    → Comes line from read answer → Comes line place read answer
run-lift line read answer place from to same before inside runs sign =
    let bytes = bytes_between line place from in
    let spans = spans-between line place from before inside in
    lift line place from read read answer
    (λ end after p. run-blank-parts line place from end bytes read after read.command refl runs spans
    (rw same (omega (arith, spans.1)), λ _. rw same sign) p)

run-word-parts : (next : ℕ → Cut → Result Cut LineFault) (line : List ℕ) (read : Cut) (answer : Result Cut LineFault) (place from to : ℕ) (sign : Option Sign) → sign_at line from ≡ sign
    → is_both line from ≡ false → item_at true line place ≡ Word from to → place ≤ from → from < to → to ≤ length line → is_run read.command ≡ true
    → GoesOn next line answer place → run_word next line place read from sign ≡ answer → Comes line place read answer
run-word-parts next line read answer place from to (Some sign) found single same before long within runs goes e =
    run-lift line read answer place from to same before (omega arith) runs (signed line from sign found)
    (redirected-parts next line read answer from sign found single (omega arith) (on-later next line answer place from before goes) e)
run-word-parts next line read answer place from to None found single same before long within runs goes e =
    rest-left line read answer place (omega arith) runs (rw same (unsigned line from found)) e

run-any-parts : (next : ℕ → Cut → Result Cut LineFault) (line : List ℕ) (read : Cut) (answer : Result Cut LineFault) (place from to : ℕ) → item_at true line place ≡ Word from to
    → place ≤ from → from < to → to ≤ length line → is_run read.command ≡ true → GoesOn next line answer place
    → run_item next line place read (Word from to) ≡ answer → Comes line place read answer
run-any-parts next line read answer place from to same before long within runs goes =
    let P : Result Cut LineFault → Type 0 = λ r. r ≡ answer → Comes line place read answer in
    cond_both (is_both line from) (Err NotImplemented) _ P
    (λ two e. run-lift line read answer place from to same before (omega arith) runs (both-signed line from two)
    (stop line from read NotImplemented answer (omega arith) (both two) e))
    (λ single e. run-word-parts next line read answer place from to (sign_at line from) refl single same before long within runs goes e)

run-item-parts : (next : ℕ → Cut → Result Cut LineFault) (line : List ℕ) (read : Cut) (answer : Result Cut LineFault) (place : ℕ) (item : Item) → item_at true line place ≡ item
    → place ≤ length line → StandsAfter place (length line) item → is_run read.command ≡ true → GoesOn next line answer place
    → run_item next line place read item ≡ answer → Comes line place read answer
run-item-parts next line read answer place (Word from to) same inside stands runs goes e =
    run-any-parts next line read answer place from to same stands.0 stands.1 stands.2 runs goes e
run-item-parts next line read answer place (Quoted from to) same inside stands runs goes e = rest-left line read answer place inside runs (rw same refl) e
run-item-parts next line read answer place (Equal at) same inside stands runs goes e = rest-left line read answer place inside runs (rw same refl) e
run-item-parts next line read answer place (End at) same inside stands runs goes e = rest-left line read answer place inside runs (rw same refl) e
run-item-parts next line read answer place (Unmatched from) same inside stands runs goes e = rest-left line read answer place inside runs (rw same refl) e

-- any item
after-parts : (next : ℕ → Cut → Result Cut LineFault) (line : List ℕ) (read : Cut) (answer : Result Cut LineFault) (place : ℕ) (item : Item) → item_at true line place ≡ item
    → place ≤ length line → StandsAfter place (length line) item → GoesOn next line answer place
    → cut_item_by_command next line place read item ≡ answer → Comes line place read answer
after-parts next line read answer place item same inside stands goes =
    let P : Result Cut LineFault → Type 0 = λ r. r ≡ answer → Comes line place read answer in
    cond_both (is_run read.command) (run_item next line place read item) (cut_item next line place read item) P
    (λ runs e. run-item-parts next line read answer place item same inside stands runs goes e)
    (λ other e. item-parts next line read answer place item same inside stands other goes e)

parts-from : (n : ℕ) (line : List ℕ) (place : ℕ) (read : Cut) (answer : Result Cut LineFault) → place ≤ length line → length line < n + place
    → cut_later_items n line place read ≡ answer → Comes line place read answer
parts-from zero line place read answer within enough e = absurd (omega arith)
parts-from (suc n) line place read answer within enough e =
    after-parts (cut_later_items n line) line read answer place (item_at true line place) refl within (item-after true line place)
    (λ to more above end h. parts-from n line to more answer end (omega arith) h) e

-- pieces up to the end are the line
all-joined : (line bytes : List ℕ) → bytes ++ drop (length line) line ≡ line → bytes ≡ line
all-joined line bytes e = sym (append-nil bytes) ∙ ap (λ l. bytes ++ l) (sym (drop_all (length line) line (omega arith))) ∙ e

came-parts : (line : List ℕ) (read : Cut) (command : Option (List ℕ)) → read.command ≡ command
    → Parts line 0 (length line) nothing_read read → IsOfPieces line (line_or_nothing command read)
came-parts line read None e p = let a = p.1 in (p.0, record { joined = all-joined line (flat_map piece_bytes p.0) a.joined; placed = a.placed }, sym a.command ∙ e)
came-parts line read (Some text) e p =
    let a = p.1 in (
      p.0,
      record { joined = all-joined line (flat_map piece_bytes p.0) a.joined; placed = a.placed },
      record {
        command = sym a.command ∙ e;
        args = sym a.args;
        input = sym a.input;
        output = sym a.output;
      },
    )

by-cut : (line : List ℕ) (cut : Result Cut LineFault) → cut_of line ≡ cut → (found : Expanded) → expanded_of_cut cut ≡ Ok found → IsOfPieces line found
by-cut line (Ok read) h found e =
    let same : line_or_nothing read.command read ≡ found = cc in
    let P : Expanded → Type 0 = λ it. IsOfPieces line it in
    subst P same (came-parts line read read.command refl (parts-from (length line + 1) line 0 nothing_read (Ok read) (omega arith) (omega arith) h))
by-cut line (Err fault) h found e = cc

-- what a line is read as, if it was cut
pub of_pieces : (result : Result Expanded LineFault) (line : List ℕ) → Gives result (expanded_of_cut (cut_of line)) → IfOk result (IsOfPieces line)
of_pieces (Ok found) line (inl none) = cc
of_pieces (Ok found) line (inr same) = by-cut line _ refl found (sym same)
of_pieces (Err fault) line h = tt

-- the length of the pieces before a place
ends-at : (line bytes : List ℕ) (end : ℕ) → bytes ++ drop end line ≡ line → end ≤ length line → end ≡ length bytes
ends-at line bytes end e within =
    let whole = length-append bytes (drop end line) in
    let left = length-drop end line in
    let same = ap length e in
    omega (arith, whole, left, same)

-- why a line was not cut
pub first-fault : (line : List ℕ) (fault : LineFault) → cut_of line ≡ Err fault → IsFirstFault line fault
first-fault line fault e =
    let p = parts-from (length line + 1) line 0 nothing_read (Err fault) (omega arith) (omega arith) e in
    let pieces = p.2.0 in
    let after = p.1 in
    let a = p.2.1 in
    let place = ends-at line (flat_map piece_bytes pieces) p.0 a.joined p.3 in
    let C : Option (List ℕ) → Type 0 = λ command. IsFaultAt line command (is_redirected after.input after.output) p.0 fault in
    let P : ℕ → Type 0 = λ at. IsFaultAt line (command_of pieces) (is_redirected after.input after.output) at fault in
    record {
      pieces = pieces;
      rest = drop p.0 line;
      input = after.input;
      output = after.output;
      joined = a.joined;
      placed = a.placed;
      inputs_are = sym a.input;
      outputs_are = sym a.output;
      here = subst P place (subst C a.command p.4);
    }
