-- Where Skip, If and Else lead is where a manual says that they do.
use Rattle.std.proofs.Common.{ℕ, zero, suc, ◌+◌, ◌-◌, ◌<◌, ◌≡◌, ◌∙◌, List, [], ◌∷◌, Bool, true, false, ◌==◌, ◌&&◌, Option, Some, length, map, drop, get_or, refl, ap, sym, inl, inr, arith, add-one, if◌then◌else◌}
use Rattle.std.specs.List.{range_with_len}
use Rattle.std.specs.Prelude.{codes}
use Rattle.std.proofs.lemmas.Bool.{cases_Bool}
use Rattle.std.proofs.lemmas.Bool.Decides.{nat_tests}
use Rattle.std.proofs.lemmas.List.{drop_more, length-drop}
use Rattle.std.proofs.lemmas.Option.{slice_get-get_or}
use Rattle.std.proofs.lemmas.Slice.Eq.{bytes_eq-Decides}
use Rattle.ados_text.specs.Text.{Text, folded_text, is_same}
use Rattle.ados_items.specs.declared.items.Item.{Item}
use Rattle.ados_items.specs.declared.items.Item.TheVariants.{Word, Quoted, Equal, End, Unmatched}
use Rattle.ados_items.specs.Items.{item_at, bytes_between}
use Rattle.ados_resident.specs.declared.dialects.Dialect.{Dialect}
use Rattle.ados_script.specs.declared.heads.Head.{Head}
use Rattle.ados_script.specs.declared.heads.Head.TheVariants as head
use Rattle.ados_script.specs.declared.jumps.Jump.TheVariants.{To, EndSkip}
use Rattle.ados_script.specs.Heads.{head_of, head_of_item, head_of_word}
use Rattle.ados_script.specs.Jumps.{jump_to_next}
use Rattle.ados_script.specs.Lines.{line_of, numbers_below}
use Rattle.ados_script.specs.Skips.{stops, is_end_skip, skip_below}
use Rattle.ados_script.proofs.BlockLemmas.{ended, ended-is}
use Rattle.ados_machine.specs.Manual.{is_word, begins_with, past_block, past_label, IfsLeadPastTheirBlock, ElsesLeadPastTheirBlock, SkipsLeadPastTheirLabel}

-- the kind of a line by the words with which it may begin
abbrev kind_by : Bool → Bool → Bool → Bool → Bool → Head
kind_by a b c d e = if a then head.If else (if b then head.Else else (if c then head.EndIf else (if d then head.EndSkip else (if e then head.Lab else head.Other))))

kind-of-item : (line : Text) (item : Item) → head_of_item line item
    ≡ kind_by (is_word line (codes "If") item) (is_word line (codes "Else") item) (is_word line (codes "EndIf") item) (is_word line (codes "EndSkip") item) (is_word line (codes "Lab") item)
kind-of-item line (Word from to) = refl
kind-of-item line (Quoted from to) = refl
kind-of-item line (Equal at) = refl
kind-of-item line (End at) = refl
kind-of-item line (Unmatched at) = refl

kind-of-line : (line : Text) → head_of line
    ≡ kind_by (begins_with line (codes "If")) (begins_with line (codes "Else")) (begins_with line (codes "EndIf")) (begins_with line (codes "EndSkip")) (begins_with line (codes "Lab"))
kind-of-line line = kind-of-item line (item_at true line 0)

-- one line more on the way to the end of a block
one-more : (at_else : Bool) (depth i : ℕ) (rest : List Head) (lines : List Text) (a b c d e : Bool) →
    ((n : ℕ) → jump_to_next (ended at_else n (i + 1) rest) ≡ past_block at_else n (i + 1) lines) →
    jump_to_next (ended at_else depth i (kind_by a b c d e ∷ rest))
    ≡ (if a then past_block at_else (suc depth) (i + 1) lines else
    (if b then (if at_else && (depth == 0) then To (i + 1 + 1) else past_block at_else depth (i + 1) lines) else
    (if c then (if depth == 0 then To (i + 1 + 1) else past_block at_else (depth - 1) (i + 1) lines) else
    past_block at_else depth (i + 1) lines)))
one-more at_else depth i rest lines true b c d e same = same (suc depth)
one-more true zero i rest lines false true c d e same = refl
one-more false zero i rest lines false true c d e same = same zero
one-more true (suc depth) i rest lines false true c d e same =
    let inside : (suc depth == 0) ≡ false = grind (arith, nat_tests) in
    rw inside (same (suc depth))
one-more false (suc depth) i rest lines false true c d e same = same (suc depth)
one-more at_else zero i rest lines false false true d e same = refl
one-more at_else (suc depth) i rest lines false false true d e same =
    let inside : (suc depth == 0) ≡ false = grind (arith, nat_tests) in
    let less : suc depth - 1 ≡ depth = omega arith in
    rw (inside, less) (same depth)
one-more at_else depth i rest lines false false false true e same = same depth
one-more at_else depth i rest lines false false false false true same = same depth
one-more at_else depth i rest lines false false false false false same = same depth

block-is : (at_else : Bool) (depth i : ℕ) (lines : List Text) → jump_to_next (ended at_else depth i (map head_of lines)) ≡ past_block at_else depth i lines
block-is at_else depth i [] = refl
block-is at_else depth i (line ∷ lines) =
    rw (kind-of-line line)
    (one-more at_else depth i (map head_of lines) lines (begins_with line (codes "If")) (begins_with line (codes "Else")) (begins_with line (codes "EndIf"))
    (begins_with line (codes "EndSkip")) (begins_with line (codes "Lab")) (λ n. block-is at_else n (i + 1) lines))

drop-map : (i : ℕ) (lines : List Text) → drop i (map head_of lines) ≡ map head_of (drop i lines)
drop-map zero lines = refl
drop-map (suc i) [] = refl
drop-map (suc i) (line ∷ lines) = drop-map i lines

pub ifs-lead : IfsLeadPastTheirBlock
ifs-lead lines i = ap jump_to_next (sym (ended-is true (map head_of lines) i)) ∙ (ap (λ heads. jump_to_next (ended true 0 i heads)) (drop-map i lines) ∙ block-is true 0 i (drop i lines))

pub elses-lead : ElsesLeadPastTheirBlock
elses-lead lines i = ap jump_to_next (sym (ended-is false (map head_of lines) i)) ∙ (ap (λ heads. jump_to_next (ended false 0 i heads)) (drop-map i lines) ∙ block-is false 0 i (drop i lines))

-- a word that is the same as another has its kind
kind-same : (word other : Text) → is_same word other ≡ true → head_of_word word ≡ head_of_word other
kind-same word other same = let folded = (bytes_eq-Decides (folded_text word) (folded_text other)).0 same in rw folded refl

kind-begins : (line other : Text) (item : Item) → is_word line other item ≡ true → head_of_item line item ≡ head_of_word other
kind-begins line other (Word from to) same = kind-same (bytes_between line from to) other same
kind-begins line other (Quoted from to) same = cc
kind-begins line other (Equal at) same = cc
kind-begins line other (End at) same = cc
kind-begins line other (Unmatched at) same = cc

-- a line at which no Skip stops
passes : (dialect : Dialect) (label : Option Text) (line : Text) (a b c : Bool) → stops dialect label line (kind_by a b c false false) ≡ false
passes dialect label line true b c = refl
passes dialect label line false true c = refl
passes dialect label line false false true = refl
passes dialect label line false false false = refl

-- the next line, and what is below it
record IsNextLine (lines : List Text) (i : ℕ) (line : Text) (rest : List Text) : Type 0 where
  within : i < length lines
  here : line_of lines (i + 1) ≡ Some line
  after : drop (i + 1) lines ≡ rest

next-line : (lines : List Text) (i : ℕ) (line : Text) (rest : List Text) → drop i lines ≡ line ∷ rest → IsNextLine lines i line rest
next-line lines i line rest e =
    let long : i < length lines = omega (arith, length-drop i lines, ap length e) in
    let parts = sym (drop_more lines i line long) ∙ e in
    let first : get_or lines i line ≡ line = ap (λ (l : List Text). get_or l 0 line) parts in
    record {
      within = long;
      here = rw add-one (slice_get-get_or lines i line long ∙ ap Some first);
      after = ap (λ (l : List Text). drop 1 l) parts;
    }

below-more : (lines : List Text) (i : ℕ) → i < length lines → numbers_below lines i ≡ (i + 1) ∷ numbers_below lines (i + 1)
below-more lines i h =
    let left : length lines - i ≡ suc (length lines - (i + 1)) = omega arith in
    ap (range_with_len (i + 1)) left

-- the search of a Skip at its next line
at-line : (dialect : Dialect) (label : Option Text) (lines : List Text) (i : ℕ) (line : Text) (rest : List Text) (kind : Head) → IsNextLine lines i line rest → head_of line ≡ kind →
    skip_below dialect label lines i
    ≡ (if stops dialect label line kind then (if is_end_skip kind then EndSkip (i + 1 + 1) else To (i + 1 + 1)) else skip_below dialect label lines (i + 1))
at-line dialect label lines i line rest kind next is =
    rw (below-more lines i next.within, next.here, is)
    (elim (cases_Bool (stops dialect label line kind)) [
      | inl stop ↦ rw (stop, next.here, is) refl
      | inr on ↦ rw on refl
    ])

skip-is : (dialect : Dialect) (label : Option Text) (lines : List Text) (i : ℕ) (rest : List Text) → drop i lines ≡ rest → skip_below dialect label lines i ≡ past_label dialect label i rest
skip-is dialect label lines i [] e =
    let none : length lines - i ≡ 0 = omega (arith, length-drop i lines, ap length e) in
    rw none refl
skip-is dialect label lines i (line ∷ rest) e =
    let next = next-line lines i line rest e in
    let on = skip-is dialect label lines (i + 1) rest next.after in
    elim (cases_Bool (begins_with line (codes "EndSkip"))) [
      | inl stop ↦ rw (at-line dialect label lines i line rest head.EndSkip next (kind-begins line (codes "EndSkip") (item_at true line 0) stop), stop) refl
      | inr no_stop ↦ rw no_stop
          (elim (cases_Bool (begins_with line (codes "Lab"))) [
            | inl lab ↦ rw (at-line dialect label lines i line rest head.Lab next (kind-begins line (codes "Lab") (item_at true line 0) lab), lab, on) refl
            | inr no_lab ↦ rw no_lab
                (at-line dialect label lines i line rest (kind_by (begins_with line (codes "If")) (begins_with line (codes "Else")) (begins_with line (codes "EndIf")) false false) next (kind-of-line line ∙ rw (no_stop, no_lab) refl)
                ∙ rw (passes dialect label line (begins_with line (codes "If")) (begins_with line (codes "Else")) (begins_with line (codes "EndIf"))) on)
          ])
    ]

pub skips-lead : SkipsLeadPastTheirLabel
skips-lead dialect lines i label true = skip-is dialect label lines 0 lines refl
skips-lead dialect lines i label false = skip-is dialect label lines i (drop i lines) refl
