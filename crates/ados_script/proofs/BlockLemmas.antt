-- where a block ends: found by depth, and by the entries of the lines below
use Rattle.std.proofs.Common.{ℕ, zero, suc, ◌+◌, ◌-◌, ◌<◌, ◌≤◌, ◌≡◌, ◌∙◌, List, [], ◌∷◌, Bool, true, false, cond, ◌==◌, ◌&&◌, Option, Some, None, length, get_or, drop, refl, ap, sym, arith}
use Rattle.std.specs.List.{count_by, find}
use Rattle.std.proofs.lemmas.Bool.Decides.{nat_tests}
use Rattle.std.proofs.lemmas.List.{drop_more, get_or-drop, length-drop}
use Rattle.std.proofs.lemmas.List.Sums.{sum_by_more}
use Rattle.ados_script.specs.declared.heads.Head.{Head}
use Rattle.ados_script.specs.declared.heads.Head.TheVariants.{If, Else, EndIf, EndSkip, Lab, Other}
use Rattle.ados_script.specs.Blocks.{is_if, is_end, is_end_if, ends_block, is_level}
use Rattle.ados_script.specs.Lines.{numbers_below, lines_between}
use Rattle.ados_script.proofs.LineLemmas.{find-here, find-further, find-past, line_of-place}

-- the next line ends the block if it is such a line and no inner block is open
ends_block-place : (at_else : Bool) (lines : List Head) (from i depth : ℕ) (d : Head) → i < length lines
    → count_by is_if (lines_between lines from (i + 1)) ≡ depth + count_by is_end_if (lines_between lines from (i + 1))
    → ends_block at_else lines from (i + 1) ≡ (is_end at_else (get_or lines i d) && (depth == 0))
ends_block-place at_else lines from i depth d h counted =
    let level : is_level (lines_between lines from (i + 1)) ≡ (depth == 0) = grind (arith, nat_tests) in
    rw (line_of-place lines i d h, level) refl

-- one more line between
count_by-between : (test : Head → Bool) (lines : List Head) (from i : ℕ) (d : Head) → from ≤ i → i < length lines
    → count_by test (lines_between lines from (i + 1 + 1)) ≡ count_by test (lines_between lines from (i + 1)) + cond (test (get_or lines i d)) 1 0
count_by-between test lines from i d h within =
    let rest = drop from lines in
    let n = i - from in
    let here : get_or rest n d ≡ get_or lines i d = get_or-drop from lines n d ∙ ap (λ k. get_or lines k d) (omega arith) in
    let long : n < length rest = omega (arith, length-drop from lines) in
    let more : i + 1 + 1 - (from + 1) ≡ n + 1 = omega arith in
    let less : i + 1 - (from + 1) ≡ n = omega arith in
    rw (more, less, ← here) (sum_by_more (λ line. cond (test line) 1 0) rest n d long)

-- the search is at a place: no line before it ends the block, and `depth` inner blocks are open
record IsSought (at_else : Bool) (lines : List Head) (from i depth : ℕ) : Type 0 where
  pub left : find (ends_block at_else lines from) (numbers_below lines from) ≡ find (ends_block at_else lines from) (numbers_below lines i)
  pub counted : count_by is_if (lines_between lines from (i + 1)) ≡ depth + count_by is_end_if (lines_between lines from (i + 1))

-- the next line, and those after it
pub record IsNext (lines : List Head) (i : ℕ) (head : Head) (rest : List Head) : Type 0 where
  pub within : i < length lines
  pub here : get_or lines i head ≡ head
  pub after : drop (i + 1) lines ≡ rest

pub next : (lines : List Head) (i : ℕ) (head : Head) (rest : List Head) → drop i lines ≡ head ∷ rest → IsNext lines i head rest
next lines i head rest e =
    let long : i < length lines = omega (arith, length-drop i lines, ap length e) in
    let parts = sym (drop_more lines i head long) ∙ e in
    record { within = long; here = ap (λ (l : List Head). get_or l 0 head) parts; after = ap (λ (l : List Head). drop 1 l) parts }

sought-here : {at_else : Bool} {lines : List Head} {from i depth : ℕ} {head : Head} {rest : List Head} → IsSought at_else lines from i depth
    → IsNext lines i head rest → (is_end at_else head && (depth == 0)) ≡ true → Some (i + 1) ≡ find (ends_block at_else lines from) (numbers_below lines from)
sought-here {at_else} {lines} {from} {i} {depth} {head} s n t =
    find-here _ lines i n.within (ends_block-place at_else lines from i depth head n.within s.counted ∙ rw n.here t) ∙ sym s.left

sought-further : {at_else : Bool} {lines : List Head} {from i depth : ℕ} {head : Head} {rest : List Head} (more : ℕ) → IsSought at_else lines from i depth
    → from ≤ i → IsNext lines i head rest → (is_end at_else head && (depth == 0)) ≡ false
    → more + cond (is_end_if head) 1 0 ≡ depth + cond (is_if head) 1 0
    → IsSought at_else lines from (i + 1) more
sought-further {at_else} {lines} {from} {i} {depth} {head} more s order n t step =
    let ifs = rw n.here at (count_by-between is_if lines from i head order n.within) in
    let ends = rw n.here at (count_by-between is_end_if lines from i head order n.within) in
    record {
      left = s.left ∙ find-further _ lines i n.within (ends_block-place at_else lines from i depth head n.within s.counted ∙ rw n.here t);
      counted = omega (arith, ifs, ends, s.counted, step);
    }

-- the number of the first line that ends the block, if `depth` inner blocks are open and i lines are above
abbrev pub ended : Bool → ℕ → ℕ → List Head → Option ℕ
ended at_else depth i [] = None
ended at_else depth i (If ∷ rest) = ended at_else (suc depth) (i + 1) rest
ended at_else zero i (EndIf ∷ rest) = Some (i + 1)
ended at_else (suc depth) i (EndIf ∷ rest) = ended at_else depth (i + 1) rest
ended at_else zero i (Else ∷ rest) = cond at_else (Some (i + 1)) (ended at_else zero (i + 1) rest)
ended at_else (suc depth) i (Else ∷ rest) = ended at_else (suc depth) (i + 1) rest
ended at_else depth i (EndSkip ∷ rest) = ended at_else depth (i + 1) rest
ended at_else depth i (Lab ∷ rest) = ended at_else depth (i + 1) rest
ended at_else depth i (Other ∷ rest) = ended at_else depth (i + 1) rest

ended-sought : (at_else : Bool) (lines : List Head) (from i depth : ℕ) (rest : List Head) → from ≤ i → drop i lines ≡ rest
    → IsSought at_else lines from i depth → ended at_else depth i rest ≡ find (ends_block at_else lines from) (numbers_below lines from)
ended-sought a lines from i depth [] order e s =
    let short : length lines ≤ i = omega (arith, length-drop i lines, ap length e) in
    sym (s.left ∙ find-past _ lines i short)
ended-sought a lines from i depth (If ∷ rest) order e s =
    let n = next lines i If rest e in
    ended-sought a lines from (i + 1) (suc depth) rest (omega arith) n.after (sought-further (suc depth) s order n refl (omega arith))
ended-sought a lines from i zero (EndIf ∷ rest) order e s = sought-here s (next lines i EndIf rest e) refl
ended-sought a lines from i (suc depth) (EndIf ∷ rest) order e s =
    let n = next lines i EndIf rest e in
    let inside : (suc depth == 0) ≡ false = grind (arith, nat_tests) in
    ended-sought a lines from (i + 1) depth rest (omega arith) n.after (sought-further depth s order n inside (omega arith))
ended-sought true lines from i zero (Else ∷ rest) order e s = sought-here s (next lines i Else rest e) refl
ended-sought false lines from i zero (Else ∷ rest) order e s =
    let n = next lines i Else rest e in
    ended-sought false lines from (i + 1) zero rest (omega arith) n.after (sought-further zero s order n refl refl)
ended-sought true lines from i (suc depth) (Else ∷ rest) order e s =
    let n = next lines i Else rest e in
    let inside : (suc depth == 0) ≡ false = grind (arith, nat_tests) in
    ended-sought true lines from (i + 1) (suc depth) rest (omega arith) n.after (sought-further (suc depth) s order n inside refl)
ended-sought false lines from i (suc depth) (Else ∷ rest) order e s =
    let n = next lines i Else rest e in
    ended-sought false lines from (i + 1) (suc depth) rest (omega arith) n.after (sought-further (suc depth) s order n refl refl)
ended-sought a lines from i depth (EndSkip ∷ rest) order e s =
    let n = next lines i EndSkip rest e in
    ended-sought a lines from (i + 1) depth rest (omega arith) n.after (sought-further depth s order n refl refl)
ended-sought a lines from i depth (Lab ∷ rest) order e s =
    let n = next lines i Lab rest e in
    ended-sought a lines from (i + 1) depth rest (omega arith) n.after (sought-further depth s order n refl refl)
ended-sought a lines from i depth (Other ∷ rest) order e s =
    let n = next lines i Other rest e in
    ended-sought a lines from (i + 1) depth rest (omega arith) n.after (sought-further depth s order n refl refl)

-- the line that ends a block, by depth
pub ended-is : (at_else : Bool) (lines : List Head) (i : ℕ) → ended at_else 0 i (drop i lines) ≡ find (ends_block at_else lines i) (numbers_below lines i)
ended-is at_else lines i =
    let none : i + 1 - (i + 1) ≡ 0 = omega arith in
    ended-sought at_else lines i i 0 (drop i lines) (omega arith) refl (record { left = refl; counted = rw none refl })

-- n blocks more, and one
abbrev deeper : ℕ → ℕ → ℕ
deeper zero depth = suc depth
deeper (suc j) depth = suc (deeper j depth)

-- the search after the line that was found
abbrev pub past : Bool → ℕ → List Head → Option ℕ → Option ℕ
past at_else depth lines None = None
past at_else depth lines (Some m) = ended at_else depth m (drop m lines)

-- the outer search is the inner one, and then the outer one after the EndIf that it finds
inner : (a : Bool) (lines : List Head) (i j d : ℕ) (rest : List Head) → drop i lines ≡ rest → ended a (deeper j d) i rest ≡ past a d lines (ended false j i rest)
inner a lines i j d [] e = refl
inner a lines i j d (If ∷ rest) e = inner a lines (i + 1) (suc j) d rest (next lines i If rest e).after
inner a lines i zero d (EndIf ∷ rest) e = ap (ended a d (i + 1)) (sym (next lines i EndIf rest e).after)
inner a lines i (suc j) d (EndIf ∷ rest) e = inner a lines (i + 1) j d rest (next lines i EndIf rest e).after
inner a lines i zero d (Else ∷ rest) e = inner a lines (i + 1) zero d rest (next lines i Else rest e).after
inner a lines i (suc j) d (Else ∷ rest) e = inner a lines (i + 1) (suc j) d rest (next lines i Else rest e).after
inner a lines i j d (EndSkip ∷ rest) e = inner a lines (i + 1) j d rest (next lines i EndSkip rest e).after
inner a lines i j d (Lab ∷ rest) e = inner a lines (i + 1) j d rest (next lines i Lab rest e).after
inner a lines i j d (Other ∷ rest) e = inner a lines (i + 1) j d rest (next lines i Other rest e).after

-- below an If a block ends where it does after the If's own EndIf
pub below_if : (a : Bool) (lines : List Head) (i : ℕ) → ended a 1 i (drop i lines) ≡ past a 0 lines (ended false 0 i (drop i lines))
below_if a lines i = inner a lines i 0 0 (drop i lines) refl
