-- the entries that say where blocks end, from the last line up
use Rattle.std.proofs.Common.{ℕ, zero, suc, ◌+◌, ◌-◌, ◌≤◌, ◌≡◌, ◌∙◌, List, [], ◌∷◌, Bool, true, false, ◌&&◌, Option, Some, None, length, drop, refl, ap, sym, arith}
use Rattle.std.specs.List.{slice_get}
use Rattle.std.specs.Option.{IfSome, is_none}
use Rattle.std.proofs.lemmas.Bool.{both_ways, cond_both}
use Rattle.std.proofs.lemmas.List.{reverse-append}
use Rattle.std.proofs.lemmas.Option.{IfSome_then}
use Rattle.ados_script.specs.declared.blocks.Ends.{Ends}
use Rattle.ados_script.specs.declared.heads.Head.{Head}
use Rattle.ados_script.specs.declared.heads.Head.TheVariants.{If, Else, EndIf, EndSkip, Lab, Other}
use Rattle.ados_script.specs.Blocks.{ends_block}
use Rattle.ados_script.specs.Tables.{entry_at_end, ends_above, first_ends, is_nowhere, no_ends, kept_ends, entry_or_none, with_entry}
use Rattle.ados_script.proofs.BlockLemmas.{below_if, ended, ended-is, next, past}
use Rattle.ados_script.proofs.LineLemmas.{find-past, found_within}

-- these are the entries of the lines from one on
abbrev pub AreEntries : List Head → ℕ → List Ends → Type 0
AreEntries heads i entries = (down : ℕ) → kept_ends entries down ≡ first_ends heads (i + down)

nowhere-is : (end branch : Option ℕ) → (is_none end && is_none branch) ≡ true → record { end_if = end; branch = branch } ≡ no_ends
nowhere-is None None h = refl
nowhere-is None (Some b) h = absurd (both_ways false refl h)
nowhere-is (Some a) b h = absurd (both_ways false refl h)

entry-top : (entries : List Ends) (entry : Ends) → kept_ends (with_entry entries entry) 0 ≡ entry
entry-top [] entry = cond_both (is_nowhere entry) [] (entry ∷ []) (λ (entries : List Ends). kept_ends entries 0 ≡ entry) (λ h. sym (nowhere-is entry.end_if entry.branch h)) (λ _. refl)
entry-top (last ∷ entries) entry = ap (λ (l : List Ends). entry_or_none (slice_get l 0)) (reverse-append (last ∷ entries) (entry ∷ []))

entry-below : (entries : List Ends) (entry : Ends) (down : ℕ) → kept_ends (with_entry entries entry) (suc down) ≡ kept_ends entries down
entry-below [] entry down = cond_both (is_nowhere entry) [] (entry ∷ []) (λ (entries : List Ends). kept_ends entries (suc down) ≡ kept_ends [] down) (λ _. refl) (λ _. refl)
entry-below (last ∷ entries) entry down = ap (λ (l : List Ends). entry_or_none (slice_get l (suc down))) (reverse-append (last ∷ entries) (entry ∷ []))

-- where the block of a line ends, by depth
abbrev by_depth : List Head → ℕ → Ends
by_depth heads i = record { end_if = ended false 0 i (drop i heads); branch = ended true 0 i (drop i heads) }

by_depth-is : (heads : List Head) (i : ℕ) → by_depth heads i ≡ first_ends heads i
by_depth-is heads i = rw (ended-is false heads i, ended-is true heads i) refl

entry-is : (heads : List Head) (i down j : ℕ) (entries : List Ends) → AreEntries heads i entries → i + down ≡ j → kept_ends entries down ≡ by_depth heads j
entry-is heads i down j entries are e = are down ∙ ap (first_ends heads) e ∙ sym (by_depth-is heads j)

-- an end of a block is below
pub end_below : (heads : List Head) (i : ℕ) (entries : List Ends) → AreEntries heads i entries → IfSome (kept_ends entries 0).end_if (λ m. i ≤ m)
end_below heads i entries are =
    let e : (kept_ends entries 0).end_if ≡ (first_ends heads i).end_if = ap (λ (entry : Ends). entry.end_if) (are 0 ∙ ap (first_ends heads) (omega arith)) in
    rw e (IfSome_then (first_ends heads i).end_if (found_within (ends_block false heads i) heads i) (λ m h. omega arith))

after_the_if : (heads : List Head) (i : ℕ) (entries : List Ends) → AreEntries heads (i + 1) entries → (end : Option ℕ) → IfSome end (λ m. i + 1 ≤ m)
    → entry_at_end entries (i + 1) end ≡ record { end_if = past false 0 heads end; branch = past true 0 heads end }
after_the_if heads i entries are None h = refl
after_the_if heads i entries are (Some m) h = entry-is heads (i + 1) (m - (i + 1)) m entries are (omega arith)

-- the entry of one more line
above-is : (heads : List Head) (i : ℕ) (head : Head) (rest : List Head) (entries : List Ends) → AreEntries heads (i + 1) entries → drop i heads ≡ head ∷ rest
    → ends_above entries (i + 1) head ≡ by_depth heads i
above-is heads i EndIf rest entries are e = rw e refl
above-is heads i Else rest entries are e =
    let after = (next heads i Else rest e).after in
    let first = entry-is heads (i + 1) 0 (i + 1) entries are (omega arith) in
    rw (first, after, e) refl
above-is heads i If rest entries are e =
    let after = (next heads i If rest e).after in
    let first = ap (λ (entry : Ends). entry.end_if) (entry-is heads (i + 1) 0 (i + 1) entries are (omega arith)) in
    let bound = rw first at (end_below heads (i + 1) entries are) in
    let here = after_the_if heads i entries are (ended false 0 (i + 1) (drop (i + 1) heads)) bound in
    let inside : (a : Bool) → ended a 0 i (drop i heads) ≡ past a 0 heads (ended false 0 (i + 1) (drop (i + 1) heads)) = λ a. rw e (ap (ended a 1 (i + 1)) (sym after) ∙ below_if a heads (i + 1)) in
    rw (first, inside false, inside true) here
above-is heads i EndSkip rest entries are e =
    let after = (next heads i EndSkip rest e).after in
    entry-is heads (i + 1) 0 (i + 1) entries are (omega arith) ∙ rw (after, e) refl
above-is heads i Lab rest entries are e =
    let after = (next heads i Lab rest e).after in
    entry-is heads (i + 1) 0 (i + 1) entries are (omega arith) ∙ rw (after, e) refl
above-is heads i Other rest entries are e =
    let after = (next heads i Other rest e).after in
    entry-is heads (i + 1) 0 (i + 1) entries are (omega arith) ∙ rw (after, e) refl

pub with_more : (heads : List Head) (i : ℕ) (head : Head) (rest : List Head) (entries : List Ends) → AreEntries heads (i + 1) entries → drop i heads ≡ head ∷ rest
    → AreEntries heads i (with_entry entries (ends_above entries (i + 1) head))
with_more heads i head rest entries are e zero =
    entry-top entries (ends_above entries (i + 1) head) ∙ above-is heads i head rest entries are e ∙ by_depth-is heads i ∙ ap (first_ends heads) (omega arith)
with_more heads i head rest entries are e (suc down) =
    entry-below entries (ends_above entries (i + 1) head) down ∙ are down ∙ ap (first_ends heads) (omega arith)

-- below the last line no block ends
pub no_entries : (heads : List Head) (i : ℕ) → length heads ≤ i → AreEntries heads i []
no_entries heads i h down = rw (find-past (ends_block false heads (i + down)) heads (i + down) (omega (arith, h)), find-past (ends_block true heads (i + down)) heads (i + down) (omega (arith, h))) refl
