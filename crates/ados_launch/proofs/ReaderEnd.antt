-- A run in which shell 1 takes input reads on until the reader's end.
use Rattle.std.proofs.Common.{◌≡◌, ℕ, ◌∷◌, List, [], length, Option, Some, None, true, refl, ap, sym, ◌∙◌, ◌⊎◌, inl, inr, arith}
use Rattle.std.proofs.lemmas.Bool.{true≢false}
use Rattle.std.proofs.lemmas.Grind.{common_steps}
use Rattle.ados_machine.specs.World.{WorldState}
use Rattle.ados_machine.specs.Runs.{Runs}
use Rattle.ados_machine.specs.declared.events.Event.TheVariants.{Typed, EndOfInput, Turn, Answer, Break}
use Rattle.ados_launch.specs.declared.lines.LineKind.TheVariants.{End}
use Rattle.ados_launch.specs.Lines.{line_of, rest_of, kind_of, kind_of_length, bytes_ahead}
use Rattle.ados_launch.specs.Taken.{TakenItem, Given, LongLine, taken_events, taken_outs, world_after_item, IsNext, rest_after_item, AreRead, rest_after_items}
use Rattle.ados_launch.specs.Rounds.{IsIdle}
use Rattle.ados_launch.specs.Schedule.{has_open_input}
use Rattle.ados_launch.proofs.Places.{idle-line, idle-turn, idle-pending}
use Rattle.ados_launch.proofs.Inputs.{typed-takes, turn-takes, answer-takes, break-takes, takes-due}

-- shell 1 takes input, or nothing is left to read
abbrev Reads : WorldState → List ℕ → Type 0
Reads w left = (has_open_input w ≡ true) ⊎ (left ≡ [])

not_end : (n : ℕ) → kind_of_length n ≡ End → ⊥
not_end n e = grind (arith, common_steps)

-- only if nothing is left does the end come
end_empty : (left : List ℕ) → kind_of left ≡ End → rest_of left ≡ []
end_empty [] e = refl
end_empty (b ∷ bytes) e = absurd (not_end (length (line_of (b ∷ bytes))) e)

item-reads : (w : WorldState) (left : List ℕ) (item : TakenItem) → IsNext left item → Reads w left → Reads (world_after_item w item) (rest_after_item left item)
item-reads w left (Given (Typed line) out) next (inl e) = inl (typed-takes w out line e)
item-reads w left (Given (Typed line) out) next (inr e) = inr (ap rest_of e)
item-reads w left (Given EndOfInput out) next r = inr (end_empty left next)
item-reads w left (Given (Turn k) out) next (inl e) = inl (turn-takes w out k e)
item-reads w left (Given (Turn k) out) next (inr e) = inr e
item-reads w left (Given (Answer k reply) out) next (inl e) = inl (answer-takes w out k reply e)
item-reads w left (Given (Answer k reply) out) next (inr e) = inr e
item-reads w left (Given (Break k kind) out) next (inl e) = inl (break-takes w out k kind e)
item-reads w left (Given (Break k kind) out) next (inr e) = inr e
item-reads w left LongLine next (inl e) = inl e
item-reads w left LongLine next (inr e) = inr (ap rest_of e)

run-reads : (w : WorldState) (left : List ℕ) (taken : List TakenItem) (last : WorldState) → Runs w (taken_events taken) (taken_outs taken) last → AreRead left taken → Reads w left
    → Reads last (rest_after_items left taken)
run-reads w left [] last run lines r = rw run r
run-reads w left (Given event out ∷ taken) last run lines r =
    run-reads (world_after_item w (Given event out)) (rest_after_item left (Given event out)) taken last run.1 lines.1 (item-reads w left (Given event out) lines.0 r)
run-reads w left (LongLine ∷ taken) last run lines r =
    run-reads w (rest_after_item left LongLine) taken last run lines.1 (item-reads w left LongLine lines.0 r)

-- if nothing may come shell 1 takes no input
idle-takes : (w : WorldState) → IsIdle w → has_open_input w ≡ true → ⊥
idle-takes w idle e =
    elim (takes-due w (idle-pending w 1 idle (omega arith) (omega arith)) e) [
      | inl wants ↦ true≢false (sym wants ∙ idle-line w idle)
      | inr ready ↦ true≢false (sym ready ∙ idle-turn w 1 idle (omega arith) (omega arith))
    ]

none_ahead : (held : List ℕ) (left : Option (List ℕ)) (xs : List ℕ) → bytes_ahead held left ≡ Some xs → xs ≡ [] → left ≡ Some []
none_ahead held None xs e h = cc
none_ahead [] (Some ys) xs e h = cc
none_ahead (b ∷ held) (Some ys) xs e h = cc

-- if nothing is due any longer, the reader reached its end
pub reader-ended : (w : WorldState) (bytes : List ℕ) (taken : List TakenItem) (last : WorldState) (held : List ℕ) (left : Option (List ℕ))
    → Runs w (taken_events taken) (taken_outs taken) last → AreRead bytes taken → bytes_ahead held left ≡ Some (rest_after_items bytes taken) → IsIdle last → has_open_input w ≡ true → left ≡ Some []
reader-ended w bytes taken last held left run lines left_is idle e =
    elim (run-reads w bytes taken last run lines (inl e)) [
      | inl takes ↦ absurd (idle-takes last idle takes)
      | inr none ↦ none_ahead held left (rest_after_items bytes taken) left_is none
    ]
