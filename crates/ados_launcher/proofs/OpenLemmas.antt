-- The table of the open children, by the places of their programs.
use Rattle.std.proofs.Common.{◌≡◌, ℕ, ◌<◌, List, [], Bool, false, Option, is_some, sym, ap, ◌∙◌, inl, inr, get_or, map, length, slice_set, replicate}
use Rattle.std.proofs.Math.Seq.{map-set_same}
use Rattle.std.proofs.lemmas.Bool.{cases_lt}
use Rattle.std.proofs.lemmas.List.{get_or_past, get_or-map, get_or-replicate, length-replicate, map-set}
use Rattle.ados_machine.specs.declared.answers.Answer.{Answer}
use Rattle.ados_launcher.specs.declared.calls.Call.{Call}
use Rattle.ados_launcher.specs.Open.{AreOpen, no_open_children, is_open_after_start, next_open_table}

-- at first none is open
pub opens-none : (table : List Bool) (calls : List Call) → table ≡ no_open_children → calls ≡ [] → AreOpen table calls
opens-none table calls none empty k =
    rw (none, empty)
    (elim (cases_lt k 21) [
      | inl few ↦ get_or-replicate 21 k false false few
      | inr past ↦ get_or_past (replicate 21 false) k false (rw (length-replicate 21 false) past)
    ])

-- a place that is written, and whether there is a program at it: one whose program was read, one after a start, and one whose
-- program was waited for
pub table-read : {X : Type 0} (places : List (Option X)) (k : ℕ) (was now : Option X) → was ≡ get_or places k was → is_some now ≡ is_some was → map is_some (slice_set places k now) ≡ map is_some places
table-read places k was now is held = map-set_same is_some places k now was (held ∙ ap is_some is)

pub table-started : {X : Type 0} (places : List (Option X)) (k : ℕ) (was now : Option X) (answer : Answer) → k < length places → was ≡ get_or places k was → is_some now ≡ is_open_after_start answer (is_some was)
    → map is_some (slice_set places k now) ≡ next_open_table k answer (map is_some places)
table-started places k was now answer few is held =
    map-set is_some places k now ∙ ap (slice_set (map is_some places) k) (held ∙ ap (is_open_after_start answer) (ap is_some is ∙ sym (get_or-map is_some places k was false few)))

pub table-waited : {X : Type 0} (places : List (Option X)) (k : ℕ) (now : Option X) → is_some now ≡ false → map is_some (slice_set places k now) ≡ slice_set (map is_some places) k false
table-waited places k now held = map-set is_some places k now ∙ ap (slice_set (map is_some places) k) held
