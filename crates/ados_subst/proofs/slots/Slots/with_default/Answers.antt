use Rattle.std.proofs.Common.{◌∙◌, List, sym, ap}
use Rattle.std.specs.List.{position}
use Rattle.ados_subst.specs.declared.slots.Slot.{Slot}
use Rattle.ados_subst.specs.Slots.{with_default, is_named}
use Rattle.ados_subst.proofs.SlotLemmas.{set-at, set-nowhere}
use Rattle.ados_subst.proofs.slots.Slots.with_default.Goals as goal

pub returns-in_err-place : goal.returns-in_err-place
returns-in_err-place c =
    let name = c.args.name.now in
    let at = ap (position (is_named name)) (sym c.as_slice.ensures.value) ∙ sym c.place_named.ensures in
    let place = at ∙ c.in_err-place.was in
    let set = set-nowhere c.self.inside.items.items name c.args.text place in
    c.from_residual.ensures ∙ sym (ap (λ (s : List Slot). with_default s name c.args.text) (sym c.self.view_is) ∙ set)

pub returns : goal.returns
returns c =
    let name = c.args.name.now in
    let at = ap (position (is_named name)) (sym c.as_slice.ensures.value) ∙ sym c.place_named.ensures in
    let place = at ∙ c.in_ok-place.was in
    let some = sym c.is_empty.ensures ∙ c.if-is_empty.false in
    let set = set-at c.self.inside.items.items name c.args.text c.in_ok-place.place c.index_mut.result.now some place in
    let done = rw (← c.index_mut.ensures.value) at set in
    sym (ap (λ (s : List Slot). with_default s name c.args.text) (sym c.self.view_is) ∙ done)
