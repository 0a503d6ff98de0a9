use Rattle.std.proofs.Common.{◌≡◌, ◌∙◌, ◌++◌, ◌+◌, ap, sym, map, length, append_assoc, length-append}
use Rattle.std.proofs.lemmas.List.{map-append, length-map}
use Rattle.ados_items.specs.Items.{value_of}
use Rattle.ados_readargs.specs.Readings.{given_items}
use Rattle.ados_readargs.proofs.SlotLemmas.{one-more}
use Rattle.ados_readargs.proofs.slots.Slots.push_values.Goals as goal

pub returns : goal.returns
returns c =
    let line = c.args.line.now in
    let front = given_items c.args.place c.args.given.now in
    let items = front ++ c.args.plain.now in
    let texts = c.self.inside.texts in
    let laid : c.push_all.new.self ≡ texts ++ map (value_of line) items =
    c.in_ok-push_all.ensures.ok ∙ ap (λ t. t ++ map (value_of line) c.args.plain.now) c.in_ok-push_given.ensures.ok
    ∙ append_assoc texts (map (value_of line) front) (map (value_of line) c.args.plain.now)
    ∙ ap (λ t. texts ++ t) (sym (map-append (value_of line) front c.args.plain.now)) in
    let to : c.len-to.result ≡ length texts + length items =
    c.len-to.ensures ∙ ap length laid ∙ length-append texts (map (value_of line) items) ∙ ap (λ n. length texts + n) (length-map items (value_of line)) in
    rw (c.in_ok-push.ensures.items, c.slot_of.ensures, laid, ← c.self.view_is)
    (one-more c.args.q.many line items texts c.self.inside.slots.items c.len-from.result c.len-to.result c.len-from.ensures to c.self.invariant)
