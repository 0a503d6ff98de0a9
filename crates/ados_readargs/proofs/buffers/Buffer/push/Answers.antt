use Rattle.std.proofs.Common.{rules, ◌≡◌, ◌∙◌, ap, length, length-append}
use Rattle.ados_items.specs.Items.{value_of}
use Rattle.ados_readargs.proofs.BufferLemmas.{one-more}
use Rattle.ados_readargs.proofs.buffers.Buffer.push.Goals as goal

pub returns-clause-ok : goal.returns-clause-ok
returns-clause-ok c =
    let text = value_of c.args.line.now c.args.item.now in
    let from : c.len-from.result ≡ length c.self.inside.bytes.items = search rules in
    let to : c.len-to.result ≡ length c.push_value.new.out.items = search rules in
    rw (c.in_ok-push.ensures.items, c.in_ok-push_value.ensures.ok, ← c.self.view_is)
    (one-more c.self.inside.bytes.items text c.self.inside.spans.items c.len-from.result c.len-to.result from
    (to ∙ ap length c.in_ok-push_value.ensures.ok ∙ length-append c.self.inside.bytes.items text) c.self.invariant.within)
