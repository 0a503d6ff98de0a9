use Rattle.std.proofs.Common.{◌≡◌, ◌∙◌, ◌++◌, ap, sym, map, take}
use Rattle.std.proofs.lemmas.Result.{IfOk-weaker}
use Rattle.ados_items.specs.Items.{value_of}
use Rattle.ados_readargs.specs.Buffers.{span_texts}
use Rattle.ados_readargs.proofs.BufferLemmas.{texts-kept}
use Rattle.ados_readargs.proofs.buffers.Buffer.push_copied.Goals as goal

pub returns-clause-ok : goal.returns-clause-ok
returns-clause-ok c =
    let spans = c.self.inside.spans.items in
    let kept : span_texts c.as_slice.result.now spans ≡ c.args.self.now =
    ap (λ bytes. span_texts bytes spans) (c.as_slice.ensures.value ∙ c.in_ok-extend_from_slice.ensures.items)
    ∙ texts-kept c.self.inside.bytes.items c.args.line.now spans c.self.invariant.within ∙ c.self.view_is in
    IfOk-weaker c.lay_words.result _ _ (λ count h. ap (λ bytes. span_texts bytes c.lay_words.new.spans.items) (sym c.as_slice.ensures.value) ∙ h
    ∙ ap (λ texts. texts ++ map (value_of c.args.line.now) (take count c.args.items.now)) kept) c.lay_words.ensures.ok
