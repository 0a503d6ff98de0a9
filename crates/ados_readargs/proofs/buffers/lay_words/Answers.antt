use Rattle.std.proofs.Common.{◌+◌, [], ◌∷◌, length-append, arith}
use Rattle.ados_readargs.proofs.BufferLemmas.{word-laid, word-pushed}
use Rattle.ados_readargs.proofs.buffers.lay_words.Goals as goal

pub loop-place-preserved : goal.loop-place-preserved
loop-place-preserved c =
    rw c.in_ok-push-in-Word.ensures.items
    (record {
      so_far = word-pushed c.args.bytes.now c.args.line.now c.args.base c.in-Word.from c.in-Word.to c.args.spans.now.items c.loop-place.spans.items c.args.items.now c.loop-place.place
          c.requires.laid.ascii c.requires.copied c.loop-place-test.true c.in-Word.is c.loop-place.invariant.so_far;
      grown = let more = length-append c.loop-place.spans.items (record { from = c.args.base + c.in-Word.from; to = c.args.base + c.in-Word.to } ∷ []) in omega (arith, c.loop-place.invariant.grown, more);
      laid = word-laid c.args.bytes.now c.args.line.now c.args.base c.in-Word.from c.in-Word.to c.loop-place.spans.items c.loop-place.invariant.laid c.requires.len c.if-from-to.true c.if-to-line.true;
    })
