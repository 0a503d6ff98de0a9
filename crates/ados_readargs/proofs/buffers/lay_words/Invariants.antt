use Rattle.std.proofs.Common.{◌≡◌, ◌++◌, ◌≤◌, map, take, length}
use Rattle.ados_items.specs.Items.{value_of}
use Rattle.ados_readargs.specs.Buffers.{AreLaid, span_texts}
use Rattle.ados_readargs.proofs.buffers.lay_words.Given as goal

abbrev pub invariant-loop-place : goal.invariant-loop-place
invariant-loop-place l = record {
  so_far : span_texts l.bytes l.spans.items ≡ span_texts l.bytes l.initial.spans.items ++ map (value_of l.line) (take l.place l.items);
  laid : AreLaid l.bytes l.spans.items;
  grown : length l.initial.spans.items ≤ length l.spans.items;
}
