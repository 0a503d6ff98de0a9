use Rattle.std.proofs.Common.{◌≡◌, ◌∙◌, ◌++◌, ap, sym, reverse}
use Rattle.std.proofs.lemmas.Result.{IfOk-weaker}
use Rattle.ados_machine.specs.Sinks.{Console, newest_sink}
use Rattle.ados_shell.specs.Stacks.{oldest_frames, sink_above, sink_by_way, sink_of}
use Rattle.ados_shell.specs.declared.stacks.Sink.TheVariants as sinks
use Rattle.ados_shell.proofs.StackLemmas.{sink-append, sink-alone}
use Rattle.ados_shell.proofs.stacks.Stack.sink.Goals as goal

pub returns-in-Below : goal.returns-in-Below
returns-in-Below c =
    let own = reverse c.args.self.now.own.items in
    let kept = oldest_frames c.args.self.now.kept_count c.args.shell.now.frames in
    let below : newest_sink (own ++ kept) ≡ sink_by_way c.way_of-in-Below.result Console =
    sink-append own kept ∙ ap (λ xs. sink_above (reverse xs) (newest_sink kept)) (sym c.as_slice.ensures.value)
    ∙ c.way_of.ensures (newest_sink kept) ∙ ap (λ way. sink_by_way way (newest_sink kept)) c.in-Below.is
    ∙ sym (sink-alone kept) ∙ ap (λ xs. sink_above xs Console) (sym c.lent.ensures.lent) ∙ c.way_of-in-Below.ensures Console in
    IfOk-weaker c.sink_of.result _ _ (λ sink e. e ∙ sym below) c.sink_of.ensures

pub returns-in-Kept : goal.returns-in-Kept
returns-in-Kept c =
    let own = reverse c.args.self.now.own.items in
    let kept = oldest_frames c.args.self.now.kept_count c.args.shell.now.frames in
    sym (sink-append own kept ∙ ap (λ xs. sink_above (reverse xs) (newest_sink kept)) (sym c.as_slice.ensures.value)
    ∙ c.way_of.ensures (newest_sink kept) ∙ ap (λ way. sink_by_way way (newest_sink kept)) c.in-Kept.is)

pub returns-in_ok-copy-in-To : goal.returns-in_ok-copy-in-To
returns-in_ok-copy-in-To c =
    let own = reverse c.args.self.now.own.items in
    let kept = oldest_frames c.args.self.now.kept_count c.args.shell.now.frames in
    ap (λ t. sink_of (sinks.To t)) c.in_ok-copy-in-To.ensures
    ∙ sym (sink-append own kept ∙ ap (λ xs. sink_above (reverse xs) (newest_sink kept)) (sym c.as_slice.ensures.value)
    ∙ c.way_of.ensures (newest_sink kept) ∙ ap (λ way. sink_by_way way (newest_sink kept)) c.in-To.is)
