use Rattle.std.proofs.Common.{arith, rules, ap, inr, length, sym, ◌∙◌, [], subst, ◌≡◌}
use Rattle.std.proofs.lemmas.List.{length-map}
use Rattle.ados_text.specs.Text.{to_ascii}
use Rattle.ados_machine.specs.declared.events.Event.TheVariants.{Typed, EndOfInput}
use Rattle.ados_machine.specs.declared.outs.Out.{Out}
use Rattle.ados_machine.specs.Step.{event_out}
use Rattle.std.specs.Prelude.{None}
use Rattle.ados_shell.specs.Drafts.{out_of}
use Rattle.ados_launch.specs.Intake.{TakesLineOrEnd}
use Rattle.ados_launch.specs.Lines.{bytes_ahead}
use Rattle.ados_launch.proofs.Accepts.{end-accepted, line-accepted}
use Rattle.ados_launch.specs.declared.lines.LineKind.TheVariants.{End, Long, Short}
use Rattle.ados_launch.proofs.PartLines.{part-kind}
use Rattle.ados_launch.proofs.Taking.{long-out, next-end, next-long, next-overlong, next-short, took-line, took-long}
use Rattle.ados_launch.proofs.intake.Intake.take_line.Goals as goal

pub give-requires : goal.give-requires
give-requires g c = end-accepted c.args.world.now c.requires.due

pub give_line-requires : goal.give_line-requires
give_line-requires g c = line-accepted c.args.world.now c.in_ok-text-in-Short.text c.requires.due
    (omega (arith, ap length c.in_ok-text-in-Short.ensures, length-map c.as_slice.result.now to_ascii, c.as_slice.ensures.len, c.next_line.ensures.short))

pub returns-in_ok-give-in-End-clause-took : goal.returns-in_ok-give-in-End-clause-took
returns-in_ok-give-in-End-clause-took g c = took-line c.args.world.now _ _ _ EndOfInput (out_of c.give.new.draft) c.in_ok-give-in-End.ensures.response c.in_ok-give-in-End.ensures.world tt
    (λ bytes e. next-end bytes _ _ _ (c.in_ok-next_line.ensures.taken bytes (rw c.heed.ensures.left e)) c.in-End.is)

pub returns-in_ok-give_line-in-Short-clause-took : goal.returns-in_ok-give_line-in-Short-clause-took
returns-in_ok-give_line-in-Short-clause-took g c =
    let P : Out → Type 0 = TakesLineOrEnd c.args.world.now (bytes_ahead c.args.self.now.held (g.S.Source.left c.args.reader.now)) c.give_line.new.world (bytes_ahead c.next_line.new.held (g.S.Source.left c.next_line.new.source)) in
    subst P (sym c.give_nothing.ensures)
    (took-line c.args.world.now _ _ _ (Typed c.in_ok-text-in-Short.text) (event_out [] None []) c.in_ok-give_line-in-Short.ensures.response c.in_ok-give_line-in-Short.ensures.world tt
    (λ bytes e. next-short bytes _ _ _ _ _ (c.in_ok-next_line.ensures.taken bytes (rw c.heed.ensures.left e)) c.in-Short.is c.in_ok-text-in-Short.ensures c.as_slice.ensures.value))

pub returns-in_ok-extend_from_slice-in-Long-clause-took : goal.returns-in_ok-extend_from_slice-in-Long-clause-took
returns-in_ok-extend_from_slice-in-Long-clause-took g c =
    took-long c.args.world.now _ _ _ (λ bytes e. next-long bytes _ _ _ (c.in_ok-next_line.ensures.taken bytes (rw c.heed.ensures.left e)) c.in-Long.is)
    (long-out (out_of c.give_nothing-in-Long.new.self) _ _ c.give_nothing-in-Long.ensures (search rules))

pub returns-in-Overlong-clause-read : goal.returns-in-Overlong-clause-read
returns-in-Overlong-clause-read g c failed =
    let honest : g.S.Source.faults c.next_line.new.source ≡ g.S.Source.faults c.heed.new.self = search rules in
    inr (honest ∙ c.heed.ensures.faults, λ bytes e. next-overlong bytes _ _ _ (c.in_ok-next_line.ensures.taken bytes (rw c.heed.ensures.left e)) c.in-Overlong.is)

pub returns-in_err-give-in-End-clause-memory_unread : goal.returns-in_err-give-in-End-clause-memory_unread
returns-in_err-give-in-End-clause-memory_unread g c failed bytes e = part-kind bytes _ End _ _ c.in-End.is (λ k. cc) (c.in_ok-next_line.ensures.taken bytes (rw c.heed.ensures.left e))

pub returns-in_err-text-in-Short-clause-memory_unread : goal.returns-in_err-text-in-Short-clause-memory_unread
returns-in_err-text-in-Short-clause-memory_unread g c failed bytes e = part-kind bytes _ Short _ _ c.in-Short.is (λ k. cc) (c.in_ok-next_line.ensures.taken bytes (rw c.heed.ensures.left e))

pub returns-in_err-give_line-in-Short-clause-memory_unread : goal.returns-in_err-give_line-in-Short-clause-memory_unread
returns-in_err-give_line-in-Short-clause-memory_unread g c failed bytes e = part-kind bytes _ Short _ _ c.in-Short.is (λ k. cc) (c.in_ok-next_line.ensures.taken bytes (rw c.heed.ensures.left e))

pub returns-in_err-extend_from_slice-in-Long-clause-memory_unread : goal.returns-in_err-extend_from_slice-in-Long-clause-memory_unread
returns-in_err-extend_from_slice-in-Long-clause-memory_unread g c failed bytes e = part-kind bytes _ Long _ _ c.in-Long.is (λ k. cc) (c.in_ok-next_line.ensures.taken bytes (rw c.heed.ensures.left e))
