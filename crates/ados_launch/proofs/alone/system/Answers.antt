use Rattle.std.proofs.Common.{rules, arith, ◌≡◌, ◌<◌, ◌≤◌, ◌-◌, ◌++◌, ◌∷◌, [], length, Some, None, true, is_some, refl}
use Rattle.ados_machine.specs.Numbers.{free_number}
use Rattle.ados_machine.specs.LoneShell.{world_with_opened}
use Rattle.ados_machine.specs.World.{codes_at, numbered_shell}
use Rattle.ados_machine.proofs.Systems.{free-two}
use Rattle.ados_world.specs.Opened.{opening_fault}
use Rattle.ados_shell.specs.Drafts.{out_of}
use Rattle.ados_launch.proofs.AloneLemmas.{going-none, opened-agrees}
use Rattle.ados_launch.proofs.AloneRuns.{going-ended, going-late, going-more, stands-untaken, stands-unwritten}
use Rattle.ados_launch.proofs.alone.system.Goals as goal

pub loop-events-init : goal.loop-events-init
loop-events-init g c =
    let free : free_number c.args.world.now.shells ≡ Some c.in-Ok-Some.number = search rules in
    let is : c.open_shell.new.self ≡ world_with_opened c.args.world.now c.in-Ok-Some.number (c.args.line.now ∷ []) = search rules in
    record {
      agrees = rw is (opened-agrees c.args.world.now c.in-Ok-Some.number (c.args.line.now ∷ []) (g.L.Launcher.calls c.args.launcher.now) free c.requires.agrees);
      going = going-none c.in-Ok-Some.number c.args.world.now c.args.line.now c.args.turns (g.L.Launcher.is_full c.args.launcher.now) c.open_shell.new.self c.args.out.now.items
          (g.L.Launcher.calls c.args.launcher.now) is;
    }

pub next_event-requires-clause-number : goal.next_event-requires-clause-number
next_event-requires-clause-number g c =
    let free : free_number c.args.world.now.shells ≡ Some c.in-Ok-Some.number = search rules in
    free-two c.args.world.now.shells c.in-Ok-Some.number free

pub loop-events-preserved : goal.loop-events-preserved
loop-events-preserved g c =
    let runs : is_some (numbered_shell c.loop-events.world c.in-Ok-Some.number) ≡ true = search rules in
    let grown : c.append.new.out.items ≡ c.loop-events.out.items ++ (out_of c.next_event.new.draft).bytes = search rules in
    record {
      agrees = c.in_default-next_event.ensures.agrees;
      going = going-more c.in-Ok-Some.number c.args.world.now c.args.line.now c.args.turns c.loop-events.events (g.L.Launcher.is_full c.loop-events.launcher) (g.L.Launcher.is_full c.next_event.new.launcher)
          c.loop-events.world c.next_event.new.world c.args.out.now.items c.loop-events.out.items c.append.new.out.items
          (g.L.Launcher.calls c.args.launcher.now) (g.L.Launcher.calls c.loop-events.launcher) (g.L.Launcher.calls c.next_event.new.launcher) (out_of c.next_event.new.draft)
          c.loop-events.invariant.going c.next_event.ensures.stays runs c.in_default-next_event.ensures.event grown;
    }

pub returns-in_default-clause-ended : goal.returns-in_default-clause-ended
returns-in_default-clause-ended g c =
    let good : opening_fault c.args.world.now c.args.line.now ≡ None = search rules in
    let free : free_number c.args.world.now.shells ≡ Some c.in-Ok-Some.number = search rules in
    let place : c.in-Ok-Some.number ≤ length c.args.world.now.ended = search rules in
    let gone : numbered_shell c.loop-events.world c.in-Ok-Some.number ≡ None = search rules in
    let told : c.codes.result ≡ codes_at c.loop-events.world c.in-Ok-Some.number = search rules in
    going-ended c.in-Ok-Some.number c.args.world.now c.args.line.now c.args.turns c.loop-events.events (c.args.turns - c.loop-events.events) (g.L.Launcher.is_full c.loop-events.launcher)
    c.loop-events.world c.args.out.now.items c.loop-events.out.items (g.L.Launcher.calls c.args.launcher.now) (g.L.Launcher.calls c.loop-events.launcher) c.codes.result
    c.loop-events.invariant.going good free place (omega (arith, c.loop-events-test.true)) gone told

pub returns-in-None-clause-ended : goal.returns-in-None-clause-ended
returns-in-None-clause-ended g c =
    let good : opening_fault c.args.world.now c.args.line.now ≡ None = search rules in
    let free : free_number c.args.world.now.shells ≡ Some c.in-Ok-Some.number = search rules in
    let place : c.in-Ok-Some.number ≤ length c.args.world.now.ended = search rules in
    let gone : numbered_shell c.loop-events.world c.in-Ok-Some.number ≡ None = search rules in
    let told : c.codes-in-None.result ≡ codes_at c.loop-events.world c.in-Ok-Some.number = search rules in
    going-ended c.in-Ok-Some.number c.args.world.now c.args.line.now c.args.turns c.loop-events.events 0 (g.L.Launcher.is_full c.loop-events.launcher)
    c.loop-events.world c.args.out.now.items c.loop-events.out.items (g.L.Launcher.calls c.args.launcher.now) (g.L.Launcher.calls c.loop-events.launcher) c.codes-in-None.result
    c.loop-events.invariant.going good free place (omega arith) gone told

pub returns-clause-running : goal.returns-clause-running
returns-clause-running g c =
    let good : opening_fault c.args.world.now c.args.line.now ≡ None = search rules in
    let free : free_number c.args.world.now.shells ≡ Some c.in-Ok-Some.number = search rules in
    let runs : numbered_shell c.loop-events.world c.in-Ok-Some.number ≡ Some c.in-Some-shell.field-0.now = search rules in
    let same : c.loop-events.events ≡ c.args.turns = omega arith in
    going-late c.in-Ok-Some.number c.args.world.now c.args.line.now c.args.turns (g.L.Launcher.is_full c.loop-events.launcher)
    c.loop-events.world c.args.out.now.items c.loop-events.out.items (g.L.Launcher.calls c.args.launcher.now) (g.L.Launcher.calls c.loop-events.launcher) c.in-Some-shell.field-0.now
    (rw same at c.loop-events.invariant.going) good free runs

pub returns-in-Err-next_event-clause-fault : goal.returns-in-Err-next_event-clause-fault
returns-in-Err-next_event-clause-fault g c =
    let good : opening_fault c.args.world.now c.args.line.now ≡ None = search rules in
    let free : free_number c.args.world.now.shells ≡ Some c.in-Ok-Some.number = search rules in
    let runs : is_some (numbered_shell c.loop-events.world c.in-Ok-Some.number) ≡ true = search rules in
    let none : c.from_vec.result ≡ [] = search rules in
    rw c.in-Err-next_event.ensures.err
    (stands-untaken c.in-Ok-Some.number c.args.world.now c.args.line.now c.args.turns c.loop-events.events (g.L.Launcher.is_full c.loop-events.launcher) (g.L.Launcher.is_full c.next_event.new.launcher)
    c.loop-events.world c.args.out.now.items c.loop-events.out.items
    (g.L.Launcher.calls c.args.launcher.now) (g.L.Launcher.calls c.loop-events.launcher) (g.L.Launcher.calls c.next_event.new.launcher) _
    c.loop-events.invariant.going good free c.next_event.ensures.stays runs c.loop-events-test.true c.in-Err-next_event.ensures.untaken refl refl none)

pub returns-then-is_err-clause-fault : goal.returns-then-is_err-clause-fault
returns-then-is_err-clause-fault g c =
    let good : opening_fault c.args.world.now c.args.line.now ≡ None = search rules in
    let free : free_number c.args.world.now.shells ≡ Some c.in-Ok-Some.number = search rules in
    let runs : is_some (numbered_shell c.loop-events.world c.in-Ok-Some.number) ≡ true = search rules in
    let kept : c.append.new.out.items ≡ c.loop-events.out.items = search rules in
    let bytes : c.into_out.result.bytes ≡ (out_of c.next_event.new.draft).bytes = search rules in
    let some : 0 < length c.into_out.result.bytes = search rules in
    rw kept
    (stands-unwritten c.in-Ok-Some.number c.args.world.now c.args.line.now c.args.turns c.loop-events.events (g.L.Launcher.is_full c.loop-events.launcher) (g.L.Launcher.is_full c.next_event.new.launcher)
    c.loop-events.world c.next_event.new.world c.args.out.now.items c.loop-events.out.items
    (g.L.Launcher.calls c.args.launcher.now) (g.L.Launcher.calls c.loop-events.launcher) (g.L.Launcher.calls c.next_event.new.launcher) (out_of c.next_event.new.draft) _
    c.loop-events.invariant.going good free c.next_event.ensures.stays runs c.loop-events-test.true c.in_default-next_event.ensures.event refl refl refl bytes some)
