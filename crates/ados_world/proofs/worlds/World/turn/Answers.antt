use Rattle.ados_machine.specs.World.{input_of}
use Rattle.ados_machine.specs.declared.events.Event.TheVariants as event
use Rattle.ados_shell.specs.declared.turnings.TurnKind.TheVariants as turning
use Rattle.ados_world.proofs.StepLemmas.{answered, answers, given-turn, goes-wants, sane-later, sane-taken, takes-wants, turn-ends, turn-goes, turn-refused, turn-takes, turn-wants}
use Rattle.ados_world.proofs.worlds.World.turn.Goals as goal

pub end_shell-requires-clause-sane : goal.end_shell-requires-clause-sane
end_shell-requires-clause-sane c =
    let turned = given-turn c.args.self.now c.args.number c.scene.result c.input.result turning.Ends c.turn.new.self c.in-Ok-Ends.field-0-is c.in-Ok-Ends.ensures.turn c.input.ensures.line in
    sane-later c.args.self.now _ c.args.number _ (rw c.self.view_is at c.self.invariant) c.requires
    (turn-ends c.args.self.now c.args.number c.in-Some.shell.now c.scene.result c.input.result c.turn.new.self c.codes-codes.result c.scene.ensures c.input.ensures.is_ended c.codes-codes.ensures turned)

pub take-requires-clause-sane : goal.take-requires-clause-sane
take-requires-clause-sane c =
    let turned = given-turn c.args.self.now c.args.number c.scene.result c.input.result turning.Goes c.turn.new.self c.in-Ok-Goes.field-0-is c.in-Ok-Goes.ensures.turn c.input.ensures.line in
    sane-later c.args.self.now _ c.args.number _ (rw c.self.view_is at c.self.invariant) c.requires (turn-goes c.args.self.now c.args.number c.in-Some.shell.now c.scene.result c.input.result c.turn.new.self c.scene.ensures c.input.ensures.is_ended turned)

pub take_typed-requires-clause-sane : goal.take_typed-requires-clause-sane
take_typed-requires-clause-sane c =
    let turned = given-turn c.args.self.now c.args.number c.scene.result c.input.result turning.Takes c.turn.new.self c.in-Ok-Takes.field-0-is c.in-Ok-Takes.ensures.turn c.input.ensures.line in
    sane-taken _ _ (sane-later c.args.self.now _ c.args.number _ (rw c.self.view_is at c.self.invariant) c.requires (turn-takes c.args.self.now c.args.number c.in-Some.shell.now c.scene.result c.input.result c.turn.new.self c.scene.ensures c.input.ensures.is_ended turned))

pub returns-in-Err-clause-response : goal.returns-in-Err-clause-response
returns-in-Err-clause-response c =
    turn-wants c.args.self.now c.args.number c.in-Some.shell.now c.scene.result c.input.result (rw c.self.view_is at c.self.invariant) c.scene.ensures c.input.ensures.is_ended
    (c.in-Err.ensures.memory (input_of c.args.self.now c.args.number).queue c.input.ensures.line)

pub returns-in-Ok-Goes-clause-response : goal.returns-in-Ok-Goes-clause-response
returns-in-Ok-Goes-clause-response c =
    let turned = given-turn c.args.self.now c.args.number c.scene.result c.input.result turning.Goes c.turn.new.self c.in-Ok-Goes.field-0-is c.in-Ok-Goes.ensures.turn c.input.ensures.line in
    answered _ (event.Turn c.args.number) _ _ c.take.result _ (turn-goes c.args.self.now c.args.number c.in-Some.shell.now c.scene.result c.input.result c.turn.new.self c.scene.ensures c.input.ensures.is_ended turned)
    (goes-wants c.args.self.now c.args.number c.in-Some.shell.now c.scene.result c.input.result c.turn.new.self (rw c.self.view_is at c.self.invariant) c.scene.ensures c.input.ensures.is_ended turned) c.take.ensures.out c.take.ensures.refusal

pub returns-in-Ok-Goes-clause-world : goal.returns-in-Ok-Goes-clause-world
returns-in-Ok-Goes-clause-world c =
    let turned = given-turn c.args.self.now c.args.number c.scene.result c.input.result turning.Goes c.turn.new.self c.in-Ok-Goes.field-0-is c.in-Ok-Goes.ensures.turn c.input.ensures.line in
    answers c.args.self.now _ c.take.new.self _ _ c.take.result _ (turn-goes c.args.self.now c.args.number c.in-Some.shell.now c.scene.result c.input.result c.turn.new.self c.scene.ensures c.input.ensures.is_ended turned) c.take.ensures.world c.take.ensures.unchanged

pub returns-in-Ok-Takes-clause-response : goal.returns-in-Ok-Takes-clause-response
returns-in-Ok-Takes-clause-response c =
    let turned = given-turn c.args.self.now c.args.number c.scene.result c.input.result turning.Takes c.turn.new.self c.in-Ok-Takes.field-0-is c.in-Ok-Takes.ensures.turn c.input.ensures.line in
    answered _ (event.Turn c.args.number) _ _ c.take_typed.result _ (turn-takes c.args.self.now c.args.number c.in-Some.shell.now c.scene.result c.input.result c.turn.new.self c.scene.ensures c.input.ensures.is_ended turned)
    (takes-wants c.args.self.now c.args.number c.in-Some.shell.now c.scene.result c.input.result c.turn.new.self (rw c.self.view_is at c.self.invariant) c.scene.ensures c.input.ensures.is_ended turned) c.take_typed.ensures.out c.take_typed.ensures.refusal

pub returns-in-Ok-Takes-clause-world : goal.returns-in-Ok-Takes-clause-world
returns-in-Ok-Takes-clause-world c =
    let turned = given-turn c.args.self.now c.args.number c.scene.result c.input.result turning.Takes c.turn.new.self c.in-Ok-Takes.field-0-is c.in-Ok-Takes.ensures.turn c.input.ensures.line in
    answers c.args.self.now _ c.take_typed.new.self _ _ c.take_typed.result _ (turn-takes c.args.self.now c.args.number c.in-Some.shell.now c.scene.result c.input.result c.turn.new.self c.scene.ensures c.input.ensures.is_ended turned) c.take_typed.ensures.world c.take_typed.ensures.unchanged

pub returns-in-Ok-NotReady-clause-response : goal.returns-in-Ok-NotReady-clause-response
returns-in-Ok-NotReady-clause-response c =
    let turned = given-turn c.args.self.now c.args.number c.scene.result c.input.result turning.NotReady c.turn.new.self c.in-Ok-NotReady.field-0-is c.in-Ok-NotReady.ensures.turn c.input.ensures.line in
    turn-refused c.args.self.now c.args.number c.in-Some.shell.now c.scene.result c.input.result c.turn.new.self c.scene.ensures c.input.ensures.is_ended turned
