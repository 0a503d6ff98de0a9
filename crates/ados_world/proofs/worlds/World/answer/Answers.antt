use Rattle.ados_machine.specs.World.{input_of}
use Rattle.ados_machine.specs.declared.events.Event.TheVariants as event
use Rattle.ados_world.proofs.StepLemmas.{answered, answers}
use Rattle.ados_world.proofs.AnswerLemmas.{accepted-wants, answer-goes, answer-wants, answer-wrong, sane-answered}
use Rattle.ados_world.proofs.worlds.World.answer.Goals as goal

pub take-requires-clause-sane : goal.take-requires-clause-sane
take-requires-clause-sane c =
    sane-answered c.args.self.now _ c.args.number c.args.answer.now _ (rw c.self.view_is at c.self.invariant) c.requires
    (answer-goes c.args.self.now c.args.number c.in-Some.shell.now c.scene.result c.args.answer.now c.take_answer_of.new.self c.scene.ensures c.in-Ok-Goes.field-0-is c.in-Ok-Goes.ensures.answering)

pub returns-in-Err-clause-response : goal.returns-in-Err-clause-response
returns-in-Err-clause-response c =
    answer-wants c.args.self.now c.args.number c.in-Some.shell.now c.scene.result c.args.answer.now c.scene.ensures (c.in-Err.ensures.memory (input_of c.args.self.now c.args.number))

pub returns-in-Ok-WrongAnswer-clause-response : goal.returns-in-Ok-WrongAnswer-clause-response
returns-in-Ok-WrongAnswer-clause-response c =
    answer-wrong c.args.self.now c.args.number c.in-Some.shell.now c.scene.result c.args.answer.now c.take_answer_of.new.self c.scene.ensures c.in-Ok-WrongAnswer.field-0-is c.in-Ok-WrongAnswer.ensures.answering

pub returns-in-Ok-Goes-clause-response : goal.returns-in-Ok-Goes-clause-response
returns-in-Ok-Goes-clause-response c =
    let accepts = answer-goes c.args.self.now c.args.number c.in-Some.shell.now c.scene.result c.args.answer.now c.take_answer_of.new.self c.scene.ensures c.in-Ok-Goes.field-0-is c.in-Ok-Goes.ensures.answering in
    answered _ (event.Answer c.args.number c.args.answer.now) _ _ c.take.result _ accepts (accepted-wants c.args.self.now _ c.args.number c.args.answer.now _ _ accepts)
    c.take.ensures.out c.take.ensures.refusal

pub returns-in-Ok-Goes-clause-world : goal.returns-in-Ok-Goes-clause-world
returns-in-Ok-Goes-clause-world c =
    let accepts = answer-goes c.args.self.now c.args.number c.in-Some.shell.now c.scene.result c.args.answer.now c.take_answer_of.new.self c.scene.ensures c.in-Ok-Goes.field-0-is c.in-Ok-Goes.ensures.answering in
    answers c.args.self.now _ c.take.new.self _ _ c.take.result _ accepts c.take.ensures.world c.take.ensures.unchanged
