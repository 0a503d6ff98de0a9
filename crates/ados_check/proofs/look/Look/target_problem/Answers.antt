use Rattle.ados_check.proofs.LookLemmas.{flat_so, jump_so}
use Rattle.ados_check.proofs.look.Look.target_problem.Goals as goal

pub returns : goal.returns
returns c =
    let look = c.args.self.now in
    jump_so look.dialect look.written.now look.script c.args.number c.args.command c.in-Flow.flow c.in_ok-template.template c.args.text.now c.as_bytes.result.now c.in-Ok.args
    c.jump_problem.result c.in-Flow.is c.in_ok-template.ensures c.as_bytes.ensures.value c.in-Ok.ensures.ok c.requires.sample c.requires.read
    c.jump_problem.ensures.told c.jump_problem.ensures.kind c.jump_problem.ensures.ends

pub returns-in_default : goal.returns-in_default
returns-in_default c =
    let look = c.args.self.now in
    flat_so look.dialect look.written.now look.script c.args.number c.args.command c.args.text.now c.flat_copy.result c.requires.sample c.requires.read
    c.flat_copy.ensures.told c.flat_copy.ensures.kind
