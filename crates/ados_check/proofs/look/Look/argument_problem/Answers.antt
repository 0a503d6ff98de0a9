use Rattle.std.proofs.Common.{[]}
use Rattle.ados_check.proofs.LookLemmas.{refused_so}
use Rattle.ados_check.proofs.look.Look.argument_problem.Goals as goal

pub returns-in_ok-template_text-in-Some : goal.returns-in_ok-template_text-in-Some
returns-in_ok-template_text-in-Some c =
    let look = c.args.self.now in
    refused_so look.dialect look.written.now look.script c.args.number c.args.command c.args.line.now.args [] [] _ c.in-Some.fault c.requires.sample c.requires.read c.in_ok-fault.ensures c.in-Some.is
