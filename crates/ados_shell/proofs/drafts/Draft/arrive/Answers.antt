use Rattle.std.proofs.Common.{Ok, false, subst}
use Rattle.ados_find.specs.Effects.{effect_of}
use Rattle.ados_machine.specs.Lines.{arrival, arrived_completion}
use Rattle.ados_shell.specs.Drafts.{course_of, here_in}
use Rattle.ados_shell.specs.declared.completions.Completion.TheVariants.{Answered}
use Rattle.ados_shell.proofs.EndLemmas.{output-ends, put-ends}
use Rattle.ados_shell.specs.Outputs.{IsPut, effect_put}
use Rattle.ados_shell.proofs.drafts.Draft.arrive.Goals as goal

pub returns : goal.returns
returns c =
    let scene = c.args.scene.now in
    let opened = c.open_own.new.self in
    let line = c.args.line.now in
    let codes = c.in_ok-codes.codes in
    let here = here_in scene opened in
    let course = course_of scene opened in
    output-ends scene c.args.self.now opened c.apply.new.self line.command (λ here target course. arrived_completion c.args.place line target here course) c.in_ok-target.target line.output
    (Ok (Answered codes false)) c.as_ref.ensures.value c.in_ok-target.ensures
    (put-ends scene opened c.apply.new.self line.command codes (effect_put c.in_ok-target.target (arrival course.shared c.args.place line.args) here course)
    (subst (λ e. IsPut scene opened c.apply.new.self codes (effect_put c.in_ok-target.target e here course)) (c.in_ok-outcome.ensures course.shared)
    (subst (λ o. IsPut scene opened c.apply.new.self codes (effect_put o (effect_of course.shared c.in_ok-outcome.outcome) here course)) c.as_ref-2.ensures.value c.in_ok-codes.ensures)))
