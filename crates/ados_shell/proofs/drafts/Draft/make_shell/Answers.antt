use Rattle.std.proofs.Common.{◌∙◌, List, ℕ, subst, sym}
use Rattle.std.proofs.lemmas.Result.{IfOk-weaker}
use Rattle.std.specs.Option.{option_copied}
use Rattle.ados_find.specs.Codes.{went_well}
use Rattle.ados_machine.specs.Course.{put}
use Rattle.ados_machine.specs.Sinks.{sink_or}
use Rattle.ados_shell.specs.Drafts.{course_of, here_in}
use Rattle.ados_shell.specs.Outputs.{IsPut}
use Rattle.ados_shell.proofs.RunLemmas.{begun-put}
use Rattle.ados_shell.proofs.drafts.Draft.make_shell.Goals as goal

pub returns : goal.returns
returns c =
    let scene = c.args.scene.now in
    let mid = c.draft_shell.new.self in
    let output = option_copied c.args.output in
    IfOk-weaker c.put.result _ _
    (λ codes g. begun-put scene c.args.self.now mid c.put.new.self codes c.in-Some.number c.args.commands output
    (sym c.free_number.ensures.seen ∙ c.in-Some.is) c.in_ok-draft_shell.ensures
    (let P : List ℕ → Type 0 = λ line. IsPut scene mid c.put.new.self codes (put (sink_or output (here_in scene mid).sink) line went_well (course_of scene mid)) in
    subst P c.in_ok-line.ensures g))
    c.put.ensures
