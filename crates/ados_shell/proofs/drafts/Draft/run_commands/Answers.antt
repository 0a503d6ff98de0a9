use Rattle.std.proofs.Common.{◌≡◌, ◌∙◌, ◌-◌, ◌≤◌, IfSome, Some, drop, subst, sym}
use Rattle.std.specs.Option.{option_map}
use Rattle.ados_flow.specs.Gathering.{run_gathering, run_limit}
use Rattle.ados_machine.specs.Completions.{FrameLines}
use Rattle.ados_machine.specs.NewShells.{new_shell}
use Rattle.ados_shell.specs.Completions.{lines_left}
use Rattle.ados_shell.specs.Drafts.{course_of, here_in}
use Rattle.ados_shell.specs.Outputs.{IsPut}
use Rattle.ados_shell.proofs.RunLemmas.{run-ends}
use Rattle.ados_shell.proofs.drafts.Draft.run_commands.Goals as goal

pub returns-in_ok-codes-in-Some : goal.returns-in_ok-codes-in-Some
returns-in_ok-codes-in-Some c =
    let scene = c.args.scene.now in
    let before = c.args.self.now in
    let given : option_map (λ (frame : FrameLines). run_gathering (run_limit - 1) c.args.line.now.args (drop frame.position frame.lines)) (here_in scene before).frame_lines ≡ Some c.in-Some.field-0 =
    sym c.in_ok-gathered.ensures.gathered ∙ c.in-Some.is in
    run-ends scene before c.make_shell.new.self c.args.line.now.command c.args.line.now.args c.in_ok-codes-in-Some.codes c.in-Some.field-0 c.args.output
    given
    (subst (λ all. IfSome all (λ a. a.taken ≤ lines_left (here_in scene before).frame_lines)) c.in-Some.is c.in_ok-gathered.ensures.within)
    (subst (λ o. IsPut scene before c.make_shell.new.self c.in_ok-codes-in-Some.codes (new_shell c.in-Some.field-0.commands o (here_in scene before).sink (course_of scene before)))
    c.as_ref.ensures.value c.in_ok-codes-in-Some.ensures)
