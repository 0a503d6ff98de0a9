use Rattle.std.proofs.Common.{◌≡◌, ◌∙◌, ℕ, Bor, ◌∷◌, [], List, Some, ap, refl, sym}
use Rattle.std.specs.Option.{option_map}
use Rattle.ados_text.specs.Text.{Text}
use Rattle.ados_flow.specs.Gathering.{before_plus}
use Rattle.ados_machine.specs.declared.phases.Wait.TheVariants.{ForLines}
use Rattle.ados_machine.specs.Completions as machine
use Rattle.ados_machine.specs.NewShells.{console_run}
use Rattle.ados_shell.specs.Drafts.{course_of, here_in}
use Rattle.ados_shell.proofs.RunLemmas.{front-is}
use Rattle.ados_shell.proofs.drafts.Draft.run_typed.Goals as goal

pub returns-in_ok-waiting-in-Some : goal.returns-in_ok-waiting-in-Some
returns-in_ok-waiting-in-Some c =
    let scene = c.args.scene.now in
    let before = c.args.self.now in
    let line = c.args.line.now in
    let course = course_of scene before in
    let waits : Text → List Text → machine.Completion = λ w l. machine.Waits (ForLines (record { word = w; output = c.args.output; commands = l })) course in
    let front : before_plus line.args ≡ Some c.in-Some.front.now =
    ap before_plus (sym c.as_bytes.ensures.value) ∙ sym c.before_plus.ensures ∙ ap (option_map {T = Bor (List ℕ)} {U = List ℕ} (λ t. t.now)) c.in-Some.is in
    record {
      frames = refl;
      reports = refl;
      completion_is = c.in_ok-waiting-in-Some.ensures line.command (here_in scene before).frame_lines course
          ∙ ap (λ w. waits w c.in_ok-with_command-in-Some.field-0) c.in_ok-copy-in-Some.ensures
          ∙ ap (waits line.command) (c.in_ok-with_command-in-Some.ensures ∙ ap (λ x. x ∷ []) (front-is line.args c.in-Some.front.now c.in_ok-command-in-Some.command c.as_bytes.ensures.ascii front c.in_ok-command-in-Some.ensures))
          ∙ ap (λ o. console_run line.command c.args.output line.args (here_in scene before).sink course o) (sym front);
    }
