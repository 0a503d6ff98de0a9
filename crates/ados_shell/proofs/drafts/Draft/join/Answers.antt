use Rattle.std.proofs.Common.{◌≡◌, ◌∙◌, ℕ, Bor, arith, length, ◌++◌, ◌∷◌, [], List, Option, Some, true, false, ap, subst, sym}
use Rattle.std.specs.Option.{option_map}
use Rattle.std.proofs.lemmas.Bool.Decides.{nat_tests}
use Rattle.std.proofs.lemmas.Result.{on_ok_weaker}
use Rattle.ados_text.specs.Text.{Text}
use Rattle.ados_find.specs.declared.targets.Target.{Target}
use Rattle.ados_flow.specs.Gathering.{before_plus}
use Rattle.ados_machine.specs.declared.phases.Wait.TheVariants.{ForLines}
use Rattle.ados_machine.specs.Completions.{Waits}
use Rattle.ados_machine.specs.NewShells.{answered_put, new_shell}
use Rattle.ados_shell.specs.Drafts.{IsApplied, course_of, here_in}
use Rattle.ados_shell.proofs.RunLemmas.{front-is, joins}
use Rattle.ados_shell.proofs.drafts.Draft.join.Goals as goal

pub returns-in_ok-copy_own-in-Some : goal.returns-in_ok-copy_own-in-Some
returns-in_ok-copy_own-in-Some c =
    let scene = c.args.scene.now in
    let before = c.args.self.now in
    let after = c.wait.new.self in
    let gathering = c.args.gathering.now in
    let commands = gathering.commands ++ c.in-Some.front.now ∷ [] in
    let P : Text → Option Target → List Text → Type 0 = λ w o l. IsApplied scene before after
    (Waits (ForLines (record { word = w; output = o; commands = l })) (course_of scene before)) in
    let front : before_plus c.args.line.now ≡ Some c.in-Some.front.now =
    ap before_plus (sym c.as_bytes.ensures.value) ∙ sym c.before_plus.ensures ∙ ap (option_map {T = Bor (List ℕ)} {U = List ℕ} (λ t. t.now)) c.in-Some.is in
    on_ok_weaker c.wait.result
    (λ g. joins scene before after gathering c.args.line.now c.in-Some.front.now (here_in scene before).sink false
    front (grind (arith, nat_tests, c.if-before.true, ap length c.as_slice-before.ensures))
    (subst (λ w. P w gathering.output commands) c.in_ok-copy-in-Some.ensures
    (subst (λ o. P c.in_ok-copy-in-Some.field-0 o commands) (c.in_ok-copy_own-in-Some.ensures ∙ c.as_ref-then-before.ensures.value)
    (subst (P c.in_ok-copy-in-Some.field-0 c.in_ok-copy_own-in-Some.field-0) (c.in_ok-commands-in-Some.ensures ∙ ap (λ x. x ++ c.in_ok-command-in-Some.command ∷ []) c.as_slice-before.ensures ∙ ap (λ x. gathering.commands ++ x ∷ []) (front-is c.args.line.now c.in-Some.front.now c.in_ok-command-in-Some.command c.as_bytes.ensures.ascii front c.in_ok-command-in-Some.ensures)) g))))
    c.wait.ensures

pub returns-else-before : goal.returns-else-before
returns-else-before c =
    let scene = c.args.scene.now in
    let before = c.args.self.now in
    let after = c.answer_begun-else-before.new.self in
    let gathering = c.args.gathering.now in
    let P : List Text → Option Target → Type 0 = λ l o. IsApplied scene before after
    (answered_put gathering.word (new_shell l o (here_in scene before).sink (course_of scene before))) in
    let front : before_plus c.args.line.now ≡ Some c.in-Some.front.now =
    ap before_plus (sym c.as_bytes.ensures.value) ∙ sym c.before_plus.ensures ∙ ap (option_map {T = Bor (List ℕ)} {U = List ℕ} (λ t. t.now)) c.in-Some.is in
    on_ok_weaker c.answer_begun-else-before.result
    (λ g. joins scene before after gathering c.args.line.now c.in-Some.front.now (here_in scene before).sink true
    front (grind (arith, nat_tests, c.if-before.false, ap length c.as_slice-before.ensures))
    (subst (λ l. P l gathering.output) (c.in_ok-commands-in-Some.ensures ∙ ap (λ x. x ++ c.in_ok-command-in-Some.command ∷ []) c.as_slice-before.ensures ∙ ap (λ x. gathering.commands ++ x ∷ []) (front-is c.args.line.now c.in-Some.front.now c.in_ok-command-in-Some.command c.as_bytes.ensures.ascii front c.in_ok-command-in-Some.ensures))
    (subst (P c.in_ok-commands-in-Some.commands) c.as_ref-else-before.ensures.value g)))
    c.answer_begun-else-before.ensures
