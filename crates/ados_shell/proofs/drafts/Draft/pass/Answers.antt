use Rattle.std.proofs.Common.{◌∙◌, List, ℕ, refl, sym, subst, false}
use Rattle.std.proofs.lemmas.Result.{on_ok_weaker}
use Rattle.ados_find.specs.declared.codes.Codes.{Codes}
use Rattle.ados_flow.specs.Frames.{last_codes}
use Rattle.ados_machine.specs.CodeRule.{finish}
use Rattle.ados_machine.specs.Apply.{rule_state_of}
use Rattle.ados_shell.specs.Drafts.{IsRuled, course_of, frames_of}
use Rattle.ados_shell.proofs.TurnLemmas.{lines-lead, pass-popped, popped_draft, script-leads, tick-leads}
use Rattle.ados_shell.proofs.drafts.Draft.pass.Goals as goal

pub returns-in-Script : goal.returns-in-Script
returns-in-Script c =
    let scene = c.args.scene.now in
    let frame = c.in-Some.frame in
    let after = c.report.new.self in
    let Q : List ℕ → Codes → Type 0 = λ w k. IsRuled scene after c.finish.new.self (finish w k false (frames_of scene after) (rule_state_of (course_of scene after))) in
    on_ok_weaker c.finish.result
    (λ g. pass-popped scene c.args.self.now c.finish.new.self c.pop.new.self frame c.in_ok-frame.ensures c.in-Some.is (sym c.is_over.ensures ∙ c.if-not-is_over.false)
    (script-leads scene (popped_draft c.args.self.now c.pop.new.self) after c.finish.new.self c.in-Script.name c.in-Script.command (last_codes frame.last) frame
    (sym c.kind.ensures ∙ c.in-Script.is) c.in_ok-report-in-Script.ensures
    (subst (Q c.in-Script.command) c.last_codes.ensures (subst (λ w. Q w c.last_codes.result) c.as_bytes.ensures.value g))))
    c.finish.ensures

pub returns-in-RunCommands : goal.returns-in-RunCommands
returns-in-RunCommands c =
    let mid = popped_draft c.args.self.now c.pop.new.self in
    pass-popped c.args.scene.now c.args.self.now mid c.pop.new.self c.in-Some.frame c.in_ok-frame.ensures c.in-Some.is (sym c.is_over.ensures ∙ c.if-not-is_over.false)
    (lines-lead c.args.scene.now mid (last_codes c.in-Some.frame.last) c.in-Some.frame (sym c.kind.ensures ∙ c.in-RunCommands.is) refl)

pub returns : goal.returns
returns c =
    let scene = c.args.scene.now in
    let frame = c.in-Some.frame in
    on_ok_weaker c.end_tick.result
    (λ g. pass-popped scene c.args.self.now c.end_tick.new.self c.pop.new.self frame c.in_ok-frame.ensures c.in-Some.is (sym c.is_over.ensures ∙ c.if-not-is_over.false)
    (tick-leads scene (popped_draft c.args.self.now c.pop.new.self) c.end_tick.new.self (last_codes frame.last) frame c.in-Tick.before c.in-Tick.after (sym c.kind.ensures ∙ c.in-Tick.is) g))
    c.end_tick.ensures
