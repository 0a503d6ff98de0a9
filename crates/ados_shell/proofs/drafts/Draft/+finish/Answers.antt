use Rattle.std.proofs.Common.{◌≡◌, ◌∙◌, ◌∷◌, List, ℕ, refl, sym, ap, subst, false}
use Rattle.std.proofs.lemmas.Result.{on_ok_weaker}
use Rattle.std.specs.Prelude.{Option}
use Rattle.ados_flow.specs.Frames.{FrameState, is_ended}
use Rattle.ados_shell.specs.Drafts.{IsRuled, course_of, frames_of}
use Rattle.ados_machine.specs.CodeRule.{finish}
use Rattle.ados_machine.specs.Apply.{rule_state_of}
use Rattle.ados_shell.specs.Stacks.{IsPopped, drafted_frames}
use Rattle.ados_shell.proofs.TurnLemmas.{answered_draft, finish-popped, finish-stays, lines-lead, script-leads, tick-leads}
use Rattle.ados_shell.proofs.drafts.Draft.+finish.Goals as goal

pub returns-then-not-is_ended : goal.returns-then-not-is_ended
returns-then-not-is_ended t c =
    let scene = c.args.scene.now in
    let before = c.args.self.now in
    let frames = drafted_frames scene.shell.now c.pop.new.self in
    let P : Option FrameState → Type 0 = IsPopped scene.shell.now before.shell.frames c.pop.new.self in
    let test : is_ended c.args.quits c.args.codes before.shell.limit c.in-Some.frame ≡ false =
    ap (is_ended c.args.quits c.args.codes before.shell.limit) (sym (c.answer.ensures frames)) ∙ sym c.is_ended.ensures ∙ c.if-not-is_ended.true in
    on_ok_weaker c.push.result
    (λ g. finish-stays scene before _ c.args.word.now c.args.codes c.args.quits c.in-Some.frame frames (subst P c.in-Some.is c.in_ok-frame.ensures) test
    (g scene.shell.now ∙ ap (λ f. f ∷ frames) (c.answer.ensures frames))
    (record { held = refl; limit = refl; codes_are = refl; printed = c.in_ok-push_failed.ensures; reports = refl }) refl)
    c.push.ensures

pub returns-in-Script : goal.returns-in-Script
returns-in-Script t c =
    let scene = c.args.scene.now in
    let ended = c.report.new.self in
    let last = c.answer.new.self in
    let Q : List ℕ → Type 0 = λ w. IsRuled scene ended c.finish.new.self (finish w c.args.codes false (frames_of scene ended) (rule_state_of (course_of scene ended))) in
    on_ok_weaker c.finish.result
    (λ g. finish-popped scene c.args.self.now c.finish.new.self c.pop.new.self c.push_failed.new.out c.args.word.now c.args.codes c.args.quits c.in-Some.frame last c.in_ok-frame.ensures c.in-Some.is
    (c.answer.ensures (drafted_frames scene.shell.now c.pop.new.self)) (sym c.is_ended.ensures ∙ c.if-not-is_ended.false) c.in_ok-push_failed.ensures
    (script-leads scene (answered_draft c.args.self.now c.pop.new.self c.args.codes c.push_failed.new.out) ended c.finish.new.self c.in-Script.name c.in-Script.command c.args.codes last
    (sym c.kind.ensures ∙ c.in-Script.is) c.in_ok-report-in-Script.ensures (subst Q c.as_bytes.ensures.value g)))
    c.finish.ensures

pub returns-in-RunCommands : goal.returns-in-RunCommands
returns-in-RunCommands t c =
    let mid = answered_draft c.args.self.now c.pop.new.self c.args.codes c.push_failed.new.out in
    finish-popped c.args.scene.now c.args.self.now mid c.pop.new.self c.push_failed.new.out c.args.word.now c.args.codes c.args.quits c.in-Some.frame c.answer.new.self c.in_ok-frame.ensures c.in-Some.is
    (c.answer.ensures (drafted_frames c.args.scene.now.shell.now c.pop.new.self)) (sym c.is_ended.ensures ∙ c.if-not-is_ended.false) c.in_ok-push_failed.ensures
    (lines-lead c.args.scene.now mid c.args.codes c.answer.new.self (sym c.kind.ensures ∙ c.in-RunCommands.is) refl)

pub returns : goal.returns
returns t c =
    let scene = c.args.scene.now in
    let last = c.answer.new.self in
    on_ok_weaker c.end_tick.result
    (λ g. finish-popped scene c.args.self.now c.end_tick.new.self c.pop.new.self c.push_failed.new.out c.args.word.now c.args.codes c.args.quits c.in-Some.frame last c.in_ok-frame.ensures c.in-Some.is
    (c.answer.ensures (drafted_frames scene.shell.now c.pop.new.self)) (sym c.is_ended.ensures ∙ c.if-not-is_ended.false) c.in_ok-push_failed.ensures
    (tick-leads scene (answered_draft c.args.self.now c.pop.new.self c.args.codes c.push_failed.new.out) c.end_tick.new.self c.args.codes last c.in-Tick.before c.in-Tick.after (sym c.kind.ensures ∙ c.in-Tick.is) g))
    c.end_tick.ensures
