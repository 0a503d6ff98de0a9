use Rattle.std.proofs.Common.{◌∙◌, List, ℕ, None, refl, sym, ap, subst, arith, true, false}
use Rattle.std.proofs.lemmas.Result.{on_ok_weaker}
use Rattle.std.specs.Prelude.{Option}
use Rattle.ados_find.specs.declared.codes.Codes.{Codes}
use Rattle.ados_flow.specs.Frames.{FrameState, limit_above_frames, caller_word}
use Rattle.ados_machine.specs.Breaks.{has_script}
use Rattle.ados_machine.specs.CodeRule.{finish}
use Rattle.ados_machine.specs.Apply.{rule_state_of}
use Rattle.ados_shell.specs.declared.drafts.Draft.{Draft}
use Rattle.ados_shell.specs.Drafts.{IsRuled, course_of, frames_of}
use Rattle.ados_shell.specs.Stacks.{IsPopped, drafted_frames}
use Rattle.ados_shell.proofs.BreakLemmas.{break-deeper, break-ends, frames-fewer}
use Rattle.ados_shell.proofs.drafts.Draft.+break_frames.Goals as goal

pub break_frames-requires : goal.break_frames-requires
break_frames-requires t c =
    let scene = c.args.scene.now in
    let before = c.args.self.now in
    let P : Option FrameState → Type 0 = IsPopped scene.shell.now before.shell.frames c.pop.new.self in
    let mid : Draft = record before { shell = record before.shell { phase = None; frames = c.pop.new.self } } in
    let fewer = frames-fewer scene before mid c.report_break.new.self c.give_up.new.self c.in-Some.frame (drafted_frames scene.shell.now c.pop.new.self)
    (subst P c.in-Some.is c.in_ok-frame.ensures) refl c.in_ok-report_break.ensures c.in_ok-give_up.ensures in
    (omega (arith, fewer, c.decreases), tt)

pub returns-then-has_script : goal.returns-then-has_script
returns-then-has_script t c =
    let scene = c.args.scene.now in
    let before = c.args.self.now in
    let P : Option FrameState → Type 0 = IsPopped scene.shell.now before.shell.frames c.pop.new.self in
    let mid : Draft = record before { shell = record before.shell { phase = None; frames = c.pop.new.self } } in
    on_ok_weaker c.break_frames.result
    (λ g. break-deeper scene before mid c.report_break.new.self c.give_up.new.self c.break_frames.new.self c.in-Some.frame (drafted_frames scene.shell.now c.pop.new.self)
    (subst P c.in-Some.is c.in_ok-frame.ensures) (record { held = refl; limit = refl; codes = refl; printed = refl; reports = refl }) refl
    c.in_ok-report_break.ensures (sym c.has_script.ensures ∙ c.if-has_script.true) c.in_ok-give_up.ensures g)
    c.break_frames.ensures

pub returns : goal.returns
returns t c =
    let scene = c.args.scene.now in
    let before = c.args.self.now in
    let P : Option FrameState → Type 0 = IsPopped scene.shell.now before.shell.frames c.pop.new.self in
    let mid : Draft = record before { shell = record before.shell { phase = None; frames = c.pop.new.self } } in
    let reported = c.report_break.new.self in
    let frame = c.in-Some.frame in
    let ended : Draft = record reported { shell = record reported.shell { limit = c.limit_after-self.result } } in
    let Q : List ℕ → Codes → Type 0 = λ w k. IsRuled scene ended c.finish.new.self (finish w k false (frames_of scene ended) (rule_state_of (course_of scene ended))) in
    on_ok_weaker c.finish.result
    (λ g. break-ends scene before mid reported c.finish.new.self c.limit_after-self.result frame (drafted_frames scene.shell.now c.pop.new.self)
    (subst P c.in-Some.is c.in_ok-frame.ensures) (record { held = refl; limit = refl; codes = refl; printed = refl; reports = refl }) refl
    c.in_ok-report_break.ensures (sym c.has_script.ensures ∙ c.if-has_script.false)
    (c.limit_after-self.ensures ∙ ap (limit_above_frames (frames_of scene reported)) c.limit.ensures)
    (subst (Q (caller_word frame.kind)) c.erred.ensures (subst (λ w. Q w c.erred.result) c.caller_word.ensures g)))
    c.finish.ensures
