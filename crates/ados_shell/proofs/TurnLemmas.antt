-- How a turn goes on: what is left to do from its middle on does what the whole does from its beginning.
use Rattle.std.proofs.Common.{◌≡◌, ◌∙◌, ◌++◌, ◌∷◌, [], List, ℕ, Bool, true, false, length, suc, Option, Some, None, Vec, ap, sym, refl, subst, append_assoc}
use Rattle.std.proofs.lemmas.List.{append-nil}
use Rattle.std.specs.Prelude.{if◌then◌else◌}
use Rattle.std.specs.Global.{Global}
use Rattle.ados_text.specs.Text.{Text}
use Rattle.ados_text.specs.declared.codes.Code.{Code}
use Rattle.ados_find.specs.declared.codes.Codes.{Codes}
use Rattle.ados_flow.specs.declared.kinds.FrameKind.{FrameKind}
use Rattle.ados_flow.specs.declared.kinds.FrameKind.TheVariants.{Script, RunCommands, Tick}
use Rattle.ados_flow.specs.Frames.{FrameState, is_over, is_ended, limit_above_frames, last_codes, last_line, is_early, caller_word, answered_frame}
use Rattle.ados_machine.specs.declared.outs.EndReport.{EndReport}
use Rattle.ados_machine.specs.Phases.{Ready, GoingOn}
use Rattle.ados_machine.specs.FaultLines.{failed_line}
use Rattle.ados_machine.specs.Items.{TraceItem, Ended, answered_item, end_item, reports_of}
use Rattle.ados_machine.specs.Course.{Course}
use Rattle.ados_machine.specs.Completions.{Passes}
use Rattle.ados_machine.specs.CodeRule.{RuleState, RuleResult, with_items_first, rule_at_rest, with_answer, with_limit, newest_kept, without_tick, after_end, finish, pass_line}
use Rattle.ados_machine.specs.Apply.{TurnResult, turn_by_rule, rule_state_of}
use Rattle.ados_shell.specs.declared.scenes.Scene.{Scene}
use Rattle.ados_shell.specs.declared.drafts.Draft.{Draft}
use Rattle.ados_shell.specs.Reports.{report_of}
use Rattle.ados_shell.specs.declared.stacks.Stack.{Stack}
use Rattle.ados_shell.specs.Stacks.{IsPopped, drafted_frames}
use Rattle.ados_shell.specs.Drafts.{GoesOn, IsReported, IsTicked, IsRuled, IsApplied, held_course, course_of, frames_of, held_state, drafted_phase}

pub goes-on : (scene : Scene) (before mid after : Draft) (t t' : TurnResult) (rs : List EndReport)
    → mid.reports.items ≡ before.reports.items ++ rs
    → t'.frames ≡ t.frames → t'.phase ≡ t.phase → t'.course ≡ t.course
    → reports_of scene.number t'.log ≡ rs ++ reports_of scene.number t.log
    → GoesOn scene mid after t → GoesOn scene before after t'
goes-on scene before mid after t t' rs r tf tp tc l g = record {
  frames = g.frames ∙ sym tf;
  phase = g.phase ∙ sym tp;
  course = g.course ∙ sym tc;
  reports = g.reports
      ∙ ap (λ x. x ++ reports_of scene.number t.log) r
      ∙ append_assoc before.reports.items rs (reports_of scene.number t.log)
      ∙ ap (λ x. before.reports.items ++ x) (sym l);
}

-- the same if nothing was reported on the way
pub goes-same : (scene : Scene) (before mid after : Draft) (t t' : TurnResult)
    → mid.reports.items ≡ before.reports.items → t ≡ t'
    → GoesOn scene mid after t → GoesOn scene before after t'
goes-same scene before mid after t t' r e g = record {
  frames = g.frames ∙ ap (λ x. x.frames) e;
  phase = g.phase ∙ ap (λ x. x.phase) e;
  course = g.course ∙ ap (λ x. x.course) e;
  reports = g.reports ∙ ap (λ x. x ++ reports_of scene.number t.log) r
      ∙ ap (λ x. before.reports.items ++ reports_of scene.number x.log) e;
}

pub then-is : {X : Type 0} (b : Bool) (x y : X) → b ≡ true → (if b then x else y) ≡ x
then-is b x y e = ap (λ t. if t then x else y) e

pub else-is : {X : Type 0} (b : Bool) (x y : X) → b ≡ false → (if b then x else y) ≡ y
else-is b x y e = ap (λ t. if t then x else y) e

-- a command answered: the shell has its codes, and its failure was printed if its code reaches the limit
pub record IsTold (before mid : Draft) (word : List ℕ) (codes : Codes) : Type 0 where
  pub held : held_state mid ≡ held_state before
  pub limit : mid.shell.limit ≡ before.shell.limit
  pub codes_are : mid.shell.codes ≡ codes
  pub printed : mid.printed.items ≡ before.printed.items ++ failed_line word codes.code before.shell.limit
  pub reports : mid.reports.items ≡ before.reports.items

-- what a turn hands on then, with a limit
abbrev told_course : Scene → Draft → List ℕ → Codes → Code → Course
told_course scene before word codes limit =
    held_course scene (held_state before) limit codes (before.printed.items ++ failed_line word codes.code before.shell.limit)

told-course : (scene : Scene) (before mid : Draft) (word : List ℕ) (codes : Codes) → IsTold before mid word codes
    → course_of scene mid ≡ told_course scene before word codes before.shell.limit
told-course scene before mid word codes t =
    ap (λ h. held_course scene h mid.shell.limit mid.shell.codes mid.printed.items) t.held
    ∙ ap (λ l. held_course scene (held_state before) l mid.shell.codes mid.printed.items) t.limit
    ∙ ap (λ c. held_course scene (held_state before) before.shell.limit c mid.printed.items) t.codes_are
    ∙ ap (λ p. held_course scene (held_state before) before.shell.limit codes p) t.printed

-- the input of the code rule
abbrev pub rule_state_in : Scene → Draft → RuleState
rule_state_in scene draft = rule_state_of (course_of scene draft)

-- the code rule ends here
rests-ruled : (scene : Scene) (before after : Draft) (word : List ℕ) (codes : Codes) (frames : List FrameState) (log : List TraceItem) (settled : RuleResult)
    → settled ≡ with_items_first log (rule_at_rest frames Ready (with_answer word codes (rule_state_in scene before)))
    → reports_of scene.number log ≡ []
    → IsTold before after word codes → frames_of scene after ≡ frames → drafted_phase after.shell ≡ Ready
    → IsRuled scene before after settled
rests-ruled scene before after word codes frames log settled e silent t f p = record {
  frames = f ∙ ap (λ s. s.frames) (sym e);
  phase = p ∙ ap (λ s. s.phase) (sym e);
  course = told-course scene before after word codes t ∙ ap (λ s. (turn_by_rule (course_of scene before) s).course) (sym e);
  reports = t.reports ∙ sym (append-nil before.reports.items)
      ∙ ap (λ r. before.reports.items ++ r) (sym silent ∙ ap (λ l. reports_of scene.number l) (sym (append-nil log)) ∙ ap (λ s. reports_of scene.number s.log) (sym e));
}

-- the code rule at a frame that goes on
pub finish-stays : (scene : Scene) (before after : Draft) (word : List ℕ) (codes : Codes) (quits : Bool) (frame : FrameState) (frames : List FrameState)
    → frames_of scene before ≡ frame ∷ frames → is_ended quits codes before.shell.limit frame ≡ false
    → frames_of scene after ≡ answered_frame frame frames codes before.shell.limit ∷ frames
    → IsTold before after word codes → drafted_phase after.shell ≡ Ready
    → IsRuled scene before after (finish word codes quits (frames_of scene before) (rule_state_in scene before))
finish-stays scene before after word codes quits frame frames there test f t p =
    rests-ruled scene before after word codes (answered_frame frame frames codes before.shell.limit ∷ frames) (answered_item (frame ∷ frames) codes before.shell.limit ∷ []) _
    (ap (λ fs. finish word codes quits fs (rule_state_in scene before)) there ∙ else-is (is_ended quits codes before.shell.limit frame) _ _ test) refl t f p

-- a turn in which no frame was changed, and nothing else
pub record IsStill (before after : Draft) : Type 0 where
  pub held : held_state after ≡ held_state before
  pub limit : after.shell.limit ≡ before.shell.limit
  pub codes : after.shell.codes ≡ before.shell.codes
  pub printed : after.printed.items ≡ before.printed.items
  pub reports : after.reports.items ≡ before.reports.items

pub still-course : (scene : Scene) (before after : Draft) → IsStill before after → course_of scene after ≡ course_of scene before
still-course scene before after s =
    ap (λ h. held_course scene h after.shell.limit after.shell.codes after.printed.items) s.held
    ∙ ap (λ l. held_course scene (held_state before) l after.shell.codes after.printed.items) s.limit
    ∙ ap (λ c. held_course scene (held_state before) before.shell.limit c after.printed.items) s.codes
    ∙ ap (λ p. held_course scene (held_state before) before.shell.limit before.shell.codes p) s.printed

-- what the end of a frame leads to, above these frames
abbrev pub leads : FrameState → List FrameState → Codes → RuleState → RuleResult
leads last frames codes rule_state =
    after_end last.kind (finish (caller_word last.kind) codes false frames (with_limit (limit_above_frames frames last.limit) rule_state)) frames rule_state

-- the same with the frame's end in the trace
abbrev pub led : FrameState → List FrameState → Codes → RuleState → RuleResult
led last frames codes rule_state = with_items_first (end_item (suc (length frames)) last ∷ []) (leads last frames codes rule_state)

-- the code rule goes on from the middle, before which it gave these items
pub step-ruled : (scene : Scene) (before mid after : Draft) (rs : List EndReport) (items : List TraceItem) (settled settled' : RuleResult)
    → settled' ≡ with_items_first items settled
    → ((log : List TraceItem) → reports_of scene.number (items ++ log) ≡ rs ++ reports_of scene.number log)
    → held_state mid ≡ held_state before → mid.reports.items ≡ before.reports.items ++ rs
    → IsRuled scene mid after settled → IsRuled scene before after settled'
step-ruled scene before mid after rs items settled settled' e reported held r g =
    let course : (turn_by_rule (course_of scene before) settled').course ≡ (turn_by_rule (course_of scene mid) settled).course =
    ap (λ s. (turn_by_rule (course_of scene before) s).course) e
    ∙ ap (λ x. (turn_by_rule (held_course scene x before.shell.limit before.shell.codes before.printed.items) settled).course) (sym held) in
    goes-on scene before mid after (turn_by_rule (course_of scene mid) settled) (turn_by_rule (course_of scene before) settled') rs r
    (ap (λ s. s.frames) e) (ap (λ s. s.phase) e) course (ap (λ s. reports_of scene.number s.log) e ∙ reported settled.log) g

-- the report of a script's end
end-script : (shell depth line : ℕ) (kind : FrameKind) (codes : Codes) (early : Bool) (name command : Text) (log : List TraceItem) → kind ≡ Script name command
    → reports_of shell (Ended depth kind line codes early ∷ log)
    ≡ record { shell = shell; name = name; last_line = line; code = codes.code; early = early; broken = false } ∷ reports_of shell log
end-script shell depth line kind codes early name command log e = ap (λ k. reports_of shell (Ended depth k line codes early ∷ log)) e

-- the state of the code rule after the end of a script
reported-rule_state : (scene : Scene) (mid ended : Draft) (name : Text) (last : FrameState) → IsReported scene mid ended name last
    → rule_state_in scene ended ≡ with_limit (limit_above_frames (frames_of scene mid) last.limit) (rule_state_in scene mid)
reported-rule_state scene mid ended name last e =
    ap (λ x. rule_state_of (held_course scene x ended.shell.limit ended.shell.codes ended.printed.items)) e.held
    ∙ ap (λ x. rule_state_of (held_course scene (held_state mid) x ended.shell.codes ended.printed.items)) e.limit
    ∙ ap (λ x. rule_state_of (held_course scene (held_state mid) (limit_above_frames (frames_of scene mid) last.limit) x ended.printed.items)) e.codes
    ∙ ap (λ x. rule_state_of (held_course scene (held_state mid) (limit_above_frames (frames_of scene mid) last.limit) mid.shell.codes x)) e.printed

-- the end of a script was reported, and is the answer of the command that made it
pub script-leads : (scene : Scene) (mid ended after : Draft) (name command : Text) (codes : Codes) (last : FrameState)
    → last.kind ≡ Script name command
    → IsReported scene mid ended name last
    → IsRuled scene ended after (finish command codes false (frames_of scene ended) (rule_state_in scene ended))
    → IsRuled scene mid after (led last (frames_of scene mid) codes (rule_state_in scene mid))
script-leads scene mid ended after name command codes last k e g =
    let frames = frames_of scene mid in
    let rule_state = with_limit (limit_above_frames frames last.limit) (rule_state_in scene mid) in
    let answer = finish (caller_word last.kind) codes false frames rule_state in
    let depth = suc (length frames) in
    step-ruled scene mid ended after (report_of scene.number name last ∷ []) (end_item depth last ∷ []) _ _
    (ap (with_items_first (end_item depth last ∷ []))
    (ap (λ x. after_end x answer frames (rule_state_in scene mid)) k
    ∙ ap (λ x. finish (caller_word x) codes false frames rule_state) k
    ∙ ap (λ x. finish command codes false (drafted_frames scene.shell.now x) rule_state) (sym e.frames)
    ∙ ap (λ x. finish command codes false (frames_of scene ended) x) (sym (reported-rule_state scene mid ended name last e))))
    (λ log. end-script scene.number depth _ last.kind (last_codes last.last) _ name command log k)
    e.held e.reports g

-- a shell that ran the commands of a Run rests
pub lines-lead : (scene : Scene) (mid : Draft) (codes : Codes) (last : FrameState)
    → last.kind ≡ RunCommands → drafted_phase mid.shell ≡ Ready
    → IsRuled scene mid mid (led last (frames_of scene mid) codes (rule_state_in scene mid))
lines-lead scene mid codes last k p =
    let frames = frames_of scene mid in
    let rule_state = rule_state_in scene mid in
    let rested = with_items_first (Ended (suc (length frames)) RunCommands (last_line last.last) (last_codes last.last) (is_early last.kind last.last) ∷ []) (rule_at_rest frames Ready rule_state) in
    let e : led last frames codes rule_state ≡ rested =
    ap (λ x. with_items_first (Ended (suc (length frames)) x (last_line last.last) (last_codes last.last) (is_early last.kind last.last) ∷ [])
    (after_end x (finish (caller_word last.kind) codes false frames (with_limit (limit_above_frames frames last.limit) rule_state)) frames rule_state)) k in
    goes-same scene mid mid mid (turn_by_rule (course_of scene mid) rested) _ refl (ap (turn_by_rule (course_of scene mid)) (sym e))
    (record { frames = refl; phase = p; course = refl; reports = sym (append-nil mid.reports.items) })

-- after a tick its line goes on
pub tick-leads : (scene : Scene) (mid after : Draft) (codes : Codes) (last : FrameState) (front rear : Text)
    → last.kind ≡ Tick front rear → IsTicked scene mid after front rear
    → IsRuled scene mid after (led last (frames_of scene mid) codes (rule_state_in scene mid))
tick-leads scene mid after codes last front rear k t =
    let frames = frames_of scene mid in
    let rule_state = rule_state_in scene mid in
    let phase = GoingOn (record { before = front; output = newest_kept rule_state.kept; after = rear }) in
    let rested = with_items_first (Ended (suc (length frames)) (Tick front rear) (last_line last.last) (last_codes last.last) (is_early last.kind last.last) ∷ [])
    (rule_at_rest frames phase (without_tick rule_state)) in
    let e : led last frames codes rule_state ≡ rested =
    ap (λ x. with_items_first (Ended (suc (length frames)) x (last_line last.last) (last_codes last.last) (is_early last.kind last.last) ∷ [])
    (after_end x (finish (caller_word last.kind) codes false frames (with_limit (limit_above_frames frames last.limit) rule_state)) frames rule_state)) k in
    goes-same scene mid mid after (turn_by_rule (course_of scene mid) rested) _ refl (ap (turn_by_rule (course_of scene mid)) (sym e))
    (record { frames = ap (drafted_frames scene.shell.now) t.frames; phase = t.phase; course = t.course; reports = t.reports ∙ sym (append-nil mid.reports.items) })

-- the code rule at a frame that ends
pub finish-ends : (scene : Scene) (before popped after : Draft) (word : List ℕ) (codes : Codes) (quits : Bool) (frame : FrameState) (frames : List FrameState)
    → frames_of scene before ≡ frame ∷ frames → is_ended quits codes before.shell.limit frame ≡ true
    → IsTold before popped word codes → frames_of scene popped ≡ frames
    → IsRuled scene popped after (led (answered_frame frame frames codes before.shell.limit) (frames_of scene popped) codes (rule_state_in scene popped))
    → IsRuled scene before after (finish word codes quits (frames_of scene before) (rule_state_in scene before))
finish-ends scene before popped after word codes quits frame frames there test t f g =
    let last = answered_frame frame frames codes before.shell.limit in
    let rule_state : rule_state_in scene popped ≡ with_answer word codes (rule_state_in scene before) = ap rule_state_of (told-course scene before popped word codes t) in
    step-ruled scene before popped after [] (answered_item (frame ∷ frames) codes before.shell.limit ∷ []) _ _
    (ap (λ fs. finish word codes quits fs (rule_state_in scene before)) there ∙ then-is (is_ended quits codes before.shell.limit frame) _ _ test
    ∙ ap (λ x. with_items_first (answered_item (frame ∷ frames) codes before.shell.limit ∷ []) (led last frames codes x)) (sym rule_state)
    ∙ ap (λ x. with_items_first (answered_item (frame ∷ frames) codes before.shell.limit ∷ []) (led last x codes (rule_state_in scene popped))) (sym f))
    (λ log. refl)
    t.held (t.reports ∙ sym (append-nil before.reports.items)) g

-- a line that asked for nothing was the last of its frame
pub pass-ends : (scene : Scene) (before popped after : Draft) (frame : FrameState) (frames : List FrameState)
    → frames_of scene before ≡ frame ∷ frames → is_over frame ≡ true
    → IsStill before popped → frames_of scene popped ≡ frames
    → IsRuled scene popped after (led frame (frames_of scene popped) (last_codes frame.last) (rule_state_in scene popped))
    → IsApplied scene before after (Passes (course_of scene before))
pass-ends scene before popped after frame frames there over s f g =
    let rule_state : rule_state_in scene popped ≡ rule_state_in scene before = ap rule_state_of (still-course scene before popped s) in
    step-ruled scene before popped after [] [] _ _
    (ap (λ fs. pass_line fs (rule_state_in scene before)) there ∙ then-is (is_over frame) _ _ over
    ∙ ap (λ x. led frame frames (last_codes frame.last) x) (sym rule_state)
    ∙ ap (λ x. led frame x (last_codes frame.last) (rule_state_in scene popped)) (sym f))
    (λ log. refl)
    s.held (s.reports ∙ sym (append-nil before.reports.items)) g

-- the draft of a ready shell whose newest frame was popped
abbrev pub popped_draft : Draft → Stack → Draft
popped_draft before stack = record before { shell = record before.shell { phase = None; frames = stack } }

pub pass-popped : {found : Option FrameState} (scene : Scene) (before after : Draft) (stack : Stack) (frame : FrameState)
    → IsPopped scene.shell.now before.shell.frames stack found → found ≡ Some frame → is_over frame ≡ true
    → IsRuled scene (popped_draft before stack) after (led frame (drafted_frames scene.shell.now stack) (last_codes frame.last) (rule_state_in scene (popped_draft before stack)))
    → IsApplied scene before after (Passes (course_of scene before))
pass-popped scene before after stack frame popped is over g =
    pass-ends scene before (popped_draft before stack) after frame (drafted_frames scene.shell.now stack) (subst (IsPopped scene.shell.now before.shell.frames stack) is popped) over
    (record { held = refl; limit = refl; codes = refl; printed = refl; reports = refl }) refl g

-- the same after the answer of a command in that frame
abbrev pub answered_draft : Draft → Stack → Codes → Vec ℕ Global → Draft
answered_draft before stack codes printed = record before { shell = record before.shell { phase = None; codes = codes; frames = stack }; printed = printed }

pub finish-popped : {found : Option FrameState} (scene : Scene) (before after : Draft) (stack : Stack) (printed : Vec ℕ Global) (word : List ℕ) (codes : Codes) (quits : Bool) (frame last : FrameState)
    → IsPopped scene.shell.now before.shell.frames stack found → found ≡ Some frame
    → last ≡ answered_frame frame (drafted_frames scene.shell.now stack) codes before.shell.limit → is_ended quits codes before.shell.limit last ≡ true
    → printed.items ≡ before.printed.items ++ failed_line word codes.code before.shell.limit
    → IsRuled scene (answered_draft before stack codes printed) after (led last (drafted_frames scene.shell.now stack) codes (rule_state_in scene (answered_draft before stack codes printed)))
    → IsRuled scene before after (finish word codes quits (frames_of scene before) (rule_state_in scene before))
finish-popped scene before after stack printed word codes quits frame last popped is answer ends told g =
    let mid = answered_draft before stack codes printed in
    let frames = drafted_frames scene.shell.now stack in
    finish-ends scene before mid after word codes quits frame frames (subst (IsPopped scene.shell.now before.shell.frames stack) is popped)
    (ap (is_ended quits codes before.shell.limit) (sym answer) ∙ ends)
    (record { held = refl; limit = refl; codes_are = refl; printed = told; reports = refl }) refl
    (subst (λ f. IsRuled scene mid after (led f frames codes (rule_state_in scene mid))) answer g)
