-- Completions: what a line results in is what the code rule makes of it.
use Rattle.std.proofs.Common.{◌≡◌, ◌∙◌, ◌++◌, ◌∷◌, [], List, ℕ, Bool, true, false, Option, Some, None, Result, Ok, Err, length, nat_le, ap, sym, refl, subst}
use Rattle.std.proofs.lemmas.List.{append-nil}
use Rattle.std.specs.Prelude.{if◌then◌else◌}
use Rattle.ados_text.specs.Text.{Text}
use Rattle.ados_text.specs.declared.codes.Result2.{Result2}
use Rattle.ados_text.specs.declared.codes.TheConstants.Result2.{TOO_MANY_LEVELS}
use Rattle.ados_text.specs.declared.stops.Stop.TheVariants.{Refused}
use Rattle.ados_find.specs.declared.codes.Codes.{Codes}
use Rattle.ados_find.specs.declared.targets.Target.{Target}
use Rattle.ados_flow.specs.declared.called.Called.{Called}
use Rattle.ados_flow.specs.declared.kinds.FrameKind.TheVariants.{Script, Tick}
use Rattle.ados_flow.specs.Frames.{new_frame, frame_limit}
use Rattle.ados_machine.specs.Phases.{Ready}
use Rattle.ados_machine.specs.Answers.{child_of, next_wait, started_completion}
use Rattle.ados_machine.specs.FaultLines.{fault_line}
use Rattle.ados_machine.specs.Course.{Course}
use Rattle.ados_machine.specs.Completions.{Answers, Calls, Jumps, Passes, Ticks, Waits, line_fault, refusal_completion}
use Rattle.ados_machine.specs.Opening.{OpenedOutput}
use Rattle.ados_machine.specs.declared.phases.Child.{Child}
use Rattle.ados_machine.specs.declared.phases.Starting.{Starting}
use Rattle.ados_machine.specs.declared.phases.Wait.{Wait}
use Rattle.ados_machine.specs.CodeRule.{finish, finish_with_fault, pass_line}
use Rattle.ados_machine.specs.Apply.{enter_script, turn_by_rule, frames_at_line, rule_state_of, turn_of_completion, enter_tick}
use Rattle.ados_shell.specs.declared.scenes.Scene.{Scene}
use Rattle.ados_shell.specs.declared.drafts.Draft.{Draft}
use Rattle.ados_shell.specs.Drafts.{GoesOn, IsRuled, IsApplied, held_course, course_of, frames_of, held_state, here_in, drafted_phase}
use Rattle.ados_shell.specs.Outputs.{HasOpened}
use Rattle.ados_shell.specs.Stacks.{drafted_frames}
use Rattle.ados_shell.proofs.TurnLemmas.{IsStill, else-is, goes-same, rule_state_in, still-course, then-is}

-- a fault's text was printed, and the code rule follows
pub answer-goes : (scene : Scene) (before mid after : Draft) (word : List ℕ) (codes : Codes) (quits : Bool)
    → mid.shell.frames ≡ before.shell.frames → held_state mid ≡ held_state before → mid.shell.limit ≡ before.shell.limit → mid.shell.codes ≡ before.shell.codes
    → mid.reports.items ≡ before.reports.items
    → mid.printed.items ≡ before.printed.items ++ fault_line word codes.result2
    → IsRuled scene mid after (finish word codes quits (frames_of scene mid) (rule_state_in scene mid))
    → IsApplied scene before after (Answers word codes quits (course_of scene before))
answer-goes scene before mid after word codes quits f h l c r p g =
    let printed = before.printed.items ++ fault_line word codes.result2 in
    let told : Course = held_course scene (held_state before) before.shell.limit before.shell.codes printed in
    let course : course_of scene mid ≡ told =
    ap (λ x. held_course scene x mid.shell.limit mid.shell.codes mid.printed.items) h
    ∙ ap (λ x. held_course scene (held_state before) x mid.shell.codes mid.printed.items) l
    ∙ ap (λ x. held_course scene (held_state before) before.shell.limit x mid.printed.items) c
    ∙ ap (λ x. held_course scene (held_state before) before.shell.limit before.shell.codes x) p in
    goes-same scene before mid after _ _ r
    (ap (λ x. turn_by_rule x (finish word codes quits (frames_of scene mid) (rule_state_of x))) course
    ∙ ap (λ x. turn_by_rule told (finish word codes quits (drafted_frames scene.shell.now x) (rule_state_of told))) f)
    g

-- a script begins
pub begin-goes : (scene : Scene) (before mid after : Draft) (word : List ℕ) (output : Option Target) (script : Called)
    → frames_of scene mid ≡ new_frame (Script script.name word) script.script before.shell.limit output ∷ frames_of scene before
    → IsStill before mid
    → IsApplied scene mid after (Passes (course_of scene mid))
    → IsRuled scene before after (enter_script word output script (frames_of scene before) (rule_state_in scene before))
begin-goes scene before mid after word output script f s g =
    let frames = new_frame (Script script.name word) script.script before.shell.limit output ∷ frames_of scene before in
    let e : turn_by_rule (course_of scene mid) (pass_line (frames_of scene mid) (rule_state_in scene mid)) ≡ turn_by_rule (course_of scene before) (pass_line frames (rule_state_in scene before)) =
    ap (λ x. turn_by_rule x (pass_line (frames_of scene mid) (rule_state_of x))) (still-course scene before mid s)
    ∙ ap (λ x. turn_by_rule (course_of scene before) (pass_line x (rule_state_in scene before))) f in
    let t = turn_by_rule (course_of scene before) (pass_line frames (rule_state_in scene before)) in
    let on : GoesOn scene before after t = goes-same scene before mid after _ t s.reports e g in
    record { frames = on.frames; phase = on.phase; course = on.course; reports = on.reports }

-- a script is called if there is room for another frame
pub call-begins : (scene : Scene) (before after : Draft) (word : List ℕ) (output : Option Target) (script : Called)
    → nat_le frame_limit (length (frames_of scene before)) ≡ false
    → IsRuled scene before after (enter_script word output script (frames_of scene before) (rule_state_in scene before))
    → IsApplied scene before after (Calls word output script (course_of scene before))
call-begins scene before after word output script e g =
    goes-same scene before before after _ _ refl (ap (turn_by_rule (course_of scene before)) (sym (else-is _ _ _ e))) g

-- and if there is none
pub call-refused : (scene : Scene) (before after : Draft) (word : List ℕ) (output : Option Target) (script : Called)
    → nat_le frame_limit (length (frames_of scene before)) ≡ true
    → IsApplied scene before after (refusal_completion word TOO_MANY_LEVELS (course_of scene before))
    → IsApplied scene before after (Calls word output script (course_of scene before))
call-refused scene before after word output script e g =
    goes-same scene before before after _ _ refl (ap (turn_by_rule (course_of scene before)) (sym (then-is _ _ _ e))) g

-- the newest frame goes on at a line, and a command answers
pub jump-goes : (scene : Scene) (before mid after : Draft) (word : List ℕ) (codes : Codes) (line : ℕ)
    → frames_of scene mid ≡ frames_at_line line (frames_of scene before)
    → IsStill before mid
    → IsApplied scene mid after (Answers word codes false (course_of scene mid))
    → IsApplied scene before after (Jumps word codes line (course_of scene before))
jump-goes scene before mid after word codes line f s g =
    goes-same scene before mid after _ _ s.reports
    (ap (λ x. turn_by_rule x (finish_with_fault word codes false (frames_of scene mid) (rule_state_of x))) (still-course scene before mid s)
    ∙ ap (λ x. turn_by_rule (course_of scene before) (finish_with_fault word codes false x (rule_state_in scene before))) f)
    g

-- a tick begins if there is room for another frame
pub tick-begins : (scene : Scene) (before after : Draft) (front command rear : Text)
    → nat_le frame_limit (length (frames_of scene before)) ≡ false
    → IsRuled scene before after (enter_tick front command rear (frames_of scene before) (rule_state_in scene before))
    → IsApplied scene before after (if (here_in scene before).is_full then line_fault TOO_MANY_LEVELS (course_of scene before) else Ticks front command rear (course_of scene before))
tick-begins scene before after front command rear e g =
    goes-same scene before before after _ _ refl (ap (λ completion. turn_of_completion completion (frames_of scene before)) (sym (else-is _ _ _ e))) g

-- and if there is none
pub tick-refused : (scene : Scene) (before after : Draft) (front command rear : Text)
    → nat_le frame_limit (length (frames_of scene before)) ≡ true
    → IsApplied scene before after (line_fault TOO_MANY_LEVELS (course_of scene before))
    → IsApplied scene before after (if (here_in scene before).is_full then line_fault TOO_MANY_LEVELS (course_of scene before) else Ticks front command rear (course_of scene before))
tick-refused scene before after front command rear e g =
    goes-same scene before before after _ _ refl (ap (λ completion. turn_of_completion completion (frames_of scene before)) (sym (then-is _ _ _ e))) g

-- a tick was pushed
pub tick-goes : (scene : Scene) (before after : Draft) (front command rear : Text)
    → frames_of scene after ≡ new_frame (Tick front rear) (command ∷ []) before.shell.limit None ∷ frames_of scene before
    → drafted_phase after.shell ≡ Ready
    → course_of scene after ≡ record (course_of scene before) { kept = [] ∷ (course_of scene before).kept }
    → after.reports.items ≡ before.reports.items
    → IsRuled scene before after (enter_tick front command rear (frames_of scene before) (rule_state_in scene before))
tick-goes scene before after front command rear f p c r =
    record { frames = f; phase = p; course = c; reports = r ∙ sym (append-nil before.reports.items) }

-- a program has started, whose output is refused
pub started-refused : (scene : Scene) (before mid after : Draft) (starting : Starting) (child : Child) (wait : Wait) (fault : Result2) (opened : Result OpenedOutput Result2)
    → HasOpened scene before mid starting.output (Err (Refused fault)) opened
    → child ≡ child_of starting None (Some fault) → wait ≡ next_wait child
    → IsApplied scene mid after (Waits wait (course_of scene mid))
    → IsApplied scene before after (started_completion starting (course_of scene before) opened)
started-refused scene before mid after starting child wait fault (Err other) h e w g =
    let P : Draft → Type 0 = λ d. IsApplied scene d after (Waits wait (course_of scene d)) in
    let Q : Wait → Type 0 = λ x. IsApplied scene before after (Waits x (course_of scene before)) in
    let R : Result2 → Type 0 = λ f. IsApplied scene before after (Waits (next_wait (child_of starting None (Some f))) (course_of scene before)) in
    subst R h.0 (subst Q (w ∙ ap next_wait e) (subst P h.1 g))
started-refused scene before mid after starting child wait fault (Ok opened) h e w g = absurd h
