-- Breaks: scripts that end, and the turn in which they do.
use Rattle.std.proofs.Common.{◌≡◌, ◌<◌, ◌∙◌, ◌++◌, ◌∷◌, [], List, ℕ, zero, suc, Bool, true, false, ◌||◌, length, nat_lt, ap, sym, refl, subst}
use Rattle.std.proofs.Math.Nat.{lt-suc_self}
use Rattle.std.specs.Prelude.{Result, Ok, Err}
use Rattle.std.specs.Result.{OnErr}
use Rattle.ados_text.specs.declared.codes.Code.{Code}
use Rattle.ados_flow.specs.declared.kinds.FrameKind.{FrameKind}
use Rattle.ados_flow.specs.declared.kinds.FrameKind.TheVariants.{Script, RunCommands, Tick}
use Rattle.ados_flow.specs.Frames.{FrameState, last_line, limit_above_frames, caller_word, script_count}
use Rattle.ados_machine.specs.Phases.{Phase, Ready, GoingOn, Waiting}
use Rattle.ados_machine.specs.declared.phases.Wait.TheVariants.{ForAnswer, ForLines, ForStart, ForPiece, ForEnd}
use Rattle.ados_machine.specs.declared.refusals.Refusal.TheVariants.{NotReady}
use Rattle.ados_machine.specs.Breaks.{has_script, kept_after_break, marked_in}
use Rattle.ados_machine.specs.Course.{Course}
use Rattle.ados_machine.specs.Completions.{Completion}
use Rattle.ados_machine.specs.Items.{TraceItem, Broke, break_item, broken_codes, reports_of}
use Rattle.ados_machine.specs.Requests.{request_of}
use Rattle.ados_machine.specs.Apply.{turn_by_rule, rule_state_of}
use Rattle.ados_machine.specs.CodeRule.{RuleState, RuleResult, after_break, with_items_first, end_at_break, finish, with_limit}
use Rattle.ados_machine.specs.Turning.{Input, Turning, Refuses, Turned, turn_at_break, turning_at_break, input_turning, turning_in_phase}
use Rattle.ados_machine.specs.World.{can_take}
use Rattle.ados_machine.proofs.Marks.{marked-same}
use Rattle.ados_shell.specs.declared.scenes.Scene.{Scene}
use Rattle.ados_shell.specs.declared.drafts.Draft.{Draft}
use Rattle.ados_shell.specs.Breaks.{GivesUp, ReportsBreak}
use Rattle.ados_shell.specs.Drafts.{IsRuled, course_of, frames_of, held_state, turn_start}
use Rattle.ados_shell.specs.Stacks.{drafted_frames}
use Rattle.ados_shell.proofs.StackLemmas.{some-run}
use Rattle.ados_shell.proofs.TurnLemmas.{IsStill, goes-on, rule_state_in, step-ruled, still-course}

-- a mark does not change what is asked for
pub marked_request : (number : ℕ) (phase : Phase) → request_of number (marked_in phase) ≡ request_of number phase
marked_request number = marked-same (request_of number) (λ starting. refl) (λ child. refl) true

-- what holds of an error
pub on_err : {T E P : Type 0} (result : Result T E) → P → OnErr result P
on_err (Ok value) p = tt
on_err (Err fault) p = p

never : true ≡ false → ⊥
never e = cc

-- a turn that takes a line of its input, or the end of that, if one is there
input-taken : (queue : List (List ℕ)) (is_ended : Bool) (input : Input) (frames : List FrameState) (course : Course) (by_line : List ℕ → Completion) (by_end : Completion)
    → (nat_lt 0 (length queue) || is_ended) ≡ true
    → turning_at_break (input_turning queue is_ended frames by_line by_end) input frames course ≡ Turned input.queue (turn_at_break frames course)
input-taken [] true input frames course by_line by_end e = refl
input-taken [] false input frames course by_line by_end e = absurd cc
input-taken (line ∷ rest) is_ended input frames course by_line by_end e = refl

-- and if none is
input-refused : (queue : List (List ℕ)) (is_ended : Bool) (input : Input) (frames : List FrameState) (course : Course) (by_line : List ℕ → Completion) (by_end : Completion)
    → (nat_lt 0 (length queue) || is_ended) ≡ false
    → turning_at_break (input_turning queue is_ended frames by_line by_end) input frames course ≡ Refuses NotReady
input-refused [] true input frames course by_line by_end e = absurd cc
input-refused [] false input frames course by_line by_end e = refl
input-refused (line ∷ rest) is_ended input frames course by_line by_end e = absurd (never (ap (λ b. b || is_ended) (sym (some-run (length rest))) ∙ e))

-- the turn of a shell in which a script runs, if it can take one
script-taken : (input : Input) (frames : List FrameState) (course : Course) (phase : Phase) → has_script frames ≡ true → can_take input frames phase ≡ true
    → turning_at_break (turning_in_phase input frames course phase) input frames course ≡ Turned input.queue (turn_at_break frames course)
script-taken input [] course phase there e = absurd cc
script-taken input (frame ∷ frames) course Ready there e = refl
script-taken input (frame ∷ frames) course (GoingOn parted) there e = refl
script-taken input (frame ∷ frames) course (Waiting (ForAnswer asking)) there e = input-taken input.queue input.is_ended input (frame ∷ frames) course _ _ e
script-taken input (frame ∷ frames) course (Waiting (ForLines gathering)) there e = input-taken input.queue input.is_ended input (frame ∷ frames) course _ _ e
script-taken input (frame ∷ frames) course (Waiting (ForStart starting)) there e = absurd cc
script-taken input (frame ∷ frames) course (Waiting (ForPiece child)) there e = absurd cc
script-taken input (frame ∷ frames) course (Waiting (ForEnd child)) there e = absurd cc

-- and if it can't
script-refused : (input : Input) (frames : List FrameState) (course : Course) (phase : Phase) → has_script frames ≡ true → can_take input frames phase ≡ false
    → turning_at_break (turning_in_phase input frames course phase) input frames course ≡ Refuses NotReady
script-refused input [] course phase there e = absurd cc
script-refused input (frame ∷ frames) course Ready there e = absurd cc
script-refused input (frame ∷ frames) course (GoingOn parted) there e = absurd cc
script-refused input (frame ∷ frames) course (Waiting (ForAnswer asking)) there e = input-refused input.queue input.is_ended input (frame ∷ frames) course _ _ e
script-refused input (frame ∷ frames) course (Waiting (ForLines gathering)) there e = input-refused input.queue input.is_ended input (frame ∷ frames) course _ _ e
script-refused input (frame ∷ frames) course (Waiting (ForStart starting)) there e = refl
script-refused input (frame ∷ frames) course (Waiting (ForPiece child)) there e = refl
script-refused input (frame ∷ frames) course (Waiting (ForEnd child)) there e = refl

-- so what holds of that holds of the scene's turn
pub takes-at_break : (P : Turning → Type 0) (scene : Scene) (input : Input) → has_script scene.shell.now.frames ≡ true → can_take input scene.shell.now.frames scene.shell.now.phase ≡ true
    → P (Turned input.queue (turn_at_break scene.shell.now.frames (turn_start scene)))
    → P (turning_at_break (turning_in_phase input scene.shell.now.frames (turn_start scene) scene.shell.now.phase) input scene.shell.now.frames (turn_start scene))
takes-at_break P scene input there can p = subst P (sym (script-taken input scene.shell.now.frames (turn_start scene) scene.shell.now.phase there can)) p

pub refuses-at_break : (P : Turning → Type 0) (scene : Scene) (input : Input) → has_script scene.shell.now.frames ≡ true → can_take input scene.shell.now.frames scene.shell.now.phase ≡ false
    → P (Refuses NotReady)
    → P (turning_at_break (turning_in_phase input scene.shell.now.frames (turn_start scene) scene.shell.now.phase) input scene.shell.now.frames (turn_start scene))
refuses-at_break P scene input there cannot p = subst P (sym (script-refused input scene.shell.now.frames (turn_start scene) scene.shell.now.phase there cannot)) p

-- the report of a frame's end at a break is the first of those that follow
first-report : (shell depth line : ℕ) (kind : FrameKind) (log : List TraceItem)
    → reports_of shell (Broke depth kind line ∷ log) ≡ reports_of shell (Broke depth kind line ∷ []) ++ reports_of shell log
first-report shell depth line (Script name command) log = refl
first-report shell depth line RunCommands log = refl
first-report shell depth line (Tick before after) log = refl

deeper-is : (scripts : ℕ) (kind : FrameKind) (limit : Code) (further : RuleResult) (frames : List FrameState) (rule_state : RuleState) → nat_lt 0 scripts ≡ true
    → after_break scripts kind limit further frames rule_state ≡ further
deeper-is zero kind limit further frames rule_state e = absurd cc
deeper-is (suc scripts) kind limit further frames rule_state e = refl

ends-is : (scripts : ℕ) (kind : FrameKind) (limit : Code) (further : RuleResult) (frames : List FrameState) (rule_state : RuleState) → nat_lt 0 scripts ≡ false
    → after_break scripts kind limit further frames rule_state ≡ finish (caller_word kind) broken_codes false frames (with_limit (limit_above_frames frames limit) rule_state)
ends-is zero kind limit further frames rule_state e = refl
ends-is (suc scripts) kind limit further frames rule_state e = absurd (never (sym (some-run scripts) ∙ e))

-- one frame fewer is left
pub frames-fewer : (scene : Scene) (before popped reported mid : Draft) (frame : FrameState) (frames : List FrameState)
    → frames_of scene before ≡ frame ∷ frames → frames_of scene popped ≡ frames
    → ReportsBreak scene popped reported frame → GivesUp scene reported mid frame
    → length (frames_of scene mid) < length (frames_of scene before)
frames-fewer scene before popped reported mid frame frames there f r u =
    let below : frames_of scene mid ≡ frames = ap (drafted_frames scene.shell.now) u.frames ∙ ap (frames_of scene) r.same ∙ f in
    rw there (rw below (lt-suc_self (length frames)))

-- a frame ended at a break, above others of which one is a script: these end in turn
pub break-deeper : (scene : Scene) (before popped reported mid after : Draft) (frame : FrameState) (frames : List FrameState)
    → frames_of scene before ≡ frame ∷ frames → IsStill before popped → frames_of scene popped ≡ frames
    → ReportsBreak scene popped reported frame → has_script (frames_of scene reported) ≡ true
    → GivesUp scene reported mid frame
    → IsRuled scene mid after (end_at_break (frames_of scene mid) (rule_state_in scene mid))
    → IsRuled scene before after (end_at_break (frames_of scene before) (rule_state_in scene before))
break-deeper scene before popped reported mid after frame frames there s f r scripts u g =
    let course = course_of scene before in
    let giving : Course → Course = λ c. record c { kept = kept_after_break frame.kind c.kept } in
    let given : Course = giving course in
    let further : RuleResult = end_at_break frames (rule_state_of given) in
    let item = break_item (suc (length frames)) frame in
    let left : frames_of scene reported ≡ frames = ap (frames_of scene) r.same ∙ f in
    let below : frames_of scene mid ≡ frames = ap (drafted_frames scene.shell.now) u.frames ∙ left in
    let same : course_of scene reported ≡ course = ap (course_of scene) r.same ∙ still-course scene before popped s in
    let handed : course_of scene mid ≡ given = u.course ∙ ap giving same in
    let now : turn_by_rule (course_of scene mid) (end_at_break (frames_of scene mid) (rule_state_in scene mid)) ≡ turn_by_rule given further =
    ap (λ fs. turn_by_rule (course_of scene mid) (end_at_break fs (rule_state_in scene mid))) below
    ∙ ap (λ c. turn_by_rule c (end_at_break frames (rule_state_of c))) handed in
    let whole : end_at_break (frames_of scene before) (rule_state_of course) ≡ with_items_first (item ∷ []) further =
    ap (λ fs. end_at_break fs (rule_state_of course)) there
    ∙ ap (with_items_first (item ∷ [])) (deeper-is (script_count frames) frame.kind frame.limit further frames (rule_state_of course) (ap has_script (sym left) ∙ scripts)) in
    goes-on scene before mid after (turn_by_rule (course_of scene mid) (end_at_break (frames_of scene mid) (rule_state_in scene mid)))
    (turn_by_rule course (end_at_break (frames_of scene before) (rule_state_of course))) (reports_of scene.number (item ∷ []))
    (u.reports ∙ r.reports (suc (length frames)) ∙ ap (λ x. x ++ reports_of scene.number (item ∷ [])) s.reports)
    (ap (λ x. x.frames) whole ∙ sym (ap (λ x. x.frames) now))
    (ap (λ x. x.phase) whole ∙ sym (ap (λ x. x.phase) now))
    (ap (λ x. (turn_by_rule course x).course) whole ∙ sym (ap (λ x. x.course) now))
    (ap (λ x. reports_of scene.number x.log) whole ∙ first-report scene.number (suc (length frames)) (last_line frame.last) frame.kind further.log
    ∙ ap (λ x. reports_of scene.number (item ∷ []) ++ reports_of scene.number x.log) (sym now))
    g

-- a frame ended at a break, with no other script below it: the command that made it is finished, with the limit restored
pub break-ends : (scene : Scene) (before popped reported after : Draft) (limit : Code) (frame : FrameState) (frames : List FrameState)
    → frames_of scene before ≡ frame ∷ frames → IsStill before popped → frames_of scene popped ≡ frames
    → ReportsBreak scene popped reported frame → has_script (frames_of scene reported) ≡ false
    → limit ≡ limit_above_frames (frames_of scene reported) frame.limit
    → (let mid : Draft = record reported { shell = record reported.shell { limit = limit } } in
    IsRuled scene mid after (finish (caller_word frame.kind) broken_codes false (frames_of scene mid) (rule_state_in scene mid)))
    → IsRuled scene before after (end_at_break (frames_of scene before) (rule_state_in scene before))
break-ends scene before popped reported after limit frame frames there s f r scripts l g =
    let course = course_of scene before in
    let rule_state = rule_state_of course in
    let mid : Draft = record reported { shell = record reported.shell { limit = limit } } in
    let items = break_item (suc (length frames)) frame ∷ [] in
    let left : frames_of scene reported ≡ frames = ap (frames_of scene) r.same ∙ f in
    let held : held_state reported ≡ held_state before = ap held_state r.same ∙ s.held in
    let same : course_of scene reported ≡ course = ap (course_of scene) r.same ∙ still-course scene before popped s in
    let back : rule_state_in scene mid ≡ with_limit (limit_above_frames (frames_of scene reported) frame.limit) rule_state =
    ap (λ x. with_limit x (rule_state_in scene reported)) l
    ∙ ap (λ c. with_limit (limit_above_frames (frames_of scene reported) frame.limit) (rule_state_of c)) same in
    step-ruled scene before mid after (reports_of scene.number items) items _ _
    (ap (λ fs. end_at_break fs rule_state) there
    ∙ ap (with_items_first items) (ends-is (script_count frames) frame.kind frame.limit _ frames rule_state (ap has_script (sym left) ∙ scripts)
    ∙ ap (λ fs. finish (caller_word frame.kind) broken_codes false fs (with_limit (limit_above_frames fs frame.limit) rule_state)) (sym left)
    ∙ ap (λ x. finish (caller_word frame.kind) broken_codes false (frames_of scene reported) x) (sym back)))
    (λ log. first-report scene.number (suc (length frames)) (last_line frame.last) frame.kind log)
    held
    (r.reports (suc (length frames)) ∙ ap (λ x. x ++ reports_of scene.number items) s.reports)
    g
