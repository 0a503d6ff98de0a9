-- The events of a shell that runs alone do what its lines mean: those of the newest frame, and then those of the frames
-- below it.
use Rattle.std.proofs.Common.{◌≡◌, ◌∙◌, ap, nat_lt, ℕ, ◌<◌, zero, suc, List, [], ◌∷◌, Bool, true, false, ◌||◌, ◌&&◌, nat_le, Option, Some, None, length, refl, arith, inl, inr, get_or, if◌then◌else◌}
use Rattle.std.proofs.lemmas.Bool.{and_parts, cases_Bool}
use Rattle.ados_text.specs.Text.{Text}
use Rattle.ados_text.specs.declared.codes.Code.{Code}
use Rattle.ados_text.specs.declared.codes.TheConstants.Result2.{TOO_MANY_LEVELS}
use Rattle.ados_find.specs.declared.codes.Codes.{Codes}
use Rattle.ados_find.specs.declared.targets.Target.{Target}
use Rattle.ados_find.specs.Codes.{fail_codes}
use Rattle.ados_flow.specs.declared.kinds.FrameKind.{FrameKind}
use Rattle.ados_flow.specs.declared.kinds.FrameKind.TheVariants.{Script, Tick}
use Rattle.ados_flow.specs.CodeRule.{is_reached}
use Rattle.ados_flow.specs.Frames.{FrameState, new_frame, frame_limit, is_over, is_script, frame_at_line, advanced_frame, script_count, limit_above_frames, last_codes, answered_frame}
use Rattle.ados_machine.specs.declared.answers.Answer.{Answer as Reply}
use Rattle.ados_machine.specs.declared.phases.Parted.{Parted}
use Rattle.ados_machine.specs.Phases.{GoingOn, Waiting}
use Rattle.ados_machine.specs.declared.phases.Wait.{Wait}
use Rattle.ados_machine.specs.declared.phases.Wait.TheVariants.{ForAnswer, ForLines, ForStart, ForPiece, ForEnd}
use Rattle.ados_machine.specs.Sinks.{newest_sink}
use Rattle.ados_machine.specs.Completions.{Here, Completion, Passes, Answers, Jumps, Calls, Ticks, Waits, course_of}
use Rattle.ados_machine.specs.Answers.{answered_completion}
use Rattle.ados_machine.specs.Lines.{line_completion, parted_completion, answer_completion}
use Rattle.ados_machine.specs.NewShells.{gathered_completion}
use Rattle.ados_machine.specs.Items.{broken_codes}
use Rattle.ados_machine.specs.Breaks.{has_script}
use Rattle.ados_machine.specs.CodeRule.{RuleState, RuleResult, after_break, end_at_break, with_limit, finish, pass_line, with_fault_line, newest_kept}
use Rattle.ados_machine.specs.Apply.{here_of, code_rule_of}
use Rattle.ados_machine.specs.Whole.{record_at, report_of, report_broken, with_report, after_broken, common_without_flag, Broken, Common, common_after_event, Whole, Done, Late, Short, remainder, Configuration, configuration, says, here_at, start_at, after_answer, after_call, after_tick, after_completion, common_with_tick, common_without_tick, after_reply, completion_meaning, script_at, tick_at}
use Rattle.ados_machine.specs.LoneShell.{turn_at, waits, at_next_line, lines}
use Rattle.ados_machine.proofs.Alone.{Go, line_event, start_in, turn_event, Lone, go_by, does, completion_event, exec}
use Rattle.ados_machine.proofs.DirectStates.{ended, breaking, AgreesBy, AgreesHere, at_of, AgreesAt, here-is, weaker, lines-over, there}

-- the newest frame continues, or ends if no line is left
passed-agrees : (k gas : ℕ) → AgreesAt k gas →
    (n : ℕ) (answers : List Reply) (common : Common) (frame : FrameState) (frames : List FrameState) → n < gas →
    AgreesHere k frame frames n (go_by k (exec k n answers) common (pass_line (frame ∷ frames) common.rule_state))
    (lines gas (remainder n answers) (configuration common (at_of k frame frames)) None)
passed-agrees k gas ih n answers common frame frames lt =
    elim (cases_Bool (is_over frame)) [
      | inl e ↦ rw (e, lines-over gas n answers common (at_of k frame frames) lt e) (omega arith, refl)
      | inr e ↦ rw e (ih n answers common frame frames None lt e)
    ]

-- a command of the newest frame answered
answer-agrees : (k gas : ℕ) → AgreesAt k gas →
    (n : ℕ) (answers : List Reply) (common : Common) (frame : FrameState) (frames : List FrameState)
    (word : Text) (answer : Codes) (quits : Bool) → n < gas →
    AgreesHere k frame frames n (go_by k (exec k n answers) common (finish word answer quits (frame ∷ frames) common.rule_state))
    (after_answer (lines gas) (remainder n answers) (configuration common (at_of k frame frames)) word answer quits)
answer-agrees k gas ih n answers common frame frames word answer quits lt =
    elim (cases_Bool (is_over frame)) [
      | inl e ↦ rw (e, lines-over gas n answers (says word answer common) (record (at_of k frame frames) { last = Some (record_at (at_of k frame frames) answer common) }) lt e)
          (over (is_script frame.kind && (quits || is_reached common.rule_state.parts.limit answer.code)))
      | inr e ↦ elim (cases_Bool (is_script frame.kind && (quits || is_reached common.rule_state.parts.limit answer.code))) [
        | inl f ↦ rw (e, f) (omega arith, refl)
        | inr f ↦ rw (e, f)
            (ih n answers (says word answer common) (answered_frame frame frames answer common.rule_state.parts.limit) frames None lt e)
      ]
    ]
  where
    over : (early : Bool) →
        AgreesHere k frame frames n (ended k frame frames n answers (Some (record_at (at_of k frame frames) answer common)) (says word answer common))
        (if early then Done n answers (Some (record_at (at_of k frame frames) answer common)) (says word answer common)
        else Done n answers (Some (record_at (at_of k frame frames) answer common)) (says word answer common))
    over true = (omega arith, refl)
    over false = (omega arith, refl)

-- what all share when the text of its fault was printed
abbrev with_fault_printed : Text → Codes → Common → Common
with_fault_printed word answer common = record common { rule_state = with_fault_line word answer.result2 common.rule_state }

-- the shell's events, if `exec` is another
abbrev exec_of : ℕ → ℕ → List Reply → Go
exec_of k n answers = exec k n answers

-- a turn, which may find the flag
some-script : (n : ℕ) → nat_lt 0 n ≡ true → (m : ℕ) × (n ≡ suc m)
some-script zero e = cc
some-script (suc m) e = (m, refl)

turn-agrees : (k n : ℕ) (answers : List Reply) (common : Common) (frame : FrameState) (frames : List FrameState)
    (work : Common → Lone) (meaning : Configuration → Whole) →
    AgreesHere k frame frames (suc n) (work (common_without_flag common)) (meaning (configuration (common_without_flag common) (at_of k frame frames))) →
    AgreesHere k frame frames (suc n) (turn_event k (exec k n answers) (frame ∷ frames) common work) (turn_at (remainder n answers) (configuration common (at_of k frame frames)) meaning)
turn-agrees k n answers common frame frames work meaning h =
    elim (cases_Bool (common.flagged && has_script (frame ∷ frames))) [
      | inl e ↦ rw e (omega arith, some-script (script_count (frame ∷ frames)) (and_parts common.flagged (has_script (frame ∷ frames)) e).1, refl)
      | inr e ↦ rw e h
    ]

-- after a script that ended at a break
break-agrees : (k gas : ℕ) → AgreesAt k gas → (m n : ℕ) (answers : List Reply) (common : Common) (frame : FrameState) (frames : List FrameState)
    (name word : Text) (limit : Code) → n < gas → script_count (frame ∷ frames) ≡ m →
    AgreesHere k frame frames n (go_by k (exec k n answers) common (after_break m (Script name word) limit (end_at_break (frame ∷ frames) common.rule_state) (frame ∷ frames) common.rule_state))
    (after_broken (lines gas) (remainder n answers) (configuration common (at_of k frame frames)) limit word m)
break-agrees k gas ih zero n answers common frame frames name word limit lt e =
    let limited : Common = record common { rule_state = with_limit (limit_above_frames (frame ∷ frames) limit) common.rule_state } in
    answer-agrees k gas ih n answers limited frame frames word broken_codes false lt
break-agrees k gas ih (suc m) n answers common frame frames name word limit lt e = (omega arith, (m, e), refl)

-- after a script
call-agrees : (k gas : ℕ) → AgreesAt k gas → (n : ℕ) (exec : Lone) (meaning : Whole) (frame : FrameState) (frames : List FrameState)
    (name word : Text) (commands : List Text) (limit : Code) (output : Option Target) → n < gas →
    AgreesBy n exec meaning (ended k (new_frame (Script name word) commands limit output) (frame ∷ frames)) (breaking k (new_frame (Script name word) commands limit output) (frame ∷ frames)) (script_count (new_frame (Script name word) commands limit output ∷ frame ∷ frames)) →
    AgreesHere k frame frames n exec (after_call (lines gas) (at_of k frame frames) limit name word meaning)
call-agrees k gas ih n exec (Late answers) frame frames name word commands limit output lt h = h
call-agrees k gas ih n exec Short frame frames name word commands limit output lt h = h
call-agrees k gas ih n exec (Broken left answers last common) frame frames name word commands limit output lt h =
    rw h.2 (weaker left n _ (after_broken (lines gas) (remainder left answers) (configuration (with_report (report_broken k name last) common) (at_of k frame frames)) limit word (script_count (frame ∷ frames))) (ended k frame frames) (breaking k frame frames) (script_count (frame ∷ frames))
    h.0 (break-agrees k gas ih (script_count (frame ∷ frames)) left answers (with_report (report_broken k name last) common) frame frames name word limit (omega (arith, h.0)) refl))
call-agrees k gas ih n exec (Done left answers last common) frame frames name word commands limit output lt h =
    let limited : Common = record (with_report (report_of k name last) common) { rule_state = with_limit (limit_above_frames (frame ∷ frames) limit) common.rule_state } in
    rw h.1 (weaker left n _ (after_answer (lines gas) (remainder left answers) (configuration limited (at_of k frame frames)) word (last_codes last) false)
    (ended k frame frames) (breaking k frame frames) (script_count (frame ∷ frames)) h.0
    (answer-agrees k gas ih left answers limited frame frames word (last_codes last) false (omega (arith, h.0))))

after-some : (n m : ℕ) (kind : FrameKind) (limit : Code) (further : RuleResult) (frames : List FrameState) (rule_state : RuleState) → n ≡ suc m →
    after_break n kind limit further frames rule_state ≡ further
after-some n m kind limit further frames rule_state e = rw e refl

-- after a command substitution the line that waits for it continues
tick-agrees : (k gas : ℕ) → AgreesAt k gas → (n : ℕ) (exec : Lone) (meaning : Whole) (frame : FrameState) (frames : List FrameState)
    (before after : Text) (commands : List Text) (limit : Code) → n < gas →
    AgreesBy n exec meaning (ended k (new_frame (Tick before after) commands limit None) (frame ∷ frames)) (breaking k (new_frame (Tick before after) commands limit None) (frame ∷ frames)) (script_count (new_frame (Tick before after) commands limit None ∷ frame ∷ frames)) →
    AgreesHere k frame frames n exec (after_tick (lines gas) (at_of k frame frames) before after meaning)
tick-agrees k gas ih n exec (Late answers) frame frames before after commands limit lt h = h
tick-agrees k gas ih n exec Short frame frames before after commands limit lt h = h
tick-agrees k gas ih n exec (Broken left answers last common) frame frames before after commands limit lt h = (
  h.0,
  h.1,
  h.2 ∙ ap (go_by k (exec_of k left answers) common)
      (after-some (script_count (frame ∷ frames)) h.1.0 (Tick before after) limit (end_at_break (frame ∷ frames) (common_without_tick common).rule_state) (frame ∷ frames) common.rule_state h.1.1),
)
tick-agrees k gas ih n exec (Done left answers last common) frame frames before after commands limit lt h =
    let parted : Parted = record { before = before; output = newest_kept common.rule_state.kept; after = after } in
    rw h.1 (weaker left n _ (lines gas (remainder left answers) (configuration (common_without_tick common) (at_of k frame frames)) (Some parted)) (ended k frame frames) (breaking k frame frames) (script_count (frame ∷ frames)) h.0
    (ih left answers (common_without_tick common) frame frames (Some parted) (omega (arith, h.0)) tt))

-- what the shell waits for
abbrev WaitsAgree : ℕ → ℕ → List Reply → FrameState → List FrameState → (Configuration → Wait → Whole) → Type 0
WaitsAgree k n answers frame frames further = (common : Common) (wait : Wait) →
    AgreesHere k frame frames n (exec k n answers (frame ∷ frames) (Waiting wait) common) (further (configuration common (at_of k frame frames)) wait)

-- what any completion does
completion-agrees : (k gas : ℕ) → AgreesAt k gas →
    (n : ℕ) (answers : List Reply) (common : Common) (frame : FrameState) (frames : List FrameState)
    (further : Configuration → Wait → Whole) (completion : Completion) → n < gas → WaitsAgree k n answers frame frames further →
    AgreesHere k frame frames n (go_by k (exec k n answers) common (code_rule_of completion (frame ∷ frames) common.rule_state))
    (after_completion further (lines gas) (remainder n answers) (configuration common (at_of k frame frames)) completion)
completion-agrees k gas ih n answers common frame frames further (Passes course) lt waits =
    passed-agrees k gas ih n answers common frame frames lt
completion-agrees k gas ih n answers common frame frames further (Answers word answer quits course) lt waits =
    answer-agrees k gas ih n answers (with_fault_printed word answer common) frame frames word answer quits lt
completion-agrees k gas ih n answers common frame frames further (Jumps word answer line course) lt waits =
    answer-agrees k gas ih n answers (with_fault_printed word answer common) (frame_at_line line frame) frames word answer false lt
completion-agrees k gas ih n answers common frame frames further (Calls word output script course) lt waits =
    elim (cases_Bool (nat_le frame_limit (length (frame ∷ frames)))) [
      | inl e ↦ rw e (answer-agrees k gas ih n answers (with_fault_printed word (fail_codes TOO_MANY_LEVELS) common) frame frames word (fail_codes TOO_MANY_LEVELS) false lt)
      | inr e ↦ rw e (call-agrees k gas ih n _
          (lines gas (remainder n answers) (configuration common (script_at (at_of k frame frames) output script)) None) frame frames
          script.name word script.script common.rule_state.parts.limit output lt
          (passed-agrees k gas ih n answers common (new_frame (Script script.name word) script.script common.rule_state.parts.limit output)
          (frame ∷ frames) lt))
    ]
completion-agrees k gas ih n answers common frame frames further (Ticks before command after course) lt waits =
    tick-agrees k gas ih n _
    (lines gas (remainder n answers) (configuration (common_with_tick common) (tick_at (at_of k frame frames) command)) None) frame frames
    before after (command ∷ []) common.rule_state.parts.limit lt
    (ih n answers (common_with_tick common) (new_frame (Tick before after) (command ∷ []) common.rule_state.parts.limit None)
    (frame ∷ frames) None lt refl)
completion-agrees k gas ih n answers common frame frames further (Waits wait course) lt waits = waits common wait

-- an event that results in a completion
event-agrees : (k gas : ℕ) → AgreesAt k gas →
    (n : ℕ) (answers : List Reply) (common : Common) (frame : FrameState) (frames : List FrameState)
    (further : Configuration → Wait → Whole) (completion : Completion) → n < gas → WaitsAgree k n answers frame frames further →
    AgreesHere k frame frames (suc n) (does k (exec k n answers) (frame ∷ frames) common completion)
    (completion_meaning further (lines gas) (remainder n answers) (configuration common (at_of k frame frames)) completion)
event-agrees k gas ih n answers common frame frames further completion lt waits =
    let later = common_after_event common (course_of completion) in
    weaker n (suc n) _ (after_completion further (lines gas) (remainder n answers) (configuration later (at_of k frame frames)) completion) (ended k frame frames) (breaking k frame frames) (script_count (frame ∷ frames))
    (omega arith) (completion-agrees k gas ih n answers later frame frames further completion lt waits)

-- an event that results in the completion of a line
work-agrees : (k gas : ℕ) → AgreesAt k gas →
    (n : ℕ) (answers : List Reply) (common : Common) (frame : FrameState) (frames : List FrameState)
    (further : Configuration → Wait → Whole) (work : Here → Completion) → n < gas → WaitsAgree k n answers frame frames further →
    AgreesHere k frame frames (suc n) (does k (exec k n answers) (frame ∷ frames) common (work (here_of (frame ∷ frames))))
    (completion_meaning further (lines gas) (remainder n answers) (configuration common (at_of k frame frames)) (work (here_at (at_of k frame frames))))
work-agrees k gas ih n answers common frame frames further work lt waits =
    rw (here-is k frame frames)
    (event-agrees k gas ih n answers common frame frames further (work (here_at (at_of k frame frames))) lt waits)

-- what an answer does
reply-agrees : (k gas : ℕ) → AgreesAt k gas →
    (n : ℕ) (answers : List Reply) (common : Common) (frame : FrameState) (frames : List FrameState)
    (further : Configuration → Wait → Whole) (completion : Option Completion) → n < gas → WaitsAgree k n answers frame frames further →
    AgreesHere k frame frames (suc n) (completion_event k (exec k n answers) (frame ∷ frames) common completion)
    (after_reply (completion_meaning further (lines gas) (remainder n answers) (configuration common (at_of k frame frames))) completion)
reply-agrees k gas ih n answers common frame frames further None lt waits = refl
reply-agrees k gas ih n answers common frame frames further (Some completion) lt waits =
    event-agrees k gas ih n answers common frame frames further completion lt waits

-- what an answer is for it
abbrev replied : ℕ → Common → FrameState → List FrameState → Wait → Reply → Option Completion
replied k common frame frames wait reply = answered_completion (newest_sink (frame ∷ frames)) (start_at (configuration common (at_of k frame frames)) (Some wait)) wait reply

-- what the shell waits for, one event each
waits-agree : (k gas : ℕ) → AgreesAt k gas → (n : ℕ) (answers : List Reply) (frame : FrameState) (frames : List FrameState) → n < gas →
    WaitsAgree k n answers frame frames (waits (lines gas) n answers)
waits-agree k gas ih zero answers frame frames lt common wait = refl
waits-agree k gas ih (suc n) answers frame frames lt common (ForAnswer asking) =
    turn-agrees k n answers common frame frames
    (λ now. does k (exec k n answers) (frame ∷ frames) now (answer_completion [] asking (here_of (frame ∷ frames)) (start_in k (frame ∷ frames) (Waiting (ForAnswer asking)) now)))
    (λ here. completion_meaning (waits (lines gas) n answers) (lines gas) (remainder n answers) here (answer_completion [] asking (here_at here.at) (start_at here (Some (ForAnswer asking)))))
    (work-agrees k gas ih n answers (common_without_flag common) frame frames (waits (lines gas) n answers)
    (λ here. answer_completion [] asking here (start_at (configuration (common_without_flag common) (at_of k frame frames)) (Some (ForAnswer asking)))) (omega arith)
    (waits-agree k gas ih n answers frame frames (omega arith)))
waits-agree k gas ih (suc n) answers frame frames lt common (ForLines gathering) =
    turn-agrees k n answers common frame frames
    (λ now. does k (exec k n answers) (frame ∷ frames) now (gathered_completion gathering (newest_sink (frame ∷ frames)) (start_in k (frame ∷ frames) (Waiting (ForLines gathering)) now)))
    (λ here. completion_meaning (waits (lines gas) n answers) (lines gas) (remainder n answers) here (gathered_completion gathering here.at.sink (start_at here (Some (ForLines gathering)))))
    (event-agrees k gas ih n answers (common_without_flag common) frame frames (waits (lines gas) n answers)
    (gathered_completion gathering (newest_sink (frame ∷ frames)) (start_at (configuration (common_without_flag common) (at_of k frame frames)) (Some (ForLines gathering)))) (omega arith)
    (waits-agree k gas ih n answers frame frames (omega arith)))
waits-agree k gas ih (suc n) [] frame frames lt common (ForStart starting) = refl
waits-agree k gas ih (suc n) [] frame frames lt common (ForPiece child) = refl
waits-agree k gas ih (suc n) [] frame frames lt common (ForEnd child) = refl
waits-agree k gas ih (suc n) (reply ∷ answers) frame frames lt common (ForStart starting) =
    reply-agrees k gas ih n answers common frame frames (waits (lines gas) n answers) (replied k common frame frames (ForStart starting) reply) (omega arith) (waits-agree k gas ih n answers frame frames (omega arith))
waits-agree k gas ih (suc n) (reply ∷ answers) frame frames lt common (ForPiece child) =
    reply-agrees k gas ih n answers common frame frames (waits (lines gas) n answers) (replied k common frame frames (ForPiece child) reply) (omega arith) (waits-agree k gas ih n answers frame frames (omega arith))
waits-agree k gas ih (suc n) (reply ∷ answers) frame frames lt common (ForEnd child) =
    reply-agrees k gas ih n answers common frame frames (waits (lines gas) n answers) (replied k common frame frames (ForEnd child) reply) (omega arith) (waits-agree k gas ih n answers frame frames (omega arith))

-- by the bound: the next line, or the one that continues
pub agrees : (k gas : ℕ) → AgreesAt k gas
agrees k zero n answers common frame frames parted lt next = absurd (omega arith)
agrees k (suc gas) zero answers common frame frames (Some parted) lt next = refl
agrees k (suc gas) zero answers common frame frames None lt next = rw (there frame.lines frame.position next) refl
agrees k (suc gas) (suc n) answers common frame frames (Some parted) lt next =
    turn-agrees k n answers common frame frames
    (λ now. does k (exec k n answers) (frame ∷ frames) now (parted_completion parted (here_of (frame ∷ frames)) (start_in k (frame ∷ frames) (GoingOn parted) now)))
    (λ here. completion_meaning (waits (lines gas) n answers) (lines gas) (remainder n answers) here (parted_completion parted (here_at here.at) (start_at here None)))
    (work-agrees k gas (agrees k gas) n answers (common_without_flag common) frame frames (waits (lines gas) n answers)
    (λ here. parted_completion parted here (start_at (configuration (common_without_flag common) (at_of k frame frames)) None)) (omega arith)
    (waits-agree k gas (agrees k gas) n answers frame frames (omega arith)))
agrees k (suc gas) (suc n) answers common frame frames None lt next =
    let line = get_or frame.lines frame.position [] in
    rw (there frame.lines frame.position next)
    (turn-agrees k n answers common frame frames
    (λ now. line_event k (exec k n answers) frame frames now (Some line))
    (λ here. completion_meaning (waits (lines gas) n answers) (lines gas) (remainder n answers) (at_next_line here) (line_completion line (here_at (at_next_line here).at) (start_at here None)))
    (work-agrees k gas (agrees k gas) n answers (common_without_flag common) (advanced_frame frame) frames (waits (lines gas) n answers)
    (λ here. line_completion line here (start_at (configuration (common_without_flag common) (at_of k frame frames)) None)) (omega arith)
    (waits-agree k gas (agrees k gas) n answers (advanced_frame frame) frames (omega arith))))
