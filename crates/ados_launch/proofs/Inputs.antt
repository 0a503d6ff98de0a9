-- What an event does to the input: shell 1 ends only if the input has ended.
use Rattle.std.proofs.Common.{◌≡◌, ◌≢◌, ℕ, zero, suc, ◌-◌, ◌∷◌, List, [], Option, Some, None, Ok, true, false, not, ◌&&◌, refl, ap, sym, ◌∙◌, is_some, slice_get, slice_set, ◌⊎◌, inl, inr, arith, Bool}
use Rattle.std.specs.Prelude.{if◌then◌else◌}
use Rattle.std.proofs.lemmas.Bool.{cases_Bool, and_parts, true≢false}
use Rattle.std.proofs.lemmas.Grind.{common_steps}
use Rattle.ados_find.specs.declared.codes.Codes.{Codes}
use Rattle.ados_find.specs.declared.outcomes.Renamed.{Renamed}
use Rattle.ados_flow.specs.Frames.{FrameState}
use Rattle.ados_machine.specs.Requests.{request_of}
use Rattle.ados_machine.specs.World.{WorldState, numbered_shell, can_take, can_turn, has_input, is_ready, request_of_shell, pending_of, takes_input as phase_takes, wants_input, wants_line, is_over, input_of, option_flatten}
use Rattle.ados_machine.specs.Numbers.{free_number}
use Rattle.ados_machine.specs.Apply.{TurnResult}
use Rattle.ados_machine.specs.Shells.{ShellStart, begun_shell, ShellState}
use Rattle.ados_machine.specs.Course.{Course}
use Rattle.ados_find.specs.declared.outcomes.Breaking.{Breaking}
use Rattle.ados_find.specs.declared.outcomes.Breaks.{Breaks}
use Rattle.ados_machine.specs.Breaks.{kind_breaks, broken_at, shells_after_break, broken_number, broken_place, has_script}
use Rattle.ados_machine.specs.Carrying.{carried_shells}
use Rattle.ados_machine.specs.Answers.{answered_in}
use Rattle.ados_machine.specs.Sinks.{newest_sink}
use Rattle.ados_machine.specs.Completions.{Completion}
use Rattle.ados_machine.specs.Turning.{Input, Turning, Refuses, Ends, Turned, turning_at_break, turning_in_phase, console_turning, ready_turning, input_turning, turning_of_completion}
use Rattle.ados_machine.specs.Step.{break_response, step_of, turn_response, turning_response, shell_after_turn, start, moved_at_turn, answer_response, course_without_flag, with_begun}
use Rattle.ados_machine.specs.Runs.{resulting_world}
use Rattle.ados_machine.specs.declared.answers.Answer.{Answer as Reply}
use Rattle.ados_machine.specs.declared.outs.Out.{Out}
use Rattle.ados_machine.specs.Phases.{Phase, Ready, GoingOn, Waiting}
use Rattle.ados_machine.specs.declared.phases.Wait.TheVariants.{ForAnswer, ForLines, ForStart, ForPiece, ForEnd}
use Rattle.ados_machine.specs.declared.events.Event.TheVariants.{Typed, Turn, Answer, Break}
use Rattle.ados_machine.specs.declared.events.BreakKind.{BreakKind}
use Rattle.ados_launch.specs.Schedule.{has_open_input}

first-carried : (moved : List Renamed) (shells : List (Option ShellState)) → is_some (option_flatten (slice_get shells 0)) ≡ true → is_some (option_flatten (slice_get (carried_shells moved shells) 0)) ≡ true
first-carried [] shells e = e
first-carried (moved ∷ more) [] e = e
first-carried (moved ∷ more) (None ∷ shells) e = e
first-carried (moved ∷ more) (Some shell ∷ shells) e = refl

first-set : (shells : List (Option ShellState)) (i : ℕ) (shell : ShellState) → is_some (option_flatten (slice_get shells 0)) ≡ true → is_some (option_flatten (slice_get (slice_set shells i (Some shell)) 0)) ≡ true
first-set [] i shell e = cc
first-set (found ∷ shells) zero shell e = refl
first-set (found ∷ shells) (suc i) shell e = e

-- a shell that begins is at another number, or is itself the first
first-begun : (begun : Option ShellStart) (number : Option ℕ) (shells : List (Option ShellState)) → is_some (option_flatten (slice_get shells 0)) ≡ true → is_some (option_flatten (slice_get (with_begun begun number shells) 0)) ≡ true
first-begun None number shells e = e
first-begun (Some begun) None shells e = e
first-begun (Some begun) (Some number) shells e = first-set shells (number - 1) (begun_shell number begun) e

-- a shell that is broken runs on
place-broken : (breaks : Breaks) (found : Option ShellState) → is_some found ≡ true → is_some (broken_place breaks found) ≡ true
place-broken breaks None e = e
place-broken breaks (Some shell) e = refl

first-at : (breaks : Breaks) (n : ℕ) (shells : List (Option ShellState)) → is_some (option_flatten (slice_get shells 0)) ≡ true → is_some (option_flatten (slice_get (broken_at breaks n shells) 0)) ≡ true
first-at breaks n [] e = e
first-at breaks zero (found ∷ shells) e = place-broken breaks found e
first-at breaks (suc n) (found ∷ shells) e = e

first-numbered : (breaks : Breaks) (n : ℕ) (shells : List (Option ShellState)) → is_some (option_flatten (slice_get shells 0)) ≡ true → is_some (option_flatten (slice_get (broken_number breaks n shells) 0)) ≡ true
first-numbered breaks zero shells e = e
first-numbered breaks (suc n) shells e = first-at breaks n shells e

first-broken : (breaking : Option Breaking) (shells : List (Option ShellState)) → is_some (option_flatten (slice_get shells 0)) ≡ true → is_some (option_flatten (slice_get (shells_after_break breaking shells) 0)) ≡ true
first-broken None shells e = e
first-broken (Some breaking) shells e = first-numbered breaking.breaks breaking.shell shells e

-- the shell at a number is replaced: the first by a shell
first-replaced : (shells : List (Option ShellState)) (i : ℕ) (now : Option ShellState) → (i ≡ 0 → is_some now ≡ true) → is_some (option_flatten (slice_get shells 0)) ≡ true
    → is_some (option_flatten (slice_get (slice_set shells i now) 0)) ≡ true
first-replaced [] i now some e = cc
first-replaced (found ∷ shells) zero now some e = some refl
first-replaced (found ∷ shells) (suc i) now some e = e

-- shell 1 runs on after each turn that takes something
first-left : (k : ℕ) (moved : List Renamed) (turn_response : TurnResult) → k ≡ 1 → is_some (shell_after_turn k moved turn_response) ≡ true
first-left k moved turn_response one = rw one refl

first-unset : (shells : List (Option ShellState)) (i : ℕ) → i ≢ 0 → option_flatten (slice_get (slice_set shells i None) 0) ≡ option_flatten (slice_get shells 0)
first-unset [] i some = refl
first-unset (found ∷ shells) zero some = absurd (some refl)
first-unset (found ∷ shells) (suc i) some = refl

-- a typed line leaves the shells and the input's end unchanged
pub typed-takes : (w : WorldState) (out : Out) (line : List ℕ) → has_open_input w ≡ true → has_open_input (resulting_world w (Ok out) (step_of w (Typed line))) ≡ true
typed-takes w out line e = grind (arith, common_steps)

console-ends : (queue : List (List ℕ)) (is_ended : Bool) (course : Course) → console_turning queue is_ended course ≡ Ends → is_ended ≡ true
console-ends [] true course e = refl
console-ends [] false course e = cc
console-ends (line ∷ rest) is_ended course e = cc

ready-ends : (input : Input) (frames : List FrameState) (course : Course) → ready_turning input frames course ≡ Ends → input.is_ended ≡ true
ready-ends input [] course e = console-ends input.queue input.is_ended course e
ready-ends input (frame ∷ frames) course e = cc

input-ends : (queue : List (List ℕ)) (is_ended : Bool) (frames : List FrameState) (by_line : List ℕ → Completion) (by_end : Completion) → input_turning queue is_ended frames by_line by_end ≡ Ends → is_ended ≡ true
input-ends [] true frames by_line by_end e = refl
input-ends [] false frames by_line by_end e = cc
input-ends (line ∷ rest) is_ended frames by_line by_end e = cc

-- a shell ends only at the end of its input
turning-ends : (input : Input) (frames : List FrameState) (course : Course) (phase : Phase) → turning_in_phase input frames course phase ≡ Ends → input.is_ended ≡ true
turning-ends input frames course Ready e = ready-ends input frames course e
turning-ends input frames course (GoingOn parted) e = cc
turning-ends input frames course (Waiting (ForAnswer asking)) e = input-ends input.queue input.is_ended frames _ _ e
turning-ends input frames course (Waiting (ForLines gathering)) e = input-ends input.queue input.is_ended frames _ _ e
turning-ends input frames course (Waiting (ForStart starting)) e = cc
turning-ends input frames course (Waiting (ForPiece child)) e = cc
turning-ends input frames course (Waiting (ForEnd child)) e = cc

-- nor if its scripts end at a break
placed-ends : (t : Turning) (input : Input) (frames : List FrameState) (course : Course) → turning_at_break t input frames course ≡ Ends → t ≡ Ends
placed-ends (Refuses why) input frames course e = cc
placed-ends Ends input frames course e = refl
placed-ends (Turned queue turn_response) input frames course e = cc

flagged-ends : (b : Bool) (input : Input) (frames : List FrameState) (course : Course) (phase : Phase) →
    (if b then turning_at_break (turning_in_phase input frames course phase) input frames course else turning_in_phase input frames course phase) ≡ Ends → input.is_ended ≡ true
flagged-ends true input frames course phase e = turning-ends input frames course phase (placed-ends (turning_in_phase input frames course phase) input frames course e)
flagged-ends false input frames course phase e = turning-ends input frames course phase e

applied-takes : (w : WorldState) (out : Out) (k : ℕ) (codes : Codes) (t : Turning) → (t ≡ Ends → k ≢ 1) → k ≢ 0 → has_open_input w ≡ true → has_open_input (resulting_world w (Ok out) (turning_response w k codes t)) ≡ true
applied-takes w out k codes (Refuses why) ends some e = e
applied-takes w out k codes Ends ends some e = rw (first-unset w.shells (k - 1) (omega (arith, some, ends refl))) e
applied-takes w out k codes (Turned queue turn_response) ends some e =
    let parts = and_parts (is_some (numbered_shell w 1)) (not w.input_ended) e in
    let moved = moved_at_turn w turn_response in
    let carried = first-carried moved w.shells parts.0 in
    let begun = first-begun turn_response.course.begun (free_number w.shells) (carried_shells moved w.shells) carried in
    let broke = first-broken turn_response.course.breaking (with_begun turn_response.course.begun (free_number w.shells) (carried_shells moved w.shells)) begun in
    rw (
      first-replaced (shells_after_break turn_response.course.breaking (with_begun turn_response.course.begun (free_number w.shells) (carried_shells moved w.shells))) (k - 1) (shell_after_turn k moved turn_response)
          (λ first. first-left k moved turn_response (omega (arith, some, first))) broke,
      parts.1,
    ) refl

turned-takes : (w : WorldState) (out : Out) (k : ℕ) (found : Option ShellState) → numbered_shell w k ≡ found → has_open_input w ≡ true → has_open_input (resulting_world w (Ok out) (turn_response w k found)) ≡ true
turned-takes w out k None at e = e
turned-takes w out k (Some shell) at e =
    let unended : not w.input_ended ≡ true = (and_parts (is_some (numbered_shell w 1)) (not w.input_ended) e).1 in
    applied-takes w out k shell.parts.codes _
    (λ ends one.
    let ended : (input_of w k).is_ended ≡ true = flagged-ends (shell.flagged && has_script shell.frames) (input_of w k) shell.frames (course_without_flag (start w shell)) shell.phase ends in
    let first : w.input_ended ≡ true = rw one at ended in
    true≢false (sym unended ∙ ap not first))
    (λ none. let nothing : None ≡ Some shell = rw none at at in cc)
    e

-- a turn leaves the input unchanged, and shell 1 ends only if it has ended
pub turn-takes : (w : WorldState) (out : Out) (k : ℕ) → has_open_input w ≡ true → has_open_input (resulting_world w (Ok out) (step_of w (Turn k))) ≡ true
turn-takes w out k e =
    elim (cases_Bool (is_over w)) [
      | inl over ↦ rw over e
      | inr running ↦ rw running (turned-takes w out k (numbered_shell w k) refl e)
    ]

-- only a background shell ends by an answer
replied-never : (input : Input) (frames : List FrameState) (completion : Option Completion) → turning_of_completion input frames completion ≡ Ends → ⊥
replied-never input frames None e = cc
replied-never input frames (Some completion) e = cc

answered-takes : (w : WorldState) (out : Out) (k : ℕ) (reply : Reply) (found : Option ShellState) → numbered_shell w k ≡ found → has_open_input w ≡ true →
    has_open_input (resulting_world w (Ok out) (answer_response w k reply found)) ≡ true
answered-takes w out k reply None at e = e
answered-takes w out k reply (Some shell) at e =
    applied-takes w out k shell.parts.codes _
    (λ ends. absurd (replied-never (input_of w k) shell.frames (answered_in (newest_sink shell.frames) (start w shell) shell.phase reply) ends))
    (λ none. let nothing : None ≡ Some shell = rw none at at in cc)
    e

pub answer-takes : (w : WorldState) (out : Out) (k : ℕ) (reply : Reply) → has_open_input w ≡ true → has_open_input (resulting_world w (Ok out) (step_of w (Answer k reply))) ≡ true
answer-takes w out k reply e =
    elim (cases_Bool (is_over w)) [
      | inl over ↦ rw over e
      | inr running ↦ rw running (answered-takes w out k reply (numbered_shell w k) refl e)
    ]

broken-takes : (w : WorldState) (out : Out) (k : ℕ) (kind : BreakKind) (found : Option ShellState) → has_open_input w ≡ true → has_open_input (resulting_world w (Ok out) (break_response w k kind found)) ≡ true
broken-takes w out k kind None e = e
broken-takes w out k kind (Some shell) e =
    let parts = and_parts (is_some (numbered_shell w 1)) (not w.input_ended) e in
    rw (first-numbered (kind_breaks kind) k w.shells parts.0, parts.1) refl

-- no shell ends by a break
pub break-takes : (w : WorldState) (out : Out) (k : ℕ) (kind : BreakKind) → has_open_input w ≡ true → has_open_input (resulting_world w (Ok out) (step_of w (Break k kind))) ≡ true
break-takes w out k kind e =
    elim (cases_Bool (is_over w)) [
      | inl over ↦ rw over e
      | inr running ↦ rw running (broken-takes w out k kind (numbered_shell w k) e)
    ]

-- if shell 1 takes input and does not wait for a launcher, a line is wanted or shell 1 is ready
due-by-phase : (input : Input) (k : ℕ) (frames : List FrameState) (phase : Phase) → request_of k phase ≡ None → can_take input frames phase ≡ false →
    (phase_takes frames phase && not (has_input input)) ≡ true
due-by-phase input k [] Ready none e = grind (arith, common_steps)
due-by-phase input k (frame ∷ frames) Ready none e = cc
due-by-phase input k frames (GoingOn parted) none e = cc
due-by-phase input k frames (Waiting (ForAnswer asking)) none e = grind (arith, common_steps)
due-by-phase input k frames (Waiting (ForLines gathering)) none e = grind (arith, common_steps)
due-by-phase input k frames (Waiting (ForStart starting)) none e = cc
due-by-phase input k frames (Waiting (ForPiece child)) none e = cc
due-by-phase input k frames (Waiting (ForEnd child)) none e = cc

found-due : (input : Input) (found : Option ShellState) → is_some found ≡ true → request_of_shell found ≡ None → can_turn input found ≡ false →
    (wants_input found && not (has_input input)) ≡ true
found-due input None some none e = cc
found-due input (Some shell) some none e = due-by-phase input shell.parts.number shell.frames shell.phase none e

pub takes-due : (w : WorldState) → pending_of w 1 ≡ None → has_open_input w ≡ true → (wants_line w ≡ true) ⊎ (is_ready w 1 ≡ true)
takes-due w none e =
    elim (cases_Bool (is_ready w 1)) [
      | inl ready ↦ inr ready
      | inr unready ↦ inl (found-due (input_of w 1) (numbered_shell w 1) (and_parts (is_some (numbered_shell w 1)) (not w.input_ended) e).0 none unready)
    ]
