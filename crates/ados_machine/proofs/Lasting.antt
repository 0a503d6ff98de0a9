-- What is seen of a shell lasts from one event to the next, while its phase holds it and no answer changes it.
use Rattle.std.proofs.Common.{◌≡◌, ◌≢◌, ◌∙◌, sym, ℕ, List, [], ◌∷◌, Bool, true, false, Option, Some, None, refl, ap, arith, inl, inr}
use Rattle.std.proofs.lemmas.Bool.{cases_Bool, cases_eq}
use Rattle.ados_text.specs.Text.{Bytes}
use Rattle.ados_text.specs.declared.codes.Result2.{Result2}
use Rattle.ados_text.specs.declared.codes.TheConstants.Result2.{PIPE_FAULT}
use Rattle.ados_find.specs.declared.codes.Codes.{Codes}
use Rattle.ados_find.specs.declared.outcomes.Breaks.{Breaks}
use Rattle.ados_find.specs.declared.outcomes.Renamed.{Renamed}
use Rattle.ados_flow.specs.Frames.{FrameState}
use Rattle.ados_machine.specs.declared.answers.Answer.{Answer as Reply}
use Rattle.ados_machine.specs.declared.answers.Answer.TheVariants.{«Bytes» as Piece, End, PipeFault, Exit, Signal, WaitFault}
use Rattle.ados_machine.specs.declared.events.Event.{Event}
use Rattle.ados_machine.specs.declared.events.BreakKind.{BreakKind}
use Rattle.ados_machine.specs.declared.phases.Asking.{Asking}
use Rattle.ados_machine.specs.declared.phases.Child.{Child}
use Rattle.ados_machine.specs.declared.phases.Gathering.{Gathering}
use Rattle.ados_machine.specs.declared.phases.Parted.{Parted}
use Rattle.ados_machine.specs.declared.phases.Starting.{Starting}
use Rattle.ados_machine.specs.Phases.{Phase}
use Rattle.ados_machine.specs.Phases as phase
use Rattle.ados_machine.specs.declared.phases.Wait.{Wait}
use Rattle.ados_machine.specs.declared.phases.Wait.TheVariants.{ForAnswer, ForLines, ForStart, ForPiece, ForEnd}
use Rattle.ados_machine.specs.Answers.{with_fault, child_at_end, piece_completion, is_piece, ended_completion, answered_completion, answered_in}
use Rattle.ados_machine.specs.Breaks.{kind_breaks, shells_after_break, marked_if}
use Rattle.ados_machine.specs.Carrying.{carried_shells, carried_or_same}
use Rattle.ados_machine.specs.Course.{Course}
use Rattle.ados_machine.specs.Completions.{Completion, Passes, Answers, Jumps, Calls, Ticks, Waits}
use Rattle.ados_machine.specs.InUse.{StaysWhile}
use Rattle.ados_machine.specs.Numbers.{free_number}
use Rattle.ados_machine.specs.Apply.{TurnResult, frames_at_line, rule_state_of, turn_of_completion}
use Rattle.ados_machine.specs.Shells.{ShellStart, begun_shell, ShellState}
use Rattle.ados_machine.specs.Sinks.{Sink, newest_sink}
use Rattle.ados_machine.specs.Step.{Response, Refused, Accepted, shell_of_turn, with_begun, is_done, shell_after_turn, moved_at_turn, turn_taken, shell_ended, start, course_without_flag, turning_response, turn_response, answer_response, break_response, step_of}
use Rattle.ados_machine.specs.Turning.{Turning, Refuses, Ends, Turned, flagged_turning, turning_of_completion}
use Rattle.ados_machine.specs.World.{WorldState, numbered_shell, input_of}
use Rattle.ados_machine.proofs.AskedTurns.{flagged-refused}
use Rattle.ados_machine.proofs.Moves.{placed-at}
use Rattle.ados_machine.proofs.Rests.{IsIdle, passed-rests, finished-rests, called-rests, ticked-rests}
use Rattle.ados_machine.proofs.Shells.{broken-same, carried-same, shells_after, broken_maybe, broken_for, found-broken, found, IsFree, free-number, carried-free, carried_found, found-carried, found-set_same, found-set_other, found-left, runs_pos}
use Rattle.ados_machine.proofs.StepCases.{of-step}

-- if a completion waits on, the same is seen above these frames
abbrev pub SeenAfter : {X : Type 0} → (List FrameState → Phase → X) → List FrameState → X → Option Completion → Type 0
SeenAfter look frames value (Some (Waits wait course)) = look frames (phase.Waiting wait) ≡ value
SeenAfter look frames value completion = Unit {0}

-- the phases of a shell that waits for no launcher do not hold it
abbrev pub FreeWithout : (Phase → Bool) → Type 0
FreeWithout holds =
    (holds phase.Ready ≡ false) × ((parted : Parted) → holds (phase.GoingOn parted) ≡ false)
    × ((asking : Asking) → holds (phase.Waiting (ForAnswer asking)) ≡ false) × ((gathering : Gathering) → holds (phase.Waiting (ForLines gathering)) ≡ false)

-- what is seen of a shell by its frames and its phase, and nothing if there is none; while its phase holds that, it
-- waits for a launcher, whose answers keep it: one to a start, a piece of output, the end of the output, and a fault of the pipe
pub record Watch (X : Type 0) : Type 0 where
  pub nothing : X
  pub look : List FrameState → Phase → X
  pub holds : Phase → Bool
  pub marked : (frames : List FrameState) (marks : Bool) (now : Phase) → look frames (marked_if marks now) ≡ look frames now
  pub free : FreeWithout holds
  pub starts : (frames : List FrameState) (sink : Sink) (course : Course) (starting : Starting) (answer : Reply) → holds (phase.Waiting (ForStart starting)) ≡ true →
      SeenAfter look frames (look frames (phase.Waiting (ForStart starting))) (answered_completion sink course (ForStart starting) answer)
  pub pieces : (frames : List FrameState) (sink : Sink) (course : Course) (child : Child) (bytes : Bytes) → holds (phase.Waiting (ForPiece child)) ≡ true →
      SeenAfter look frames (look frames (phase.Waiting (ForPiece child))) (Some (piece_completion child bytes sink course child.fault))
  pub ends : (frames : List FrameState) (child : Child) → holds (phase.Waiting (ForPiece child)) ≡ true →
      look frames (phase.Waiting (ForEnd (child_at_end child))) ≡ look frames (phase.Waiting (ForPiece child))
  pub pipe_faults : (frames : List FrameState) (child : Child) → holds (phase.Waiting (ForPiece child)) ≡ true →
      look frames (phase.Waiting (ForEnd (with_fault (child_at_end child) PIPE_FAULT))) ≡ look frames (phase.Waiting (ForPiece child))

abbrev pub seen_by : {X : Type 0} → Watch X → Option ShellState → X
seen_by s None = s.nothing
seen_by s (Some shell) = s.look shell.frames shell.phase

abbrev pub is_held : {X : Type 0} → Watch X → Option ShellState → Bool
is_held s None = false
is_held s (Some shell) = s.holds shell.phase

never : false ≡ true → ⊥
never e = cc

idle-free : {X : Type 0} (s : Watch X) (now : Phase) → IsIdle now → s.holds now ≡ false
idle-free s phase.Ready idle = s.free.0
idle-free s (phase.GoingOn parted) idle = s.free.1 parted
idle-free s (phase.Waiting wait) idle = absurd idle

-- an answer to what a shell waits for
ended-seen : {X : Type 0} (look : List FrameState → Phase → X) (frames : List FrameState) (value : X) (child : Child) (codes : Codes) (course : Course) (fault : Option Result2) →
    SeenAfter look frames value (Some (ended_completion child codes course fault))
ended-seen look frames value child codes course (Some fault) = tt
ended-seen look frames value child codes course None = tt

wait-seen : {X : Type 0} (s : Watch X) (frames : List FrameState) (sink : Sink) (course : Course) (wait : Wait) (answer : Reply) → s.holds (phase.Waiting wait) ≡ true →
    SeenAfter s.look frames (s.look frames (phase.Waiting wait)) (answered_completion sink course wait answer)
wait-seen s frames sink course (ForStart starting) answer held = s.starts frames sink course starting answer held
wait-seen s frames sink course (ForPiece child) (Piece bytes) held =
    elim (cases_Bool (is_piece bytes)) [
      | inl e ↦ rw e (s.pieces frames sink course child bytes held)
      | inr e ↦ rw e tt
    ]
wait-seen s frames sink course (ForPiece child) End held = s.ends frames child held
wait-seen s frames sink course (ForPiece child) PipeFault held = s.pipe_faults frames child held
wait-seen s frames sink course (ForEnd child) (Exit status) held = ended-seen s.look frames _ child _ course child.fault
wait-seen s frames sink course (ForEnd child) Signal held = ended-seen s.look frames _ child _ course child.fault
wait-seen s frames sink course (ForEnd child) WaitFault held = ended-seen s.look frames _ child _ course child.fault
wait-seen s frames sink course wait answer held = tt

answer-seen : {X : Type 0} (s : Watch X) (frames : List FrameState) (sink : Sink) (course : Course) (now : Phase) (answer : Reply) → s.holds now ≡ true →
    SeenAfter s.look frames (s.look frames now) (answered_in sink course now answer)
answer-seen s frames sink course phase.Ready answer held = tt
answer-seen s frames sink course (phase.GoingOn parted) answer held = tt
answer-seen s frames sink course (phase.Waiting wait) answer held = wait-seen s frames sink course wait answer held

carried-seen : {X : Type 0} (s : Watch X) (renamed : List Renamed) (o : Option ShellState) → seen_by s (carried_found renamed o) ≡ seen_by s o
carried-seen s = carried-same (seen_by s) (λ moved shell. refl)

carried-held : {X : Type 0} (s : Watch X) (renamed : List Renamed) (o : Option ShellState) → is_held s (carried_found renamed o) ≡ is_held s o
carried-held s = carried-same (is_held s) (λ moved shell. refl)

own-seen : {X : Type 0} (s : Watch X) (renamed : List Renamed) (shell : ShellState) → seen_by s (Some (carried_or_same renamed shell)) ≡ s.look shell.frames shell.phase
own-seen s [] shell = refl
own-seen s (renamed ∷ more) shell = refl

own-held : {X : Type 0} (s : Watch X) (renamed : List Renamed) (shell : ShellState) → is_held s (Some (carried_or_same renamed shell)) ≡ s.holds shell.phase
own-held s [] shell = refl
own-held s (renamed ∷ more) shell = refl

broken-seen : {X : Type 0} (s : Watch X) (breaks : Option Breaks) (o : Option ShellState) → seen_by s (broken_maybe breaks o) ≡ seen_by s o
broken-seen s = broken-same (seen_by s) (λ breaks shell. s.marked shell.frames breaks.marks shell.phase)

-- a shell begins at a number that has none
begun-seen : {X : Type 0} (s : Watch X) (shells : List (Option ShellState)) (begun : Option ShellStart) (n : Option ℕ) (j : ℕ) → IsFree shells n →
    is_held s (found shells j) ≡ true → seen_by s (found (with_begun begun n shells) j) ≡ seen_by s (found shells j)
begun-seen s shells None n j free held = refl
begun-seen s shells (Some begun) None j free held = refl
begun-seen s shells (Some begun) (Some n) j free held =
    elim (cases_eq n j) [
      | inl same ↦
          (let there = placed-at shells n free.0 (Some (begun_shell n begun)) free.1 free.2 in
          absurd (none (found shells n) there.1 (rw (sym same) at held)))
      | inr differ ↦ ap (seen_by s) (found-set_other shells n (Some (begun_shell n begun)) j (λ e. differ (sym e)) (omega (arith, free.1)))
    ]
  where
    none : (o : Option ShellState) → o ≡ None → is_held s o ≡ true → ⊥
    none None e h = cc
    none (Some shell) e h = cc

others-seen : {X : Type 0} (s : Watch X) (shells : List (Option ShellState)) (k : ℕ) (shell : ShellState) (moved : List Renamed) (t : TurnResult) → found shells k ≡ Some shell →
    (j : ℕ) → j ≢ k → is_held s (found shells j) ≡ true → seen_by s (found (shells_after shells k moved t) j) ≡ seen_by s (found shells j)
others-seen s shells k shell moved t is j differ held =
    let carried = carried_shells moved shells in
    let number = free_number shells in
    let free = carried-free moved shells number (free-number shells) in
    let there = found-carried moved shells j in
    let placed = with_begun t.course.begun number carried in
    let breaking = t.course.breaking in
    ap (seen_by s) (found-set_other (shells_after_break breaking placed) k (shell_after_turn k moved t) j differ (runs_pos shells k shell is))
    ∙ (ap (seen_by s) (found-broken breaking placed j)
    ∙ broken-seen s (broken_for breaking j) (found placed j)
    ∙ begun-seen s carried t.course.begun number j free (ap (is_held s) there ∙ carried-held s moved (found shells j) ∙ held)
    ∙ (ap (seen_by s) there ∙ carried-seen s moved (found shells j)))

-- an accepted event keeps what is seen of each shell that is held before it and after it
abbrev pub Keeps : {X : Type 0} → Watch X → WorldState → Response → Type 0
Keeps s w (Refused why) = Unit {0}
Keeps s w (Accepted world out items) =
    (j : ℕ) → is_held s (numbered_shell w j) ≡ true → is_held s (numbered_shell world j) ≡ true → seen_by s (numbered_shell world j) ≡ seen_by s (numbered_shell w j)

-- so does a turn that does so of its own shell
took-keeps : {X : Type 0} (s : Watch X) (w : WorldState) (k : ℕ) (shell : ShellState) (queue : List (List ℕ)) (t : TurnResult) → numbered_shell w k ≡ Some shell →
    (s.holds shell.phase ≡ true → is_held s (shell_after_turn k (moved_at_turn w t) t) ≡ true → seen_by s (shell_after_turn k (moved_at_turn w t) t) ≡ s.look shell.frames shell.phase) →
    Keeps s w (turn_taken w k queue t)
took-keeps s w k shell queue t is own = λ j before later.
    let moved = moved_at_turn w t in
    elim (cases_eq j k) [
      | inl same ↦
          (let there = found-left w.shells k shell moved t is in
          rw same (ap (seen_by s) there
          ∙ (own (ap (is_held s) (sym is) ∙ (rw same at before)) (ap (is_held s) (sym there) ∙ (rw same at later)) ∙ ap (seen_by s) (sym is))))
      | inr differ ↦ others-seen s w.shells k shell moved t is j differ before
    ]

ended-keeps : {X : Type 0} (s : Watch X) (w : WorldState) (k : ℕ) (shell : ShellState) (codes : Codes) → numbered_shell w k ≡ Some shell → Keeps s w (shell_ended w k codes)
ended-keeps s w k shell codes is = λ j before later.
    elim (cases_eq j k) [
      | inl same ↦ absurd (never (ap (is_held s) (sym (found-set_same w.shells k shell None is)) ∙ (rw same at later)))
      | inr differ ↦ ap (seen_by s) (found-set_other w.shells k None j differ (runs_pos w.shells k shell is))
    ]

-- a shell that is not held
applied-keeps : {X : Type 0} (s : Watch X) (w : WorldState) (k : ℕ) (shell : ShellState) (now : Turning) → numbered_shell w k ≡ Some shell → s.holds shell.phase ≡ false →
    Keeps s w (turning_response w k shell.parts.codes now)
applied-keeps s w k shell (Refuses why) is free = tt
applied-keeps s w k shell Ends is free = ended-keeps s w k shell shell.parts.codes is
applied-keeps s w k shell (Turned queue t) is free = took-keeps s w k shell queue t is (λ before later. absurd (never (sym free ∙ before)))

-- its turn in a phase
abbrev turn_by : WorldState → ℕ → ShellState → Phase → Turning
turn_by w k shell now = flagged_turning shell.flagged (input_of w k) shell.frames (course_without_flag (start w shell)) now

-- a shell that waits for a launcher takes no turn
by-phase : {X : Type 0} (s : Watch X) (w : WorldState) (k : ℕ) (shell : ShellState) (now : Phase) → numbered_shell w k ≡ Some shell → shell.phase ≡ now →
    Keeps s w (turning_response w k shell.parts.codes (turn_by w k shell now))
by-phase s w k shell (phase.Waiting (ForStart starting)) is e =
    rw (flagged-refused shell.flagged (input_of w k) shell.frames (course_without_flag (start w shell)) (ForStart starting) refl) tt
by-phase s w k shell (phase.Waiting (ForPiece child)) is e =
    rw (flagged-refused shell.flagged (input_of w k) shell.frames (course_without_flag (start w shell)) (ForPiece child) refl) tt
by-phase s w k shell (phase.Waiting (ForEnd child)) is e =
    rw (flagged-refused shell.flagged (input_of w k) shell.frames (course_without_flag (start w shell)) (ForEnd child) refl) tt
by-phase s w k shell phase.Ready is e =
    applied-keeps s w k shell (turn_by w k shell phase.Ready) is (ap s.holds e ∙ s.free.0)
by-phase s w k shell (phase.GoingOn parted) is e =
    applied-keeps s w k shell (turn_by w k shell (phase.GoingOn parted)) is (ap s.holds e ∙ s.free.1 parted)
by-phase s w k shell (phase.Waiting (ForAnswer asking)) is e =
    applied-keeps s w k shell (turn_by w k shell (phase.Waiting (ForAnswer asking))) is (ap s.holds e ∙ s.free.2 asking)
by-phase s w k shell (phase.Waiting (ForLines gathering)) is e =
    applied-keeps s w k shell (turn_by w k shell (phase.Waiting (ForLines gathering))) is (ap s.holds e ∙ s.free.3 gathering)

turned-keeps : {X : Type 0} (s : Watch X) (w : WorldState) (k : ℕ) (o : Option ShellState) → numbered_shell w k ≡ o → Keeps s w (turn_response w k o)
turned-keeps s w k None is = tt
turned-keeps s w k (Some shell) is = by-phase s w k shell shell.phase is refl

-- what an answer leaves
abbrev LeftKeeps : {X : Type 0} → Watch X → ℕ → List Renamed → X → TurnResult → Type 0
LeftKeeps s k moved value t = is_held s (shell_after_turn k moved t) ≡ true → seen_by s (shell_after_turn k moved t) ≡ value

idle-keeps : {X : Type 0} (s : Watch X) (k : ℕ) (moved : List Renamed) (value : X) (t : TurnResult) → IsIdle t.phase → LeftKeeps s k moved value t
idle-keeps s k moved value t idle =
    elim (cases_Bool (is_done k t.frames)) [
      | inl d ↦ rw d (λ held. absurd (never held))
      | inr d ↦ rw d (λ held. absurd (never (sym (idle-free s t.phase idle) ∙ (sym (own-held s moved (shell_of_turn t)) ∙ held))))
    ]

pub waits-keeps : {X : Type 0} (s : Watch X) (k : ℕ) (moved : List Renamed) (value : X) (wait : Wait) (course : Course) (frames : List FrameState) →
    s.look frames (phase.Waiting wait) ≡ value → LeftKeeps s k moved value (turn_of_completion (Waits wait course) frames)
waits-keeps s k moved value wait course frames same =
    elim (cases_Bool (is_done k frames)) [
      | inl d ↦ rw d (λ held. absurd (never held))
      | inr d ↦ rw d (λ held. own-seen s moved (shell_of_turn (turn_of_completion (Waits wait course) frames)) ∙ same)
    ]

settle-keeps : {X : Type 0} (s : Watch X) (k : ℕ) (moved : List Renamed) (value : X) (completion : Completion) (frames : List FrameState) →
    SeenAfter s.look frames value (Some completion) → LeftKeeps s k moved value (turn_of_completion completion frames)
settle-keeps s k moved value (Passes course) frames keeps = idle-keeps s k moved value (turn_of_completion (Passes course) frames) (passed-rests frames (rule_state_of course)).idle
settle-keeps s k moved value (Answers word answer quits course) frames keeps =
    idle-keeps s k moved value (turn_of_completion (Answers word answer quits course) frames) (finished-rests word answer quits frames (rule_state_of course)).idle
settle-keeps s k moved value (Jumps word answer line course) frames keeps =
    idle-keeps s k moved value (turn_of_completion (Jumps word answer line course) frames) (finished-rests word answer false (frames_at_line line frames) (rule_state_of course)).idle
settle-keeps s k moved value (Calls word output script course) frames keeps =
    idle-keeps s k moved value (turn_of_completion (Calls word output script course) frames) (called-rests word output script frames (rule_state_of course)).idle
settle-keeps s k moved value (Ticks before command after course) frames keeps =
    idle-keeps s k moved value (turn_of_completion (Ticks before command after course) frames) (ticked-rests before command after frames (rule_state_of course)).idle
settle-keeps s k moved value (Waits wait course) frames keeps = waits-keeps s k moved value wait course frames keeps

replied-keeps : {X : Type 0} (s : Watch X) (w : WorldState) (k : ℕ) (shell : ShellState) (completion : Option Completion) → numbered_shell w k ≡ Some shell →
    (s.holds shell.phase ≡ true → SeenAfter s.look shell.frames (s.look shell.frames shell.phase) completion) →
    Keeps s w (turning_response w k shell.parts.codes (turning_of_completion (input_of w k) shell.frames completion))
replied-keeps s w k shell None is keeps = tt
replied-keeps s w k shell (Some completion) is keeps =
    let t = turn_of_completion completion shell.frames in
    took-keeps s w k shell (input_of w k).queue t is
    (λ before later. settle-keeps s k (moved_at_turn w t) (s.look shell.frames shell.phase) completion shell.frames (keeps before) later)

answered-keeps : {X : Type 0} (s : Watch X) (w : WorldState) (k : ℕ) (reply : Reply) (o : Option ShellState) → numbered_shell w k ≡ o → Keeps s w (answer_response w k reply o)
answered-keeps s w k reply None is = tt
answered-keeps s w k reply (Some shell) is =
    replied-keeps s w k shell (answered_in (newest_sink shell.frames) (start w shell) shell.phase reply) is
    (answer-seen s shell.frames (newest_sink shell.frames) (start w shell) shell.phase reply)

break-keeps : {X : Type 0} (s : Watch X) (w : WorldState) (k : ℕ) (kind : BreakKind) (o : Option ShellState) → Keeps s w (break_response w k kind o)
break-keeps s w k kind None = tt
break-keeps s w k kind (Some shell) = λ j before later.
    let breaking = Some (record { shell = k; breaks = kind_breaks kind }) in
    ap (seen_by s) (found-broken breaking w.shells j) ∙ broken-seen s (broken_for breaking j) (found w.shells j)

pub step-keeps : {X : Type 0} (s : Watch X) (w : WorldState) (event : Event) → Keeps s w (step_of w event)
step-keeps s w event = of-step w (λ event response. Keeps s w response) (record {
  refused = λ event why. tt;
  typed = λ line. (λ j before later. refl);
  ended = λ j before later. refl;
  turned = λ k shell is. turned-keeps s w k (Some shell) is;
  answered = λ k reply shell is. answered-keeps s w k reply (Some shell) is;
  broken = λ k kind shell is. break-keeps s w k kind (Some shell);
}) event

-- so what a law sees of a shell stays, if it sees what is watched
pub watched-stays : {X : Type 0} (s : Watch X) (holds : Option ShellState → Bool) (seen : Option ShellState → X) →
    ((o : Option ShellState) → holds o ≡ is_held s o) → ((o : Option ShellState) → seen o ≡ seen_by s o) →
    StaysWhile (λ w k. holds (numbered_shell w k)) (λ w k. seen (numbered_shell w k))
watched-stays s holds seen held same w event world out items is k before after =
    let keeps : Keeps s w (Accepted world out items) = rw is at (step-keeps s w event) in
    same (numbered_shell world k)
    ∙ (keeps k (sym (held (numbered_shell w k)) ∙ before) (sym (held (numbered_shell world k)) ∙ after) ∙ sym (same (numbered_shell w k)))
