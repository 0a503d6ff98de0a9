-- What a turn changes, moved in, is the machine's world after the turn.
use Rattle.std.proofs.Common.{◌≡◌, ◌∙◌, ◌++◌, ℕ, List, [], false, Option, Some, None, Result, Ok, Err, IfErr, OnErr, OnOk, drop, ap, sym, refl, subst}
use Rattle.std.specs.Prelude.{◌==◌, if◌then◌else◌}
use Rattle.std.specs.Option.{option_copied}
use Rattle.std.proofs.Common.{inl, inr}
use Rattle.std.proofs.lemmas.Bool.{cases_Bool}
use Rattle.ados_find.specs.declared.codes.Codes.{Codes}
use Rattle.ados_find.specs.Shared.{SharedState}
use Rattle.ados_machine.specs.declared.events.Event.{Event}
use Rattle.ados_machine.specs.declared.events.Event.TheVariants as event
use Rattle.ados_machine.specs.declared.outs.Out.{Out}
use Rattle.ados_machine.specs.declared.refusals.Refusal.{Refusal}
use Rattle.ados_machine.specs.declared.refusals.Refusal.TheVariants.{NoMemory, NotReady, Over}
use Rattle.ados_machine.specs.Items.{TraceItem, reports_of}
use Rattle.ados_machine.specs.Shells.{ShellState}
use Rattle.ados_machine.specs.FrameEnds.{IsSane}
use Rattle.ados_machine.specs.Runs.{IsResponse, resulting_world}
use Rattle.ados_machine.specs.Turning as turning
use Rattle.ados_machine.specs.World.{WorldState, input_of, is_over, seen_shells, numbered_shell}
use Rattle.ados_machine.specs.Course.{Course, new_course}
use Rattle.ados_machine.specs.Numbers.{free_number}
use Rattle.ados_machine.specs.Requests.{request_of}
use Rattle.ados_machine.specs.Step.{Response, Refused, Accepted, turning_response, begun_items, event_out, of_shell, queue_after_event, start, turn_response, course_without_flag}
use Rattle.ados_machine.proofs.Sane.{sane-after}
use Rattle.ados_shell.specs.declared.drafts.Draft.{Draft}
use Rattle.ados_shell.specs.declared.scenes.Scene.{Scene}
use Rattle.ados_shell.specs.declared.turnings.TurnKind.{TurnKind}
use Rattle.ados_shell.specs.declared.turnings.TurnKind.TheVariants as turn
use Rattle.ados_shell.specs.Drafts.{event_start}
use Rattle.ados_shell.specs.declared.scenes.Input.{Input}
use Rattle.ados_shell.specs.Turnings.{GivesTurning, IsFirst, IsTurning, TurnMayFailToAllocate, scene_turning}
use Rattle.ados_world.specs.Scenes.{Shows}
use Rattle.ados_world.specs.Steps.{step_result, draft_out, ended_world, world_after_turn}
use Rattle.ados_world.proofs.MemoryLemmas.{turn-may}
use Rattle.ados_world.proofs.TakenLemmas.{after_turn, gives, taken-is}

queue-stays : (w : WorldState) (k : ℕ) → queue_after_event k w.queue (input_of w k).queue ≡ w.queue
queue-stays w k = elim (cases_Bool (k == 1)) [ inl e ↦ rw e refl | inr e ↦ rw e refl ]

queue-next : (w : WorldState) (k : ℕ) → queue_after_event k w.queue (drop 1 (input_of w k).queue) ≡ queue_after_event k w.queue (drop 1 w.queue)
queue-next w k = elim (cases_Bool (k == 1)) [ inl e ↦ rw e refl | inr e ↦ rw e refl ]

-- a turn of a shell begins
abbrev pub start_in : SharedState → List (Option ShellState) → ShellState → Course
start_in shared shells shell = new_course shell.parts shell.kept shared (seen_shells shells) shell.flagged

-- the machine's turn of a shell, by what the scene shows
pub turning-is : (w : WorldState) (k : ℕ) (shell : ShellState) (scene : Scene) (input : Input)
    → Shows w k shell scene → input.is_ended ≡ (input_of w k).is_ended
    → scene_turning scene input (input_of w k).queue
    ≡ turning.flagged_turning shell.flagged (input_of w k) shell.frames (course_without_flag (start w shell)) shell.phase
turning-is w k shell scene input s e =
    ap (λ x. turning.flagged_turning scene.shell.now.flagged (record { queue = (input_of w k).queue; is_ended = x }) scene.shell.now.frames (course_without_flag (event_start scene)) scene.shell.now.phase) e
    ∙ ap (λ x. turning.flagged_turning x.flagged (input_of w k) x.frames (course_without_flag (start_in scene.shared.now scene.shells.now x)) x.phase) s.shell_is
    ∙ ap (λ x. turning.flagged_turning shell.flagged (input_of w k) shell.frames (course_without_flag (start_in x scene.shells.now shell)) shell.phase) s.shared_is
    ∙ ap (λ x. turning.flagged_turning shell.flagged (input_of w k) shell.frames (course_without_flag (start_in w.shared x shell)) shell.phase) s.shells_are

-- the turn that was given is the machine's, at the lines that wait
pub given-turn : {found : TurnKind} (w : WorldState) (k : ℕ) (scene : Scene) (input : Input) (turn : TurnKind) (draft : Draft)
    → found ≡ turn → GivesTurning scene input (scene_turning scene input) found draft → IsFirst (option_copied input.line) (input_of w k).queue
    → IsTurning scene (input_of w k).queue turn draft (scene_turning scene input (input_of w k).queue)
given-turn w k scene input turn draft is gives first = subst (λ t. GivesTurning scene input (scene_turning scene input) t draft) is gives (input_of w k).queue first

-- an event is accepted, and leaves this world and gives this
abbrev pub Accepts : Response → WorldState → Out → Type 0
Accepts response world given = (items : List (ℕ × TraceItem)) × response ≡ Accepted world given items

-- a turn that went on without a line of its input
pub goes : (w : WorldState) (k : ℕ) (shell : ShellState) (scene : Scene) (draft : Draft) (turning : turning.Turning)
    → Shows w k shell scene
    → IsTurning scene (input_of w k).queue turn.Goes draft turning
    → Accepts (turning_response w k shell.parts.codes turning) (world_after_turn k draft w) (draft_out (numbered_shell w k) draft)
goes w k shell scene draft (turning.Refuses why) s t = absurd t
goes w k shell scene draft turning.Ends s t = absurd t
goes w k shell scene draft (turning.Turned rest turn_response) s t =
    let items = of_shell k turn_response.log ++ begun_items turn_response.course.begun (free_number w.shells) in
    let given = event_out turn_response.course.printed (request_of turn_response.course.parts.number turn_response.phase) (reports_of k turn_response.log) in (
      items,
      ap (λ q. Accepted (record (after_turn w k turn_response) { queue = q }) given items)
          (ap (queue_after_event k w.queue) t.0 ∙ queue-stays w k)
          ∙ ap (λ x. Accepted x given items) (sym (taken-is w k shell scene draft turn_response s t.1))
          ∙ ap (λ g. Accepted (world_after_turn k draft w) g items) (sym (gives w k shell scene draft turn_response s t.1)),
    )

-- a turn that took the first line of its input
takes : (w : WorldState) (k : ℕ) (shell : ShellState) (scene : Scene) (draft : Draft) (turning : turning.Turning)
    → Shows w k shell scene
    → IsTurning scene (input_of w k).queue turn.Takes draft turning
    → Accepts (turning_response w k shell.parts.codes turning) (record (world_after_turn k draft w) { queue = queue_after_event k w.queue (drop 1 w.queue) }) (draft_out (numbered_shell w k) draft)
takes w k shell scene draft (turning.Refuses why) s t = absurd t
takes w k shell scene draft turning.Ends s t = absurd t
takes w k shell scene draft (turning.Turned rest turn_response) s t =
    let items = of_shell k turn_response.log ++ begun_items turn_response.course.begun (free_number w.shells) in
    let given = event_out turn_response.course.printed (request_of turn_response.course.parts.number turn_response.phase) (reports_of k turn_response.log) in
    let queue = queue_after_event k w.queue (drop 1 w.queue) in (
      items,
      ap (λ q. Accepted (record (after_turn w k turn_response) { queue = q }) given items)
          (ap (λ q. queue_after_event k w.queue (drop 1 q)) (sym t.1) ∙ queue-next w k)
          ∙ ap (λ x. Accepted (record x { queue = queue }) given items) (sym (taken-is w k shell scene draft turn_response s t.2))
          ∙ ap (λ g. Accepted (record (world_after_turn k draft w) { queue = queue }) g items) (sym (gives w k shell scene draft turn_response s t.2)),
    )

-- a turn at which the shell ended
ends : (w : WorldState) (k : ℕ) (shell : ShellState) (scene : Scene) (draft : Draft) (turning : turning.Turning)
    → IsTurning scene (input_of w k).queue turn.Ends draft turning
    → Accepts (turning_response w k shell.parts.codes turning) (ended_world k shell.parts.codes w) (event_out [] None [])
ends w k shell scene draft (turning.Refuses why) t = absurd t
ends w k shell scene draft turning.Ends t = ([], refl)
ends w k shell scene draft (turning.Turned rest turn_response) t = absurd t

-- a turn that went on may need memory
goes-may : (scene : Scene) (queue : List (List ℕ)) (draft : Draft) (turning : turning.Turning) → IsTurning scene queue turn.Goes draft turning → TurnMayFailToAllocate turning
goes-may scene queue draft (turning.Refuses why) t = absurd t
goes-may scene queue draft turning.Ends t = absurd t
goes-may scene queue draft (turning.Turned rest turn_response) t = tt

takes-may : (scene : Scene) (queue : List (List ℕ)) (draft : Draft) (turning : turning.Turning) → IsTurning scene queue turn.Takes draft turning → TurnMayFailToAllocate turning
takes-may scene queue draft (turning.Refuses why) t = absurd t
takes-may scene queue draft turning.Ends t = absurd t
takes-may scene queue draft (turning.Turned rest turn_response) t = tt

pub turn-wants : (w : WorldState) (k : ℕ) (shell : ShellState) (scene : Scene) (input : Input)
    → IsSane w → Shows w k shell scene → input.is_ended ≡ (input_of w k).is_ended
    → TurnMayFailToAllocate (scene_turning scene input (input_of w k).queue)
    → IsResponse (event.Turn k) (Err NoMemory) (turn_response w k (numbered_shell w k))
turn-wants w k shell scene input sane s e m =
    (let P : Response → Type 0 = λ r. IsResponse (event.Turn k) (Err NoMemory) r in
    subst P (sym (ap (turn_response w k) s.here)) (turn-may w k shell sane s.here (subst TurnMayFailToAllocate (turning-is w k shell scene input s e) m)))

pub goes-wants : (w : WorldState) (k : ℕ) (shell : ShellState) (scene : Scene) (input : Input) (draft : Draft)
    → IsSane w → Shows w k shell scene → input.is_ended ≡ (input_of w k).is_ended
    → IsTurning scene (input_of w k).queue turn.Goes draft (scene_turning scene input (input_of w k).queue)
    → IsResponse (event.Turn k) (Err NoMemory) (turn_response w k (numbered_shell w k))
goes-wants w k shell scene input draft sane s e t = turn-wants w k shell scene input sane s e (goes-may scene _ draft _ t)

pub takes-wants : (w : WorldState) (k : ℕ) (shell : ShellState) (scene : Scene) (input : Input) (draft : Draft)
    → IsSane w → Shows w k shell scene → input.is_ended ≡ (input_of w k).is_ended
    → IsTurning scene (input_of w k).queue turn.Takes draft (scene_turning scene input (input_of w k).queue)
    → IsResponse (event.Turn k) (Err NoMemory) (turn_response w k (numbered_shell w k))
takes-wants w k shell scene input draft sane s e t = turn-wants w k shell scene input sane s e (takes-may scene _ draft _ t)

-- no script runs on after a failure in the world that an event leaves
pub sane-later : (w world : WorldState) (k : ℕ) (given : Out) → IsSane w → is_over w ≡ false → Accepts (turn_response w k (numbered_shell w k)) world given → IsSane world
sane-later w world k given sane over (items, e) =
    (let P : Response → Type 0 = λ r. IsSane (resulting_world w (Ok given) r) in
    subst P (ap (λ b. if b then Refused Over else turn_response w k (numbered_shell w k)) over ∙ e) (sane-after w (event.Turn k) (Ok given) sane))

-- the event was accepted, unless an allocation failed: the answer is the step's answer
pub answered : {X : Type 0} (world : WorldState) (e : Event) (given out : Out) (result : Result X Refusal) (response : Response)
    → Accepts response world given → IsResponse e (Err NoMemory) response → OnOk result (out ≡ given) → IfErr result (λ why. why ≡ NoMemory)
    → IsResponse e (step_result out result) response
answered world e given out (Ok accepted) response (items, a) wants g n =
    (let P : Response → Type 0 = λ r. IsResponse e (Ok out) r in subst P (sym a) g)
answered world e given out (Err why) response (items, a) wants g n =
    (let Q : Refusal → Type 0 = λ y. IsResponse e (Err y) response in subst Q (sym n) wants)

-- the answer is the step's answer, and its world is the world after it
pub answers : {X : Type 0} (w world new : WorldState) (given out : Out) (result : Result X Refusal) (response : Response) → Accepts response world given
    → OnOk result (new ≡ world) → OnErr result (new ≡ w) → new ≡ resulting_world w (step_result out result) response
answers w world new given out (Ok accepted) response (items, e) a b = a ∙ sym (ap (resulting_world w (Ok out)) e)
answers w world new given out (Err why) response (items, e) a b = b ∙ sym (ap (resulting_world w (Err why)) e)

to-turned : (w world : WorldState) (k : ℕ) (given : Out) (shell : ShellState) → numbered_shell w k ≡ Some shell
    → Accepts (turning_response w k shell.parts.codes (turning.flagged_turning shell.flagged (input_of w k) shell.frames (course_without_flag (start w shell)) shell.phase)) world given
    → Accepts (turn_response w k (numbered_shell w k)) world given
to-turned w world k given shell here (items, e) = (items, ap (turn_response w k) here ∙ e)

pub turn-goes : (w : WorldState) (k : ℕ) (shell : ShellState) (scene : Scene) (input : Input) (draft : Draft)
    → Shows w k shell scene → input.is_ended ≡ (input_of w k).is_ended
    → IsTurning scene (input_of w k).queue turn.Goes draft (scene_turning scene input (input_of w k).queue)
    → Accepts (turn_response w k (numbered_shell w k)) (world_after_turn k draft w) (draft_out (numbered_shell w k) draft)
turn-goes w k shell scene input draft s e t =
    (let P : turning.Turning → Type 0 = λ x. IsTurning scene (input_of w k).queue turn.Goes draft x in
    to-turned w _ k _ shell s.here (goes w k shell scene draft _ s (subst P (turning-is w k shell scene input s e) t)))

pub turn-takes : (w : WorldState) (k : ℕ) (shell : ShellState) (scene : Scene) (input : Input) (draft : Draft)
    → Shows w k shell scene → input.is_ended ≡ (input_of w k).is_ended
    → IsTurning scene (input_of w k).queue turn.Takes draft (scene_turning scene input (input_of w k).queue)
    → Accepts (turn_response w k (numbered_shell w k)) (record (world_after_turn k draft w) { queue = queue_after_event k w.queue (drop 1 w.queue) }) (draft_out (numbered_shell w k) draft)
turn-takes w k shell scene input draft s e t =
    (let P : turning.Turning → Type 0 = λ x. IsTurning scene (input_of w k).queue turn.Takes draft x in
    to-turned w _ k _ shell s.here (takes w k shell scene draft _ s (subst P (turning-is w k shell scene input s e) t)))

pub turn-ends : (w : WorldState) (k : ℕ) (shell : ShellState) (scene : Scene) (input : Input) (draft : Draft) (codes : Codes)
    → Shows w k shell scene → input.is_ended ≡ (input_of w k).is_ended → codes ≡ shell.parts.codes
    → IsTurning scene (input_of w k).queue turn.Ends draft (scene_turning scene input (input_of w k).queue)
    → Accepts (turn_response w k (numbered_shell w k)) (ended_world k codes w) (event_out [] None [])
turn-ends w k shell scene input draft codes s e c t =
    (let P : turning.Turning → Type 0 = λ x. IsTurning scene (input_of w k).queue turn.Ends draft x in
    let Q : Codes → Type 0 = λ x. Accepts (turn_response w k (numbered_shell w k)) (ended_world k x w) (event_out [] None []) in
    subst Q (sym c) (to-turned w _ k _ shell s.here (ends w k shell scene draft _ (subst P (turning-is w k shell scene input s e) t))))

-- a turn that was refused
refuses : (w : WorldState) (k : ℕ) (shell : ShellState) (scene : Scene) (draft : Draft) (turning : turning.Turning)
    → IsTurning scene (input_of w k).queue turn.NotReady draft turning
    → IsResponse (event.Turn k) (Err NotReady) (turning_response w k shell.parts.codes turning)
refuses w k shell scene draft (turning.Refuses why) t = sym t
refuses w k shell scene draft turning.Ends t = absurd t
refuses w k shell scene draft (turning.Turned rest turn_response) t = absurd t

pub turn-refused : (w : WorldState) (k : ℕ) (shell : ShellState) (scene : Scene) (input : Input) (draft : Draft)
    → Shows w k shell scene → input.is_ended ≡ (input_of w k).is_ended
    → IsTurning scene (input_of w k).queue turn.NotReady draft (scene_turning scene input (input_of w k).queue)
    → IsResponse (event.Turn k) (Err NotReady) (turn_response w k (numbered_shell w k))
turn-refused w k shell scene input draft s e t =
    (let P : Response → Type 0 = λ r. IsResponse (event.Turn k) (Err NotReady) r in
    let Q : turning.Turning → Type 0 = λ x. IsTurning scene (input_of w k).queue turn.NotReady draft x in
    subst P (sym (ap (turn_response w k) s.here)) (refuses w k shell scene draft _ (subst Q (turning-is w k shell scene input s e) t)))

-- the same world with other lines that wait
pub sane-taken : (w : WorldState) (queue : List (List ℕ)) → IsSane (record w { queue = queue }) → IsSane w
sane-taken w queue sane = record { each = sane.each; background = sane.background; numbered = sane.numbered }
