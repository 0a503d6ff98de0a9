-- What an answer or a break changes is the machine's world after it.
use Rattle.std.proofs.Common.{◌≡◌, ◌∙◌, ℕ, List, [], false, Option, Some, None, Ok, Err, ap, sym, refl, subst}
use Rattle.std.specs.Prelude.{true, is_some, if◌then◌else◌}
use Rattle.std.specs.Borrow.{Bor}
use Rattle.std.specs.Option.{option_copied}
use Rattle.ados_find.specs.declared.codes.Codes.{Codes}
use Rattle.ados_machine.specs.declared.events.Event.TheVariants as event
use Rattle.ados_machine.specs.declared.outs.Out.{Out}
use Rattle.ados_machine.specs.declared.refusals.Refusal.TheVariants.{NoMemory, Over, WrongAnswer}
use Rattle.ados_machine.specs.declared.events.BreakKind.{BreakKind}
use Rattle.ados_machine.specs.Breaks.{kind_breaks, broken_number}
use Rattle.ados_machine.specs.Shells.{ShellState}
use Rattle.ados_machine.specs.FrameEnds.{IsSane}
use Rattle.ados_machine.specs.Runs.{IsResponse, resulting_world}
use Rattle.ados_machine.specs.Turning as turning
use Rattle.ados_machine.specs.World.{WorldState, input_of, is_over, numbered_shell}
use Rattle.ados_machine.specs.declared.answers.Answer.{Answer as Reply}
use Rattle.ados_shell.specs.declared.answers.Answering.{Answering}
use Rattle.ados_shell.specs.declared.answers.Answering.TheVariants as reply
use Rattle.ados_shell.specs.Answerings.{GivesReply, IsAnswering, scene_answering}
use Rattle.ados_machine.specs.Step.{Response, Refused, Accepted, turning_response, event_out, start, turn_response, answer_response as answered_of, break_response}
use Rattle.ados_machine.proofs.Sane.{sane-after}
use Rattle.ados_shell.specs.declared.drafts.Draft.{Draft}
use Rattle.ados_shell.specs.declared.scenes.Scene.{Scene}
use Rattle.ados_shell.specs.declared.turnings.TurnKind.TheVariants as turn
use Rattle.ados_shell.specs.Turnings.{IsTurning, TurnMayFailToAllocate}
use Rattle.ados_world.specs.Scenes.{Shows}
use Rattle.ados_world.specs.Steps.{draft_out, world_after_turn}
use Rattle.ados_world.proofs.StepLemmas.{start_in, Accepts, goes}

-- the machine's answering of a shell, by what the scene shows
answering-is : (w : WorldState) (k : ℕ) (shell : ShellState) (scene : Scene) (answer : Reply) → Shows w k shell scene
    → scene_answering scene (input_of w k) answer ≡ turning.turning_of_answer (input_of w k) shell.frames (start w shell) shell.phase answer
answering-is w k shell scene answer s =
    ap (λ x. turning.turning_of_answer (input_of w k) x.frames (start_in scene.shared.now scene.shells.now x) x.phase answer) s.shell_is
    ∙ ap (λ x. turning.turning_of_answer (input_of w k) shell.frames (start_in x scene.shells.now shell) shell.phase answer) s.shared_is
    ∙ ap (λ x. turning.turning_of_answer (input_of w k) shell.frames (start_in w.shared x shell) shell.phase answer) s.shells_are

-- an answer by which a shell goes on has the same effect on its world as a turn
as-turning : (scene : Scene) (queue : List (List ℕ)) (draft : Draft) (turning : turning.Turning)
    → IsAnswering scene queue reply.Goes draft turning → IsTurning scene queue turn.Goes draft turning
as-turning scene queue draft (turning.Refuses why) t = absurd t
as-turning scene queue draft turning.Ends t = absurd t
as-turning scene queue draft (turning.Turned rest turn_response) t = t

-- an answer by which the shell went on
pub answer-goes : {found : Answering} (w : WorldState) (k : ℕ) (shell : ShellState) (scene : Scene) (answer : Reply) (draft : Draft) → Shows w k shell scene
    → found ≡ reply.Goes → GivesReply scene answer found draft
    → Accepts (answered_of w k answer (numbered_shell w k)) (world_after_turn k draft w) (draft_out (numbered_shell w k) draft)
answer-goes w k shell scene answer draft s is gives =
    (let P : turning.Turning → Type 0 = λ x. IsAnswering scene (input_of w k).queue reply.Goes draft x in
    let t = subst (λ a. GivesReply scene answer a draft) is gives (input_of w k) in
    let accepts = goes w k shell scene draft _ s (as-turning scene _ draft _ (subst P (answering-is w k shell scene answer s) t)) in
    (accepts.0, ap (answered_of w k answer) s.here ∙ accepts.1))

-- an answer that is accepted may still be refused if an allocation fails
pub accepted-wants : (w world : WorldState) (k : ℕ) (answer : Reply) (given : Out) (response : Response) → Accepts response world given
    → IsResponse (event.Answer k answer) (Err NoMemory) response
accepted-wants w world k answer given (Accepted other out items) accepts = tt
accepted-wants w world k answer given (Refused why) (items, e) = cc

-- the machine goes on, but an allocation may fail
took-wants : (k : ℕ) (answer : Reply) (w : WorldState) (codes : Codes) (turning : turning.Turning) → TurnMayFailToAllocate turning
    → IsResponse (event.Answer k answer) (Err NoMemory) (turning_response w k codes turning)
took-wants k answer w codes (turning.Refuses why) m = absurd m
took-wants k answer w codes turning.Ends m = absurd m
took-wants k answer w codes (turning.Turned rest turn_response) m = tt

pub answer-wants : (w : WorldState) (k : ℕ) (shell : ShellState) (scene : Scene) (answer : Reply) → Shows w k shell scene
    → TurnMayFailToAllocate (scene_answering scene (input_of w k) answer)
    → IsResponse (event.Answer k answer) (Err NoMemory) (answered_of w k answer (numbered_shell w k))
answer-wants w k shell scene answer s m =
    (let P : Response → Type 0 = λ r. IsResponse (event.Answer k answer) (Err NoMemory) r in
    subst P (sym (ap (answered_of w k answer) s.here))
    (took-wants k answer w shell.parts.codes _ (subst TurnMayFailToAllocate (answering-is w k shell scene answer s) m)))

-- an answer of another kind is refused
refuses-wrong : (scene : Scene) (queue : List (List ℕ)) (draft : Draft) (k : ℕ) (answer : Reply) (w : WorldState) (codes : Codes) (turning : turning.Turning)
    → IsAnswering scene queue reply.WrongAnswer draft turning → IsResponse (event.Answer k answer) (Err WrongAnswer) (turning_response w k codes turning)
refuses-wrong scene queue draft k answer w codes (turning.Refuses why) t = sym t
refuses-wrong scene queue draft k answer w codes turning.Ends t = absurd t
refuses-wrong scene queue draft k answer w codes (turning.Turned rest turn_response) t = absurd t

pub answer-wrong : {found : Answering} (w : WorldState) (k : ℕ) (shell : ShellState) (scene : Scene) (answer : Reply) (draft : Draft) → Shows w k shell scene
    → found ≡ reply.WrongAnswer → GivesReply scene answer found draft
    → IsResponse (event.Answer k answer) (Err WrongAnswer) (answered_of w k answer (numbered_shell w k))
answer-wrong w k shell scene answer draft s is gives =
    (let P : Response → Type 0 = λ r. IsResponse (event.Answer k answer) (Err WrongAnswer) r in
    let Q : turning.Turning → Type 0 = λ x. IsAnswering scene (input_of w k).queue reply.WrongAnswer draft x in
    let t = subst (λ a. GivesReply scene answer a draft) is gives (input_of w k) in
    subst P (sym (ap (answered_of w k answer) s.here))
    (refuses-wrong scene (input_of w k).queue draft k answer w shell.parts.codes
    (turning.turning_of_answer (input_of w k) shell.frames (start w shell) shell.phase answer) (subst Q (answering-is w k shell scene answer s) t)))

-- no script runs on after a failure in the world that an answer leaves
pub sane-answered : (w world : WorldState) (k : ℕ) (answer : Reply) (given : Out) → IsSane w → is_over w ≡ false
    → Accepts (answered_of w k answer (numbered_shell w k)) world given → IsSane world
sane-answered w world k answer given sane over (items, e) =
    (let P : Response → Type 0 = λ r. IsSane (resulting_world w (Ok given) r) in
    subst P (ap (λ b. if b then Refused Over else answered_of w k answer (numbered_shell w k)) over ∙ e) (sane-after w (event.Answer k answer) (Ok given) sane))

-- a shell that is shown runs
pub copied-some : {X : Type 0} (shown : Option (Bor X)) → is_some shown ≡ true → is_some (option_copied shown) ≡ true
copied-some None e = e
copied-some (Some shell) e = refl

found-broken : (w : WorldState) (k : ℕ) (kind : BreakKind) (found : Option ShellState) → numbered_shell w k ≡ found → is_some found ≡ true → IsSane w → is_over w ≡ false
    → IsSane (record w { shells = broken_number (kind_breaks kind) k w.shells })
found-broken w k kind None e runs sane over = cc
found-broken w k kind (Some shell) e runs sane over =
    (let given : Out = event_out [] None [] in
    let P : Response → Type 0 = λ r. IsSane (resulting_world w (Ok given) r) in
    subst P (ap (λ b. if b then Refused Over else break_response w k kind (numbered_shell w k)) over ∙ ap (λ f. break_response w k kind f) e) (sane-after w (event.Break k kind) (Ok given) sane))

-- no script runs on after a failure in the world that a break leaves
pub sane-broken : (w : WorldState) (k : ℕ) (kind : BreakKind) → IsSane w → is_over w ≡ false → is_some (numbered_shell w k) ≡ true
    → IsSane (record w { shells = broken_number (kind_breaks kind) k w.shells })
sane-broken w k kind sane over runs = found-broken w k kind (numbered_shell w k) refl runs sane over
