-- A failed start leaves nothing, at each place of a run.
use Rattle.std.proofs.Common.{◌≡◌, ℕ, List, [], ◌∷◌, ◌++◌, Option, Some, None, Result, Ok, Err, refl}
use Rattle.std.specs.Prelude.{IfSome}
use Rattle.ados_machine.specs.declared.answers.Answer.{Answer as Reply}
use Rattle.ados_machine.specs.declared.events.Event.{Event}
use Rattle.ados_machine.specs.declared.events.Event.TheVariants.{Typed, EndOfInput, Turn, Answer, Break}
use Rattle.ados_machine.specs.declared.outs.Out.{Out}
use Rattle.ados_machine.specs.declared.refusals.Refusal.{Refusal}
use Rattle.ados_machine.specs.Shells.{ShellState}
use Rattle.ados_machine.specs.World.{WorldState, numbered_shell}
use Rattle.ados_machine.specs.Step.{Response, Refused, Accepted, step_of}
use Rattle.ados_machine.specs.Runs.{IsResponse, resulting_world, Runs}
use Rattle.ados_machine.specs.Starts.{IsFailure, StartLeavesNothing, LeavesNothing, NextLeavesNothing, AfterTurn, FailedStartsLeaveNothing}
use Rattle.ados_machine.proofs.RunLemmas.{Runs-more}
use Rattle.ados_machine.proofs.InVain.{AllRefused, leaves-nothing}

-- refused events keep the world
refused-keeps : (w : WorldState) (why : Refusal) (r : Response) → resulting_world w (Err why) r ≡ w
refused-keeps w why (Refused other) = refl
refused-keeps w why (Accepted world given items) = refl

refused-more : (outs : List (Result Out Refusal)) (why : Refusal) → AllRefused outs → AllRefused (outs ++ Err why ∷ [])
refused-more [] why refused = tt
refused-more (Ok out ∷ outs) why refused = absurd refused
refused-more (Err other ∷ outs) why refused = refused-more outs why refused

-- the failure, after a turn and events that were refused
leaves-if : (w : WorldState) (k : ℕ) (o : Option ShellState) → numbered_shell w k ≡ o → (between : List Event) (reply : Reply) (first final : Out)
    (middle : List (Result Out Refusal)) (last : WorldState) →
    Runs w (Turn k ∷ (between ++ Answer k reply ∷ [])) (Ok first ∷ (middle ++ Ok final ∷ [])) last → AllRefused middle → IsFailure reply →
    IfSome o (λ shell. StartLeavesNothing k shell w last)
leaves-if w k None is between reply first final middle last run refused failure = tt
leaves-if w k (Some shell) is between reply first final middle last run refused failure =
    leaves-nothing w k shell between reply first final middle last run refused failure is

event-leaves : (w now : WorldState) (k : ℕ) (first : Out) (between : List Event) (middle : List (Result Out Refusal)) (event : Event) (out : Out) →
    Runs w (Turn k ∷ between) (Ok first ∷ middle) now → AllRefused middle → IsResponse event (Ok out) (step_of now event) →
    LeavesNothing k w event (resulting_world now (Ok out) (step_of now event))
event-leaves w now k first between middle (Typed line) out run refused answer = tt
event-leaves w now k first between middle EndOfInput out run refused answer = tt
event-leaves w now k first between middle (Turn j) out run refused answer = tt
event-leaves w now k first between middle (Break j kind) out run refused answer = tt
event-leaves w now k first between middle (Answer j reply) out run refused answer = λ same failure.
    (let whole = Runs-more w (Turn k ∷ between) (Ok first ∷ middle) now (Answer j reply) (Ok out) run answer in
    rw same
    (leaves-if w k (numbered_shell w k) refl between reply first out middle (resulting_world now (Ok out) (step_of now (Answer k reply)))
    (rw same at whole) refused failure))

next-leaves : (w now : WorldState) (k : ℕ) (first : Out) (between : List Event) (middle : List (Result Out Refusal)) (events : List Event)
    (outs : List (Result Out Refusal)) (last : WorldState) →
    Runs w (Turn k ∷ between) (Ok first ∷ middle) now → AllRefused middle → Runs now events outs last → NextLeavesNothing k w now events outs
next-leaves w now k first between middle [] outs last before refused run = tt
next-leaves w now k first between middle (event ∷ events) [] last before refused run = tt
next-leaves w now k first between middle (event ∷ events) (Ok out ∷ outs) last before refused run =
    event-leaves w now k first between middle event out before refused run.0
next-leaves w now k first between middle (event ∷ events) (Err why ∷ outs) last before refused run =
    let stays : resulting_world now (Err why) (step_of now event) ≡ now = refused-keeps now why (step_of now event) in
    let longer = Runs-more w (Turn k ∷ between) (Ok first ∷ middle) now event (Err why) before run.0 in
    next-leaves w now k first (between ++ event ∷ []) (middle ++ Err why ∷ []) events outs last
    (rw stays at longer) (refused-more middle why refused) (rw stays at run.1)

after-turn : (w : WorldState) (event : Event) (out : Result Out Refusal) (events : List Event) (outs : List (Result Out Refusal)) (last : WorldState) →
    IsResponse event out (step_of w event) → Runs (resulting_world w out (step_of w event)) events outs last →
    AfterTurn w event out (resulting_world w out (step_of w event)) events outs
after-turn w (Typed line) out events outs last answer run = tt
after-turn w EndOfInput out events outs last answer run = tt
after-turn w (Answer k reply) out events outs last answer run = tt
after-turn w (Break k kind) out events outs last answer run = tt
after-turn w (Turn k) (Err why) events outs last answer run = tt
after-turn w (Turn k) (Ok first) events outs last answer run =
    next-leaves w (resulting_world w (Ok first) (step_of w (Turn k))) k first [] [] events outs last (answer, refl) tt run

pub starts-leave-nothing : FailedStartsLeaveNothing
starts-leave-nothing w [] outs last run = tt
starts-leave-nothing w (event ∷ events) [] last run = tt
starts-leave-nothing w (event ∷ events) (out ∷ outs) last run =
    (after-turn w event out events outs last run.0 run.1, starts-leave-nothing (resulting_world w out (step_of w event)) events outs last run.1)
