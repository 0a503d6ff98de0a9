-- Renames, breaks and shells that begin change neither what a shell asks of a launcher nor its child.
use Rattle.std.proofs.Common.{◌≡◌, ◌≢◌, ◌∙◌, ℕ, List, [], ◌∷◌, Option, Some, None, refl, ap, arith, inl, inr}
use Rattle.std.proofs.lemmas.Bool.{cases_eq, cases_Bool}
use Rattle.ados_find.specs.declared.outcomes.Breaks.{Breaks}
use Rattle.ados_find.specs.declared.outcomes.Renamed.{Renamed}
use Rattle.ados_machine.specs.Breaks.{shells_after_break}
use Rattle.ados_machine.specs.declared.children.ChildState.TheVariants.{Closed}
use Rattle.ados_machine.specs.Phases.{Phase}
use Rattle.ados_machine.specs.Phases as phase
use Rattle.ados_machine.specs.declared.phases.Wait.TheVariants.{ForAnswer, ForLines, ForStart, ForPiece, ForEnd}
use Rattle.ados_machine.specs.declared.requests.Request.{Request}
use Rattle.ados_machine.specs.Carrying.{carried_shells, carried_or_same}
use Rattle.ados_machine.specs.Children.{child_during, child_of_shell}
use Rattle.ados_machine.specs.Course.{Course}
use Rattle.ados_machine.specs.Numbers.{free_number}
use Rattle.ados_machine.specs.Requests.{request_of}
use Rattle.ados_machine.specs.Apply.{TurnResult}
use Rattle.ados_machine.specs.Shells.{ShellStart, begun_shell, ShellState}
use Rattle.ados_machine.specs.Step.{shell_of_turn, with_begun, is_done, shell_after_turn}
use Rattle.ados_machine.specs.World.{request_of_shell}
use Rattle.ados_machine.proofs.Shells.{broken-same, carried-same, shells_after, broken_maybe, broken_for, found-broken, found, IsFree, free-number, carried-free, carried_found, found-carried, found-set_other, runs_pos}
use Rattle.ados_machine.proofs.Marks.{marked-same}
use Rattle.ados_machine.proofs.Moves.{placed-at}
use Rattle.ados_machine.proofs.Rests.{IsIdle}
use Rattle.ados_machine.proofs.AskedTurns.{HandsIn}

pub same_some : {x y : Request} → Some x ≡ Some y → x ≡ y
same_some e = cc

-- if nothing is waited for there is none
pub idle-asked : (now : Phase) → IsIdle now → child_during now ≡ Closed
idle-asked phase.Ready idle = refl
idle-asked (phase.GoingOn parted) idle = refl
idle-asked (phase.Waiting wait) idle = absurd idle

-- nor after a turn, which asks a launcher only for a start
pub handed-asked : (from course : Course) (now : Phase) → HandsIn from course now → child_during now ≡ Closed
handed-asked from course phase.Ready hands = refl
handed-asked from course (phase.GoingOn parted) hands = refl
handed-asked from course (phase.Waiting (ForAnswer asking)) hands = refl
handed-asked from course (phase.Waiting (ForLines gathering)) hands = refl
handed-asked from course (phase.Waiting (ForStart starting)) hands = refl
handed-asked from course (phase.Waiting (ForPiece child)) hands = absurd hands
handed-asked from course (phase.Waiting (ForEnd child)) hands = absurd hands

-- carrying keeps what a shell asks for
pub carried-pending : (renamed : List Renamed) (o : Option ShellState) → request_of_shell (carried_found renamed o) ≡ request_of_shell o
carried-pending = carried-same request_of_shell (λ moved shell. refl)

pub carried_by-pending : (renamed : List Renamed) (shell : ShellState) → request_of_shell (Some (carried_or_same renamed shell)) ≡ request_of_shell (Some shell)
carried_by-pending [] shell = refl
carried_by-pending (renamed ∷ more) shell = refl

carried-child : (renamed : List Renamed) (o : Option ShellState) → child_of_shell (carried_found renamed o) ≡ child_of_shell o
carried-child = carried-same child_of_shell (λ moved shell. refl)

pub carried_by-child : (renamed : List Renamed) (shell : ShellState) → child_of_shell (Some (carried_or_same renamed shell)) ≡ child_of_shell (Some shell)
carried_by-child [] shell = refl
carried_by-child (renamed ∷ more) shell = refl

-- what is asked of a shell that begins is what is asked of none
begun-same : {X : Type 0} (f : Option ShellState → X) → ((n : ℕ) (begun : ShellStart) → f (Some (begun_shell n begun)) ≡ f None) →
    (shells : List (Option ShellState)) (begun : Option ShellStart) (n : Option ℕ) (j : ℕ) → IsFree shells n →
    f (found (with_begun begun n shells) j) ≡ f (found shells j)
begun-same f fresh shells None n j free = refl
begun-same f fresh shells (Some begun) None j free = refl
begun-same f fresh shells (Some begun) (Some n) j free =
    elim (cases_eq j n) [
      | inl same ↦ (let there = placed-at shells n free.0 (Some (begun_shell n begun)) free.1 free.2 in rw (same, there.0, there.1) (fresh n begun))
      | inr differ ↦ ap f (found-set_other shells n (Some (begun_shell n begun)) j differ (omega (arith, free.1)))
    ]

-- a break keeps what a shell asks for
pub broken-pending : (breaks : Option Breaks) (o : Option ShellState) → request_of_shell (broken_maybe breaks o) ≡ request_of_shell o
broken-pending = broken-same request_of_shell (λ breaks shell. marked-same (request_of shell.parts.number) (λ starting. refl) (λ child. refl) breaks.marks shell.phase)

pub broken-child : (breaks : Option Breaks) (o : Option ShellState) → child_of_shell (broken_maybe breaks o) ≡ child_of_shell o
broken-child = broken-same child_of_shell (λ breaks shell. marked-same child_during (λ starting. refl) (λ child. refl) breaks.marks shell.phase)

-- what a turn, or an answer, keeps of the other shells
others-same : {X : Type 0} (f : Option ShellState → X) → ((n : ℕ) (begun : ShellStart) → f (Some (begun_shell n begun)) ≡ f None) →
    ((moved : List Renamed) (o : Option ShellState) → f (carried_found moved o) ≡ f o) →
    ((breaks : Option Breaks) (o : Option ShellState) → f (broken_maybe breaks o) ≡ f o) →
    (shells : List (Option ShellState)) (k : ℕ) (shell : ShellState) (moved : List Renamed) (t : TurnResult) → found shells k ≡ Some shell →
    (j : ℕ) → j ≢ k → f (found (shells_after shells k moved t) j) ≡ f (found shells j)
others-same f fresh carries breaks shells k shell moved t is j differ =
    let carried = carried_shells moved shells in
    let number = free_number shells in
    let placed = with_begun t.course.begun number carried in
    let stay = found-set_other (shells_after_break t.course.breaking placed) k (shell_after_turn k moved t) j differ (runs_pos shells k shell is) in
    let whole = ap f (found-broken t.course.breaking placed j) ∙ breaks (broken_for t.course.breaking j) (found placed j) in
    let begun = begun-same f fresh carried t.course.begun number j (carried-free moved shells number (free-number shells)) in
    ap f stay ∙ (whole ∙ (begun ∙ (ap f (found-carried moved shells j) ∙ carries moved (found shells j))))

pub others-pending : (shells : List (Option ShellState)) (k : ℕ) (shell : ShellState) (moved : List Renamed) (t : TurnResult) → found shells k ≡ Some shell →
    (j : ℕ) → j ≢ k → request_of_shell (found (shells_after shells k moved t) j) ≡ request_of_shell (found shells j)
others-pending = others-same request_of_shell (λ n begun. refl) carried-pending broken-pending

pub others-child : (shells : List (Option ShellState)) (k : ℕ) (shell : ShellState) (moved : List Renamed) (t : TurnResult) → found shells k ≡ Some shell →
    (j : ℕ) → j ≢ k → child_of_shell (found (shells_after shells k moved t) j) ≡ child_of_shell (found shells j)
others-child = others-same child_of_shell (λ n begun. refl) carried-child broken-child

-- the child of the shell that a turn leaves, if it leaves one
pub left-child : (k : ℕ) (moved : List Renamed) (t : TurnResult) → child_during t.phase ≡ Closed →
    child_of_shell (shell_after_turn k moved t) ≡ Closed
left-child k moved t closed =
    elim (cases_Bool (is_done k t.frames)) [
      | inl d ↦ rw d refl
      | inr d ↦ rw (d, carried_by-child moved (shell_of_turn t)) closed
    ]
