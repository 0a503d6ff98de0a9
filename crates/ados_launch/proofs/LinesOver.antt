-- After a line that ran alone the open children are those that the world and an answer that was not taken tell.
use Rattle.std.proofs.Common.{◌≡◌, ◌∙◌, ℕ, List, Bool, true, false, Option, Some, None, Result, Ok, Err, refl, sym, ap, inl, inr, get_or, length, nat_lt}
use Rattle.std.specs.Prelude.{if◌then◌else◌}
use Rattle.std.proofs.lemmas.Bool.{cases_Bool, cases_eq, eq-eqb, ne_eqb}
use Rattle.std.proofs.lemmas.Option.{gets}
use Rattle.std.proofs.lemmas.Grind.{common_steps}
use Rattle.std.proofs.Common.{arith}
use Rattle.ados_machine.specs.declared.answers.Answer.{Answer as Reply}
use Rattle.ados_machine.specs.declared.events.Event.TheVariants.{Answer}
use Rattle.ados_machine.specs.declared.requests.Request.{Request}
use Rattle.ados_machine.specs.declared.requests.Request.TheVariants.{Start, Read, Wait}
use Rattle.ados_machine.specs.Children.{child_after_answer, child_in, fits, is_marked}
use Rattle.ados_machine.specs.FrameEnds.{IsSane}
use Rattle.ados_machine.specs.Step.{Response, Accepted, Refused, is_accepted, step_of}
use Rattle.ados_machine.specs.World.{WorldState, pending_of}
use Rattle.ados_machine.proofs.ChildLemmas.{fitting-accepted, requests-are}
use Rattle.ados_machine.proofs.MovedChildren.{answers-move}
use Rattle.ados_launcher.specs.declared.calls.Call.{Call}
use Rattle.ados_launcher.specs.Lifecycles.{lifecycle_for_state, is_open}
use Rattle.ados_launch.specs.declared.alone.SystemEnd.{SystemEnd}
use Rattle.ados_launch.specs.declared.alone.SystemFault.{SystemFault}
use Rattle.ados_launch.specs.Agreement.{Agrees, IsOpenTable}
use Rattle.ados_launch.specs.Alone.{AgreesAfterFault, AgreesAfterLine, AgreesOnceTaken, FitsPending, keeps_open, is_open_after_fault, is_open_after_line}
use Rattle.ados_launch.proofs.Agreeing.{agrees-whole, further-open, table-begins}
use Rattle.ados_launch.proofs.NextCall.{unmarked}

-- an answer of its kind tells whether the child is open after it
open-by : (request : Request) (reply : Reply) → fits request reply ≡ true → keeps_open reply ≡ is_open (lifecycle_for_state (child_after_answer false request reply))
open-by (Start job) reply fit = grind (arith, common_steps)
open-by (Read n) reply fit = grind (arith, common_steps)
open-by (Wait n) reply fit = grind (arith, common_steps)

-- what is asked for, of an answer that is one to it
record Asked (w : WorldState) (k : ℕ) (reply : Reply) : Type 0 where
  request : Request
  pending_is : pending_of w k ≡ Some request
  fit : fits request reply ≡ true

asked-by : (w : WorldState) (k : ℕ) (reply : Reply) (pending : Option Request) → pending_of w k ≡ pending → FitsPending pending reply → Asked w k reply
asked-by w k reply None is fit = absurd fit
asked-by w k reply (Some request) is fit = record { request = request; pending_is = is; fit = fit }

-- the table once an answer that fits is given
table-given : (w : WorldState) (k : ℕ) (reply : Reply) (calls : List Call) (table : List Bool) (response : Response) → IsSane w → Asked w k reply → step_of w (Answer k reply) ≡ response →
    is_accepted response ≡ true → AgreesOnceTaken w k (Some reply) calls → ((j : ℕ) → get_or table j false ≡ is_open_after_fault w (Some k) (Some reply) j) → IsOpenTable table calls
table-given w k reply calls table (Refused why) sane a is accepted once filled = cc
table-given w k reply calls table (Accepted world given items) sane a is accepted once filled =
    let once_given : given ≡ given → Agrees world calls = rw is at (once given) in
    let agrees = once_given refl in
    let moves = answers-move w k a.request reply world given items sane a.pending_is is in (
      agrees-whole world calls agrees,
      λ j. filled j ∙
          elim (cases_eq k j) [
            | inl same ↦ rw (eq-eqb k j same)
                (open-by a.request reply a.fit ∙ (ap is_open (sym (unmarked (is_marked w k) a.request reply)) ∙ (ap (λ state. is_open (lifecycle_for_state state)) (sym moves.own)
                ∙ (ap (λ n. is_open (lifecycle_for_state (child_in world n))) same ∙ ap is_open (sym (agrees j))))))
            | inr differ ↦ rw (ne_eqb k j differ)
                (further-open (pending_of w j) (child_in w j) (requests-are w j) ∙ (ap (λ state. is_open (lifecycle_for_state state)) (sym (moves.children j (λ e. differ (sym e))))
                ∙ ap is_open (sym (agrees j))))
          ],
    )

table-fault : (w : WorldState) (shell : Option ℕ) (answer : Option Reply) (calls : List Call) (table : List Bool) → IsSane w → AgreesAfterFault w shell answer calls →
    ((j : ℕ) → get_or table j false ≡ is_open_after_fault w shell answer j) → IsOpenTable table calls
table-fault w (Some k) (Some reply) calls table sane agrees filled =
    let a = asked-by w k reply (pending_of w k) refl agrees.0 in
    table-given w k reply calls table (step_of w (Answer k reply)) sane a refl (fitting-accepted w k a.request reply a.pending_is a.fit) agrees.1 filled
table-fault w (Some k) None calls table sane agrees filled = table-begins w calls table agrees filled
table-fault w None answer calls table sane agrees filled = table-begins w calls table agrees filled

table-line : (w : WorldState) (ran : Result SystemEnd SystemFault) (table : List Bool) (calls : List Call) → IsSane w → AgreesAfterLine w ran calls →
    ((j : ℕ) → get_or table j false ≡ is_open_after_line w ran j) → IsOpenTable table calls
table-line w (Ok end) table calls sane agrees filled = table-begins w calls table agrees filled
table-line w (Err fault) table calls sane agrees filled = table-fault w fault.shell fault.answer calls table sane agrees filled

-- above the numbers of shells there is none
none-fault : (w : WorldState) (shell : Option ℕ) (answer : Option Reply) (calls : List Call) (j : ℕ) → AgreesAfterFault w shell answer calls → pending_of w j ≡ None → is_open_after_fault w shell answer j ≡ false
none-fault w (Some k) (Some reply) calls j agrees none =
    elim (cases_eq k j) [
      | inl same ↦ absurd (never (pending_of w k) (ap (pending_of w) same ∙ none) agrees.0)
      | inr differ ↦ rw (ne_eqb k j differ, none) refl
    ]
  where
    never : (pending : Option Request) → pending ≡ None → FitsPending pending reply → ⊥
    never None is fit = fit
    never (Some request) is fit = cc
none-fault w (Some k) None calls j agrees none = rw none refl
none-fault w None answer calls j agrees none = rw none refl

none-line : (w : WorldState) (ran : Result SystemEnd SystemFault) (calls : List Call) (j : ℕ) → AgreesAfterLine w ran calls → pending_of w j ≡ None → is_open_after_line w ran j ≡ false
none-line w (Ok end) calls j agrees none = rw none refl
none-line w (Err fault) calls j agrees none = none-fault w fault.shell fault.answer calls j agrees none

none-above : (w : WorldState) (j : ℕ) → length w.shells ≡ 20 → nat_lt j 21 ≡ false → pending_of w j ≡ None
none-above w j size high = grind (arith, common_steps, gets)

pub table-after : (w : WorldState) (ran : Result SystemEnd SystemFault) (table : List Bool) → IsSane w → length w.shells ≡ 20 →
    ((j : ℕ) → get_or table j false ≡ (if nat_lt j 21 then is_open_after_line w ran j else false)) → (calls : List Call) → AgreesAfterLine w ran calls → IsOpenTable table calls
table-after w ran table sane size filled calls agrees =
    table-line w ran table calls sane agrees (λ j. filled j ∙
    elim (cases_Bool (nat_lt j 21)) [
      | inl low ↦ rw low refl
      | inr high ↦ rw (high, none-line w ran calls j agrees (none-above w j size high)) refl
    ])
