-- What a draft holds, moved in one part at a time, is the machine's world after the turn.
use Rattle.std.proofs.Common.{◌≡◌, ◌∙◌, ◌-◌, ℕ, List, [], ◌∷◌, Bool, Option, Some, ap, sym}
use Rattle.std.specs.Prelude.{option_map, slice_set}
use Rattle.ados_find.specs.declared.codes.Codes.{Codes}
use Rattle.ados_find.specs.declared.outcomes.Renamed.{Renamed}
use Rattle.ados_find.specs.Shared.{SharedState, version}
use Rattle.ados_machine.specs.Items.{reports_of}
use Rattle.ados_machine.specs.Shells.{ShellState}
use Rattle.ados_machine.specs.Carrying.{carried_or_same, carried_shell, carried_shells, moved_objects}
use Rattle.ados_machine.specs.Apply.{TurnResult}
use Rattle.ados_machine.specs.World.{WorldState, numbered_shell}
use Rattle.ados_machine.specs.Course.{shared_after_event}
use Rattle.ados_machine.specs.Numbers.{free_number}
use Rattle.ados_machine.specs.Requests.{request_of}
use Rattle.ados_machine.specs.Step.{codes_of_ended, event_out, is_done, moved_at_turn as moved_of, shell_of_turn, with_begun}
use Rattle.ados_machine.proofs.Shells.{shells_after, broken-there, broken_for, broken_one, carried-free, carried-runs, found, found-carried, found-placed_other, found-set_same, free-number}
use Rattle.ados_shell.specs.declared.drafts.Draft.{Draft}
use Rattle.ados_shell.specs.declared.drafts.ShellDraft.{ShellDraft}
use Rattle.ados_shell.specs.declared.scenes.Scene.{Scene}
use Rattle.ados_shell.specs.Drafts.{IsDrafted, drafted_shell, drafted_phase}
use Rattle.ados_world.specs.Scenes.{Shows}
use Rattle.ados_world.specs.Endings.{final_codes, recorded_codes, remaining_shells}
use Rattle.ados_world.specs.NewShells.{joined_shells, new_shell}
use Rattle.ados_world.specs.Shells.{shells_after_draft}
use Rattle.ados_world.specs.Steps.{draft_out, shells_with_begun, shells_after_turn, world_after_turn}
use Rattle.ados_world.proofs.NewShellLemmas.{begun-after, codes-left, codes_of_end, ended-left, joined-is, shells-left}
use Rattle.ados_machine.specs.Breaks.{shells_after_break}
use Rattle.ados_world.specs.Breaks.{shells_with_broken}
use Rattle.ados_world.proofs.BreakLemmas.{others-broken}

-- the shells after what a turn makes of one of them
shells-placed : (shells : List (Option ShellState)) (k : ℕ) (draft : ShellDraft) (shell : ShellState) (t : TurnResult) (moved : List Renamed)
    → found shells k ≡ Some shell → drafted_shell draft shell ≡ shell_of_turn t
    → shells_after_draft k draft moved shells ≡ slice_set (carried_shells moved shells) (k - 1) (Some (carried_or_same moved (shell_of_turn t)))
shells-placed shells k draft shell t [] f b =
    ap (λ o. slice_set shells (k - 1) (option_map (drafted_shell draft) o)) f ∙ ap (λ s. slice_set shells (k - 1) (Some s)) b
shells-placed shells k draft shell t (moved ∷ more) f b =
    ap (λ o. slice_set (carried_shells (moved ∷ more) shells) (k - 1) (option_map (λ s. carried_shell (moved ∷ more) (drafted_shell draft s)) o)) f
    ∙ ap (λ s. slice_set (carried_shells (moved ∷ more) shells) (k - 1) (Some (carried_shell (moved ∷ more) s))) b

-- the shells after the turn, of which another one may then be broken, and its own shell
abbrev standing : WorldState → TurnResult → List (Option ShellState)
standing w t = with_begun t.course.begun (free_number w.shells) (carried_shells (moved_of w t) w.shells)

abbrev others : WorldState → TurnResult → List (Option ShellState)
others w t = shells_after_break t.course.breaking (standing w t)

abbrev own : WorldState → TurnResult → ShellState
own w t = carried_or_same (moved_of w t) (shell_of_turn t)

still-there : (w : WorldState) (k : ℕ) (shell : ShellState) (moved : List Renamed) → numbered_shell w k ≡ Some shell → found (carried_shells moved w.shells) k ≡ Some (carried_or_same moved shell)
still-there w k shell moved here = found-carried moved w.shells k ∙ carried-runs moved (found w.shells k) shell here

-- the shells that a draft holds, before another one is broken and before its own may end
stood-is : (w : WorldState) (k : ℕ) (shell : ShellState) (scene : Scene) (draft : Draft) (t : TurnResult)
    → Shows w k shell scene → IsDrafted scene draft t
    → shells_with_begun k draft w ≡ slice_set (standing w t) (k - 1) (Some (own w t))
stood-is w k shell scene draft t s d =
    let number = free_number w.shells in
    let moved = moved_of w t in
    ap (λ r. joined_shells (new_shell (option_map (λ b. b.value) draft.begun) number) (shells_after_draft k draft.shell (moved_objects w.shared (version w.shared draft.shared) r) w.shells)) d.renamed_is
    ∙ ap (λ x. joined_shells (new_shell (option_map (λ b. b.value) draft.begun) number) (shells_after_draft k draft.shell (moved_objects w.shared x t.course.renamed) w.shells))
    (ap (λ x. version x draft.shared) (sym s.shared_is) ∙ d.shared_is)
    ∙ ap (joined_shells (new_shell (option_map (λ b. b.value) draft.begun) number))
    (shells-placed w.shells k draft.shell shell t moved s.here (ap (drafted_shell draft.shell) (sym s.shell_is) ∙ d.shell_is))
    ∙ ap (λ b. joined_shells (new_shell b number) (slice_set (carried_shells moved w.shells) (k - 1) (Some (own w t)))) d.begun_is
    ∙ joined-is t.course.begun number (slice_set (carried_shells moved w.shells) (k - 1) (Some (own w t)))
    ∙ begun-after t.course.begun number (carried_shells moved w.shells) k (carried_or_same moved shell) (Some (own w t))
    (carried-free moved w.shells number (free-number w.shells)) (still-there w k shell moved s.here)

-- its own shell is among these
own-there : (w : WorldState) (k : ℕ) (shell : ShellState) (t : TurnResult) → numbered_shell w k ≡ Some shell
    → found (standing w t) k ≡ Some (carried_or_same (moved_of w t) shell)
own-there w k shell t here =
    let moved = moved_of w t in
    found-placed_other (carried_shells moved w.shells) t.course.begun (free_number w.shells) k (carried_or_same moved shell)
    (carried-free moved w.shells (free_number w.shells) (free-number w.shells)) (still-there w k shell moved here)

-- the shells after what a draft holds, before its shell may end
with-is : (w : WorldState) (k : ℕ) (shell : ShellState) (scene : Scene) (draft : Draft) (t : TurnResult)
    → Shows w k shell scene → IsDrafted scene draft t
    → shells_after_turn k draft w ≡ slice_set (others w t) (k - 1) (Some (own w t))
with-is w k shell scene draft t s d =
    ap (λ b. shells_with_broken k b (shells_with_begun k draft w)) d.breaking_is
    ∙ ap (shells_with_broken k t.course.breaking) (stood-is w k shell scene draft t s d)
    ∙ others-broken k t.course.breaking (standing w t) (carried_or_same (moved_of w t) shell) (Some (own w t)) (own-there w k shell t s.here)

own-found : (w : WorldState) (k : ℕ) (shell : ShellState) (t : TurnResult) → numbered_shell w k ≡ Some shell
    → found (slice_set (others w t) (k - 1) (Some (own w t))) k ≡ Some (own w t)
own-found w k shell t here =
    let stood = carried_or_same (moved_of w t) shell in
    found-set_same (others w t) k (broken_one (broken_for t.course.breaking k) stood) (Some (own w t))
    (broken-there t.course.breaking (standing w t) k stood (own-there w k shell t here))

-- the end of a background shell
abbrev without : WorldState → ℕ → List (Option ShellState) → SharedState → Option Codes → WorldState
without w k shells shared codes = record w { shells = remaining_shells codes k shells; ended = recorded_codes codes k w.ended; shared = shared }

-- the world after what a draft holds
abbrev pub after_turn : WorldState → ℕ → TurnResult → WorldState
after_turn w k t = record w {
  shells = shells_after w.shells k (moved_of w t) t;
  ended = codes_of_ended (is_done k t.frames) k t.course.parts.codes w.ended;
  shared = shared_after_event t.course;
}

-- what a turn changes, moved in one part at a time
pub taken-by : (w : WorldState) (k : ℕ) (draft : Draft) (stood all rest : List (Option ShellState)) (ended : List Codes) (queue : List (List ℕ)) (input_ended : Bool) (shared : SharedState)
    → stood ≡ shells_with_begun k draft w → all ≡ shells_with_broken k draft.breaking stood
    → rest ≡ remaining_shells (final_codes k (found all k)) k all → ended ≡ recorded_codes (final_codes k (found all k)) k w.ended
    → queue ≡ w.queue → input_ended ≡ w.input_ended → shared ≡ version w.shared draft.shared
    → world_after_turn k draft w ≡ record { shells = rest; ended = ended; queue = queue; input_ended = input_ended; shared = shared }
taken-by w k draft stood all rest ended queue input_ended shared standing a r e q i s =
    let whole : all ≡ shells_after_turn k draft w = a ∙ ap (shells_with_broken k draft.breaking) standing in
    ap (λ l. without w k l (version w.shared draft.shared) (final_codes k (found l k))) (sym whole)
    ∙ ap (λ l. record w { shells = l; ended = recorded_codes (final_codes k (found all k)) k w.ended; shared = version w.shared draft.shared }) (sym r)
    ∙ ap (λ l. record w { shells = rest; ended = l; shared = version w.shared draft.shared }) (sym e)
    ∙ ap (λ l. record { shells = rest; ended = ended; queue = l; input_ended = w.input_ended; shared = version w.shared draft.shared }) (sym q)
    ∙ ap (λ b. record { shells = rest; ended = ended; queue = queue; input_ended = b; shared = version w.shared draft.shared }) (sym i)
    ∙ ap (λ x. record { shells = rest; ended = ended; queue = queue; input_ended = input_ended; shared = x }) (sym s)

pub taken-is : (w : WorldState) (k : ℕ) (shell : ShellState) (scene : Scene) (draft : Draft) (t : TurnResult)
    → Shows w k shell scene → IsDrafted scene draft t → world_after_turn k draft w ≡ after_turn w k t
taken-is w k shell scene draft t s d =
    let done = is_done k t.frames in
    let codes = t.course.parts.codes in
    let shells = slice_set (others w t) (k - 1) (Some (own w t)) in
    ap (λ x. without w k (shells_after_turn k draft w) x (final_codes k (found (shells_after_turn k draft w) k))) (ap (λ x. version x draft.shared) (sym s.shared_is) ∙ d.shared_is)
    ∙ ap (λ l. without w k l (shared_after_event t.course) (final_codes k (found l k))) (with-is w k shell scene draft t s d)
    ∙ ap (λ o. without w k shells (shared_after_event t.course) (final_codes k o)) (own-found w k shell t s.here)
    ∙ ap (without w k shells (shared_after_event t.course)) (codes-left k (moved_of w t) t)
    ∙ ap (λ l. record w { shells = l; ended = recorded_codes (codes_of_end done codes) k w.ended; shared = shared_after_event t.course }) (shells-left done codes k (others w t) (own w t))
    ∙ ap (λ l. record w { shells = shells_after w.shells k (moved_of w t) t; ended = l; shared = shared_after_event t.course }) (ended-left done codes k w.ended)

-- what is given by an event that a draft holds
pub gives : (w : WorldState) (k : ℕ) (shell : ShellState) (scene : Scene) (draft : Draft) (t : TurnResult) → Shows w k shell scene → IsDrafted scene draft t
    → draft_out (numbered_shell w k) draft ≡ event_out t.course.printed (request_of t.course.parts.number t.phase) (reports_of k t.log)
gives w k shell scene draft t s d =
    ap (λ o. draft_out o draft) s.here
    ∙ ap (λ b. event_out b (request_of shell.parts.number (drafted_phase draft.shell)) draft.reports.items) d.printed_is
    ∙ ap (λ (x : ShellState). event_out t.course.printed (request_of x.parts.number x.phase) draft.reports.items) (ap (drafted_shell draft.shell) (sym s.shell_is) ∙ d.shell_is)
    ∙ ap (λ r. event_out t.course.printed (request_of t.course.parts.number t.phase) r) (d.reports_are ∙ ap (λ n. reports_of n t.log) s.number_is)
