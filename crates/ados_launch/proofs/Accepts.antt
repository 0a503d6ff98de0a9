-- What is due is accepted.
use Rattle.std.proofs.Common.{◌≡◌, ◌∙◌, ℕ, zero, suc, ◌≤◌, ◌∷◌, List, [], Option, Some, None, true, false, not, ◌||◌, refl, ap, is_some, length, slice_get, nat_lt, arith}
use Rattle.std.proofs.lemmas.Bool.{and_parts, not-true}
use Rattle.std.proofs.lemmas.Grind.{common_steps}
use Rattle.std.specs.List.{list_any}
use Rattle.ados_machine.specs.World.{WorldState, numbered_shell, is_ready, wants_input, wants_line, is_over, has_input, input_of, option_flatten}
use Rattle.ados_machine.specs.Shells.{ShellState}
use Rattle.ados_machine.specs.Step.{break_response, is_accepted, step_of}
use Rattle.ados_machine.specs.declared.events.Event.TheVariants.{Typed, EndOfInput, Turn, Break}
use Rattle.ados_machine.specs.declared.events.BreakKind.{BreakKind}
use Rattle.ados_machine.proofs.ReadyLemmas.{ready-turned}

any_some : (shells : List (Option ShellState)) (i : ℕ) → is_some (option_flatten (slice_get shells i)) ≡ true → list_any is_some shells ≡ true
any_some [] zero e = e
any_some [] (suc i) e = e
any_some (Some shell ∷ shells) i e = refl
any_some (None ∷ shells) zero e = cc
any_some (None ∷ shells) (suc i) e = any_some shells i e

runs-on : (w : WorldState) (k : ℕ) → is_some (numbered_shell w k) ≡ true → is_over w ≡ false
runs-on w zero e = cc
runs-on w (suc k) e = ap not (any_some w.shells k e)

wanted-runs : (found : Option ShellState) → wants_input found ≡ true → is_some found ≡ true
wanted-runs None e = cc
wanted-runs (Some shell) e = refl

runs-where_wanted : (w : WorldState) → wants_line w ≡ true → is_over w ≡ false
runs-where_wanted w e = runs-on w 1 (wanted-runs (numbered_shell w 1) (and_parts (wants_input (numbered_shell w 1)) (not (has_input (input_of w 1))) e).0)

-- if a line is wanted nothing is there to take
nothing-to-take : (w : WorldState) → wants_line w ≡ true → has_input (input_of w 1) ≡ false
nothing-to-take w e = not-true (has_input (input_of w 1)) (and_parts (wants_input (numbered_shell w 1)) (not (has_input (input_of w 1))) e).1

-- if a line is wanted the input's end is accepted
pub end-accepted : (w : WorldState) → wants_line w ≡ true → is_accepted (step_of w EndOfInput) ≡ true
end-accepted w e =
    let left : is_over w ≡ false = runs-where_wanted w e in
    let none : (nat_lt 0 (length w.queue) || w.input_ended) ≡ false = nothing-to-take w e in
    grind (arith, common_steps)

-- if a line is wanted one of at most 512 bytes is accepted
pub line-accepted : (w : WorldState) (line : List ℕ) → wants_line w ≡ true → length line ≤ 512 → is_accepted (step_of w (Typed line)) ≡ true
line-accepted w line e h =
    let left : is_over w ≡ false = runs-where_wanted w e in
    let none : (nat_lt 0 (length w.queue) || w.input_ended) ≡ false = nothing-to-take w e in
    grind (arith, common_steps)

-- a turn of a shell that is ready is accepted
pub turn-accepted : (w : WorldState) (k : ℕ) → is_ready w k ≡ true → is_accepted (step_of w (Turn k)) ≡ true
turn-accepted w k e = ready-turned w k ∙ e

broken-accepted : (w : WorldState) (k : ℕ) (kind : BreakKind) (found : Option ShellState) → is_some found ≡ true → is_accepted (break_response w k kind found) ≡ true
broken-accepted w k kind None e = cc
broken-accepted w k kind (Some shell) e = refl

-- a break of a shell that runs is accepted
pub break-accepted : (w : WorldState) (k : ℕ) (kind : BreakKind) → is_some (numbered_shell w k) ≡ true → is_accepted (step_of w (Break k kind)) ≡ true
break-accepted w k kind e =
    let left : is_over w ≡ false = runs-on w k e in
    rw left (broken-accepted w k kind (numbered_shell w k) e)
