-- What the words of a table say after its shells changed, and which shells can be ready.
use Rattle.std.proofs.Common.{◌≡◌, ◌≢◌, ℕ, zero, suc, ◌≤◌, List, [], ◌∷◌, Option, Some, None, Bool, true, false, ◌&&◌, ◌||◌, arith, refl, sym, ◌∙◌, ap, subst, inl, inr}
use Rattle.std.specs.Prelude.{slice_get, slice_set}
use Rattle.std.proofs.lemmas.Bool.{cases_eq}
use Rattle.ados_ram.specs.Place.{Place}
use Rattle.ados_flow.specs.Frames.{FrameState}
use Rattle.ados_machine.specs.Phases.{Phase, Ready, GoingOn, Waiting}
use Rattle.ados_machine.specs.Shells.{ShellState}
use Rattle.ados_machine.specs.Turning.{Input}
use Rattle.ados_machine.specs.World.{at_number, can_take, can_turn, option_flatten, has_frame, has_input, is_for_input}
use Rattle.ados_machine.proofs.Shells.{slice_get-set_other}
use Rattle.ados_world.specs.declared.due.DueShells.{DueShells}
use Rattle.ados_world.specs.Due.{asks_now, is_set, takes_turns, Tells}
use Rattle.ados_world.specs.Shells.{placed_shell, placed_shells}

or-true : (b : Bool) → (b || true) ≡ true
or-true true = refl
or-true false = refl

first-true : (a b : Bool) → (a && b) ≡ true → (a && true) ≡ true
first-true true b e = refl
first-true false b e = e

takes-by : (input : Input) (frames : List FrameState) (phase : Phase) → can_take input frames phase ≡ true
    → can_take (record { queue = []; is_ended = true }) frames phase ≡ true
takes-by input frames Ready e = or-true (has_frame frames)
takes-by input frames (GoingOn parted) e = refl
takes-by input frames (Waiting wait) e = first-true (is_for_input wait) (has_input input) e

-- a shell that can take a turn can take one once it has input
pub turns-if-ready : (input : Input) (shell : Option ShellState) → can_turn input shell ≡ true → takes_turns shell ≡ true
turns-if-ready input None e = e
turns-if-ready input (Some shell) e = takes-by input shell.frames shell.phase e

-- a new directory changes no shell's bits
placed-turns : (directory : Option Place) (shell : Option ShellState) → takes_turns (placed_shell directory shell) ≡ takes_turns shell
placed-turns None shell = refl
placed-turns (Some directory) None = refl
placed-turns (Some directory) (Some shell) = refl

placed-asks : (directory : Option Place) (shell : Option ShellState) → asks_now (placed_shell directory shell) ≡ asks_now shell
placed-asks None shell = refl
placed-asks (Some directory) None = refl
placed-asks (Some directory) (Some shell) = refl

placed-at : (f : Option ShellState → Bool) → ((directory : Option Place) (shell : Option ShellState) → f (placed_shell directory shell) ≡ f shell)
    → (directories : List (Option Place)) (shells : List (Option ShellState)) (i : ℕ)
    → f (option_flatten (slice_get (placed_shells directories shells) i)) ≡ f (option_flatten (slice_get shells i))
placed-at f same [] shells i = refl
placed-at f same (directory ∷ directories) [] i = refl
placed-at f same (directory ∷ directories) (shell ∷ shells) zero = same directory shell
placed-at f same (directory ∷ directories) (shell ∷ shells) (suc i) = placed-at f same directories shells i

placed-number : (f : Option ShellState → Bool) → ((directory : Option Place) (shell : Option ShellState) → f (placed_shell directory shell) ≡ f shell)
    → (directories : List (Option Place)) (shells : List (Option ShellState)) (k : ℕ)
    → f (option_flatten (at_number (placed_shells directories shells) k)) ≡ f (option_flatten (at_number shells k))
placed-number f same directories shells zero = refl
placed-number f same directories shells (suc i) = placed-at f same directories shells i

pub told-placed : (due : DueShells) (directories : List (Option Place)) (shells : List (Option ShellState)) → Tells due shells
    → Tells due (placed_shells directories shells)
told-placed due directories shells tells = record {
  turning = λ k low. tells.turning k low ∙ sym (placed-number takes_turns placed-turns directories shells k);
  pending = λ k low. tells.pending k low ∙ sym (placed-number asks_now placed-asks directories shells k);
}

-- a shell changes, and its bits are renewed
there : (shells : List (Option ShellState)) (n i : ℕ) (shell : Option ShellState) → n ≢ suc i
    → option_flatten (at_number (slice_set shells i shell) n) ≡ option_flatten (at_number shells n)
there shells zero i shell apart = refl
there shells (suc n) i shell apart = ap option_flatten (slice_get-set_other shells i shell n (λ same. apart (ap suc same)))

told-bit : (f : Option ShellState → Bool) (old new : ℕ) (shells changed : List (Option ShellState)) (n i k : ℕ) (shell : Option ShellState)
    → n ≡ suc i → changed ≡ slice_set shells i shell → is_set old k ≡ f (option_flatten (at_number shells k))
    → is_set new n ≡ f (option_flatten (at_number changed n)) → (k ≢ n → is_set new k ≡ is_set old k)
    → is_set new k ≡ f (option_flatten (at_number changed k))
told-bit f old new shells changed n i k shell next change tells renewed others =
    elim (cases_eq k n) [
      | inl same ↦ subst (λ j. is_set new j ≡ f (option_flatten (at_number changed j))) (sym same) renewed
      | inr other ↦ others other ∙ tells ∙ ap f (sym (ap (λ l. option_flatten (at_number l k)) change ∙ there shells k i shell (λ same. other (omega (arith, same, next)))))
    ]

pub told-again : (due new : DueShells) (shells changed : List (Option ShellState)) (n i : ℕ) (shell : Option ShellState)
    → n ≡ suc i → changed ≡ slice_set shells i shell → Tells due shells
    → is_set new.turning n ≡ takes_turns (option_flatten (at_number changed n)) → is_set new.pending n ≡ asks_now (option_flatten (at_number changed n))
    → ((k : ℕ) → k ≤ 20 → k ≢ n → is_set new.turning k ≡ is_set due.turning k)
    → ((k : ℕ) → k ≤ 20 → k ≢ n → is_set new.pending k ≡ is_set due.pending k)
    → Tells new changed
told-again due new shells changed n i shell next change tells turning pending other_turning other_pending = record {
  turning = λ k low. told-bit takes_turns due.turning new.turning shells changed n i k shell next change (tells.turning k low) turning (other_turning k low);
  pending = λ k low. told-bit asks_now due.pending new.pending shells changed n i k shell next change (tells.pending k low) pending (other_pending k low);
}
