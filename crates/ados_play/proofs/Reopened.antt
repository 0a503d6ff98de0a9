-- If the children of all numbers are in the states that the world has for them, the world and the list agree: no shell has
-- another number.
use Rattle.std.proofs.Common.{◌≡◌, ◌≢◌, ◌≤◌, ◌+◌, ℕ, zero, suc, List, Bool, refl, sym, ap, subst, ◌∙◌, length, nat_lt, arith, inl, inr}
use Rattle.std.specs.Prelude.{if◌then◌else◌}
use Rattle.std.proofs.lemmas.Bool.{cases_Bool, cases_eq}
use Rattle.std.proofs.lemmas.Grind.{common_steps}
use Rattle.std.proofs.lemmas.Option.{slice_get_past}
use Rattle.ados_machine.specs.declared.children.ChildState.TheVariants.{Closed}
use Rattle.ados_machine.specs.Children.{child_of_shell, child_in}
use Rattle.ados_machine.specs.World.{WorldState, option_flatten, running_numbers}
use Rattle.ados_launcher.specs.declared.calls.Call.{Call}
use Rattle.ados_launcher.specs.Lifecycles.{LifecycleState, Between, lifecycle_for_state, lifecycle_of}
use Rattle.ados_launch.specs.Agreement.{Agrees}
use Rattle.ados_launch.proofs.Over.{size-of}

past-numbers : (w : WorldState) (k : ℕ) → length w.shells ≡ 20 → 21 ≤ k → child_in w k ≡ Closed
past-numbers w zero size past = refl
past-numbers w (suc i) size past = ap (λ found. child_of_shell (option_flatten found)) (slice_get_past w.shells i (rw size (grind (arith, common_steps))))

pub reopened : (w : WorldState) (calls : List Call) (n : ℕ) (table : List Bool) → table ≡ running_numbers w → length table ≡ 20 → 21 ≤ n →
    ((k : ℕ) → lifecycle_of k calls ≡ (if nat_lt k n then lifecycle_for_state (child_in w k) else Between)) → Agrees w calls
reopened w calls n table is size all sequences k =
    elim (cases_Bool (nat_lt k n)) [
      | inl low ↦ sequences k ∙ rw low refl
      | inr past ↦ sequences k ∙ rw (past, past-numbers w k (size-of w table is size) (grind (arith, common_steps))) refl
    ]

last-sequence : (n : ℕ) (lifecycle : LifecycleState) → lifecycle ≡ (if nat_lt n (n + 1) then lifecycle else Between)
last-sequence n lifecycle = grind (arith, common_steps)

other-sequence : (n k : ℕ) (lifecycle : LifecycleState) → k ≢ n → (if nat_lt k n then lifecycle else Between) ≡ (if nat_lt k (n + 1) then lifecycle else Between)
other-sequence n k lifecycle apart = grind (arith, common_steps)

-- one more number
pub one-more : (w : WorldState) (before after : List Call) (n : ℕ) →
    ((k : ℕ) → lifecycle_of k before ≡ (if nat_lt k n then lifecycle_for_state (child_in w k) else Between)) →
    lifecycle_of n after ≡ lifecycle_for_state (child_in w n) → ((k : ℕ) → k ≢ n → lifecycle_of k after ≡ lifecycle_of k before) →
    (k : ℕ) → lifecycle_of k after ≡ (if nat_lt k (n + 1) then lifecycle_for_state (child_in w k) else Between)
one-more w before after n sequences own others k =
    elim (cases_eq k n) [
      | inl same ↦ subst (λ m. lifecycle_of m after ≡ (if nat_lt m (n + 1) then lifecycle_for_state (child_in w m) else Between)) (sym same)
          (own ∙ last-sequence n (lifecycle_for_state (child_in w n)))
      | inr apart ↦ others k apart ∙ (sequences k ∙ other-sequence n k (lifecycle_for_state (child_in w k)) apart)
    ]
