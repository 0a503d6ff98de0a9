-- The world in which a shell was opened: it is sane if the world before was.
use Rattle.std.proofs.Common.{◌≡◌, ◌≢◌, ℕ, List, [], ◌∷◌, Some, None, refl, arith, inl, inr}
use Rattle.std.proofs.lemmas.Bool.{cases_eq}
use Rattle.ados_text.specs.Text.{Text}
use Rattle.ados_find.specs.Settings.{first_settings}
use Rattle.ados_flow.specs.declared.kinds.FrameKind.TheVariants.{RunCommands}
use Rattle.ados_flow.specs.Frames.{first_limit}
use Rattle.ados_machine.specs.Items.{Began}
use Rattle.ados_machine.specs.Numbers.{free_number}
use Rattle.ados_machine.specs.World.{WorldState, numbered_shell}
use Rattle.ados_machine.specs.Trace.{frames_of, own}
use Rattle.ados_machine.specs.FrameEnds.{AllRunOn, RunsFrame, IsNumbered, IsSane}
use Rattle.ados_machine.specs.LoneShell.{world_with_opened, opened_shell}
use Rattle.ados_machine.proofs.Moves.{Moves, begun-moves}
use Rattle.ados_machine.proofs.Sane.{sane-shells}
use Rattle.ados_machine.proofs.Shells.{IsFree, found-set_other, free-number}
use Rattle.ados_machine.proofs.Systems.{opened-stands}

-- the other shells
opened-other : (w : WorldState) (k : ℕ) (commands : List Text) (j : ℕ) → free_number w.shells ≡ Some k → j ≢ k →
    numbered_shell (world_with_opened w k commands) j ≡ numbered_shell w j
opened-other w k commands j free differ =
    let number : IsFree w.shells (Some k) = rw free at (free-number w.shells) in
    found-set_other w.shells k (Some (opened_shell k commands)) j differ (omega (arith, number.1))

opened-runs : (w : WorldState) (k : ℕ) (commands : List Text) → IsSane w → free_number w.shells ≡ Some k → (j : ℕ) → AllRunOn (frames_of j (world_with_opened w k commands))
opened-runs w k commands sane free j =
    elim (cases_eq j k) [
      | inl same ↦ rw (same, opened-stands w k commands free) (tt, tt)
      | inr differ ↦ rw (opened-other w k commands j free differ) (sane.each j)
    ]

opened-background : (w : WorldState) (k : ℕ) (commands : List Text) → IsSane w → free_number w.shells ≡ Some k → (j : ℕ) → j ≢ 1 →
    RunsFrame (numbered_shell (world_with_opened w k commands) j)
opened-background w k commands sane free j ne =
    elim (cases_eq j k) [
      | inl same ↦ rw (same, opened-stands w k commands free) refl
      | inr differ ↦ rw (opened-other w k commands j free differ) (sane.background j ne)
    ]

opened-numbered : (w : WorldState) (k : ℕ) (commands : List Text) → IsSane w → free_number w.shells ≡ Some k → (j : ℕ) →
    IsNumbered j (numbered_shell (world_with_opened w k commands) j)
opened-numbered w k commands sane free j =
    elim (cases_eq j k) [
      | inl same ↦ rw (same, opened-stands w k commands free) refl
      | inr differ ↦ rw (opened-other w k commands j free differ) (sane.numbered j)
    ]

pub opened-sane : (w : WorldState) (k : ℕ) (commands : List Text) → IsSane w → free_number w.shells ≡ Some k → IsSane (world_with_opened w k commands)
opened-sane w k commands sane free = record {
  each = opened-runs w k commands sane free;
  background = opened-background w k commands sane free;
  numbered = opened-numbered w k commands sane free;
}

-- a shell that is opened begins as one does that a command of another shell makes, and the others stay
pub opened-moves : (w : WorldState) (k : ℕ) (commands : List Text) → IsSane w → free_number w.shells ≡ Some k → (j : ℕ) →
    Moves j w.shells (own j ((k, Began 1 RunCommands first_limit) ∷ [])) (world_with_opened w k commands).shells
opened-moves w k commands sane free j =
    begun-moves j w.shells (Some (record { directory = []; settings = first_settings k; commands = commands; output = None })) (Some k)
    (sane-shells w sane) (rw free at (free-number w.shells))
