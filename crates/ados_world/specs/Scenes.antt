-- What a turn of a shell sees of a world.
use Rattle.std.specs.Prelude.{◌≡◌, ℕ, Some}
use Rattle.ados_machine.specs.Shells.{ShellState}
use Rattle.ados_machine.specs.World.{WorldState, numbered_shell}
use Rattle.ados_shell.specs.declared.scenes.Scene.{Scene}

-- this scene shows shell k, as the world has it
pub record Shows (w : WorldState) (k : ℕ) (shell : ShellState) (scene : Scene) : Type 0 where
  pub here : numbered_shell w k ≡ Some shell
  pub number_is : scene.number ≡ k
  pub shell_is : scene.shell.now ≡ shell
  pub shells_are : scene.shells.now ≡ w.shells
  pub shared_is : scene.shared.now ≡ w.shared
