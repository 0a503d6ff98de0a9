-- What a command does to its shell.
use Rattle.std.specs.Prelude.{ℕ}
use Rattle.ados_text.specs.Text.{Text}
use Rattle.ados_find.specs.declared.codes.Codes.{Codes}
use Rattle.ados_find.specs.Effects.{Effect, codes_effect, effect_of}
use Rattle.ados_find.specs.Shared.{SharedState}
pub use Rattle.ados_flow.specs.declared.called.Called.{Called}
use Rattle.ados_flow.specs.declared.actions.Action as code
use Rattle.ados_flow.specs.declared.actions.Action.TheVariants as made

-- what a command does to its shell: it returns; it ends its script with these codes, or returns them if it is in none; it returns, and its
-- script continues at this line; it calls a script; or it asks for yes or no
pub data Action : Type 0 where
  Does : Effect → Action
  Quits : Codes → Action
  Jumps : (line : ℕ) (codes : Codes) → Action
  Calls : Called → Action
  Asks : (prompt : Text) → Action

-- the action of a command that returns with codes, and changes nothing
abbrev pub codes_action : SharedState → Codes → Action
codes_action shared codes = Does (codes_effect shared codes)

-- the action of the definitions for one of the code: its outcome is applied to the shared state before it
abbrev pub action_effect : SharedState → code.Action → Action
action_effect shared (made.Does outcome) = Does (effect_of shared outcome)
action_effect shared (made.Quits codes) = Quits codes
action_effect shared (made.Jumps line codes) = Jumps line codes
action_effect shared (made.Calls script) = Calls script
action_effect shared (made.Asks prompt) = Asks prompt
