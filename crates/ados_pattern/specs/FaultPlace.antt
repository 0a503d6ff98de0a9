-- Where faults are in a text that is not a pattern.
use Rattle.std.specs.Prelude.{◌≡◌, ℕ, ◌+◌, ◌<◌, List, [], ◌∷◌, ◌++◌, length, ◌⊎◌, false}
use Rattle.ados_text.specs.Text.{Text}
use Rattle.ados_pattern.specs.Form.{Form}
use Rattle.ados_pattern.specs.Grammar.{AreMembers, Begins, IsClass}
use Rattle.ados_pattern.specs.Signs.{hash, quote, open_group, close_group, open_class, close_class, bar, tilde, is_frame}

-- a class's text, with members in any order and number
pub data IsClassText : Text → Type 0 where
  within : (t : Text) (ms : List (ℕ × ℕ)) → (Begins tilde t → ⊥) → AreMembers t ms → IsClassText t
  outside : (t : Text) (ms : List (ℕ × ℕ)) → AreMembers t ms → IsClassText (tilde ∷ t)

-- whole characters, signs and classes, which lead from one number of open groups to another
pub data Leads : ℕ → Text → ℕ → Type 0 where
  here : (depth : ℕ) → Leads depth [] depth
  opened : (depth end : ℕ) (t : Text) → Leads (depth + 1) t end → Leads depth (open_group ∷ t) end
  closed : (depth end : ℕ) (t : Text) → Leads depth t end → Leads (depth + 1) (close_group ∷ t) end
  quoted : (depth end c : ℕ) (t : Text) → Leads depth t end → Leads depth (quote ∷ c ∷ t) end
  class : (depth end : ℕ) (s t : Text) → IsClassText s → Leads depth t end → Leads depth (open_class ∷ s ++ close_class ∷ t) end
  other : (depth end c : ℕ) (t : Text) → is_frame c ≡ false → Leads depth t end → Leads depth (c ∷ t) end

-- the row ends right before the text
abbrev pub EndsRow : Text → Type 0
EndsRow [] = Unit {0}
EndsRow (c ∷ text) = (c ≡ bar) ⊎ (c ≡ close_group)

-- a fault at the beginning of the text, inside `depth` groups
pub data IsFault : ℕ → Text → Type 0 where
  hanging_quote : (depth : ℕ) → IsFault depth (quote ∷ [])
  bare : (depth c : ℕ) (text : Text) → (c ≡ hash) ⊎ (c ≡ tilde) → EndsRow text → IsFault depth (c ∷ text)
  open_too_few : (text : Text) → IsFault 0 (close_group ∷ text)
  open_for_ever : (depth : ℕ) (text : Text) → ((inner tail : Text) → text ≡ inner ++ close_group ∷ tail → Leads 0 inner 0 → ⊥) → IsFault depth (open_group ∷ text)
  no_class : (depth : ℕ) (text : Text) → ((inner tail : Text) (f : Form) → text ≡ inner ++ close_class ∷ tail → IsClass inner f → ⊥) → IsFault depth (open_class ∷ text)

-- there is a fault at the place
pub record FaultAt (text : Text) (place : ℕ) : Type 0 where
  pub front : Text
  pub rest : Text
  pub depth : ℕ
  pub joined : text ≡ front ++ rest
  pub placed : length front ≡ place
  pub led : Leads 0 front depth
  pub fault : IsFault depth rest

-- the place is the least at which there is a fault
pub record IsFirstFault (text : Text) (place : ℕ) : Type 0 where
  pub here : FaultAt text place
  pub none_before : (earlier : ℕ) → earlier < place → FaultAt text earlier → ⊥
