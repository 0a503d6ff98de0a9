-- Agreement: how the requests of a world relate to the list of a launcher's calls.
use Rattle.std.specs.Prelude.{◌≡◌, ◌≢◌, ℕ, List, [], ◌∷◌, ◌++◌, map, Bool, true, false, Option, Some, None, get_or, filter}
use Rattle.std.specs.List.{range_with_len}
use Rattle.ados_machine.specs.declared.answers.Answer.{Answer}
use Rattle.ados_machine.specs.Children.{answers_wait, child_in}
use Rattle.ados_machine.specs.World.{WorldState}
use Rattle.ados_launcher.specs.declared.calls.Call.{Call}
use Rattle.ados_launcher.specs.declared.calls.Call.TheVariants.{Start, Read, Wait}
use Rattle.ados_launcher.specs.Lifecycles.{Between, Broken, lifecycle_of, lifecycle_for_state, is_open}

-- A world and the list of a launcher's calls agree: each number's sequence of lifecycles has no call out of place, and its open child is
-- the one that the world reads or waits for. The end of that child's reads is not listed if the world reads it or has broken it, and is
-- listed if the world waits for it and has not broken it.
abbrev pub Agrees : WorldState → List Call → Type 0
Agrees w calls = (k : ℕ) → lifecycle_of k calls ≡ lifecycle_for_state (child_in w k)

-- in these calls of a launcher no call is out of place
abbrev pub AreWhole : List Call → Type 0
AreWhole calls = (k : ℕ) → lifecycle_of k calls ≢ Broken

-- after these calls of a launcher no child is open, and no call was out of place: the calls for each number are a sequence of whole
-- lifecycles
abbrev pub AreOver : List Call → Type 0
AreOver calls = (k : ℕ) → lifecycle_of k calls ≡ Between

-- the numbers of the children that are open after these calls, in ascending order
abbrev pub open_children : List Call → List ℕ
open_children calls = filter (λ k. is_open (lifecycle_of k calls)) (range_with_len 0 21)

-- the number of the child for which a call waits, if it is a wait
abbrev pub waited_child : Call → Option ℕ
waited_child (Start job answer) = None
waited_child (Read n answer) = None
waited_child (Wait n answer) = Some n

-- each of these calls is a wait, with an answer of its kind
abbrev pub AreWaits : List Call → Type 0
AreWaits [] = Unit {0}
AreWaits (Start job answer ∷ calls) = ⊥
AreWaits (Read n answer ∷ calls) = ⊥
AreWaits (Wait n answer ∷ calls) = (answers_wait answer ≡ true) × AreWaits calls

-- `waits` are one wait for each child that is open after `calls`, in ascending order of number, and nothing else
abbrev pub AreOpenChildWaits : List Call → List Call → Type 0
AreOpenChildWaits calls waits = (map waited_child waits ≡ map Some (open_children calls)) × AreWaits waits

-- from one list of calls to the other each open child was waited for, in ascending order of number, and nothing else was called
pub record WaitsForOpen (before after : List Call) : Type 0 where
  pub waits : List Call
  pub calls_are : after ≡ before ++ waits
  pub are_for_open : AreOpenChildWaits before waits

-- in these calls no call is out of place, and the table says by number which children are open after them
abbrev pub IsOpenTable : List Bool → List Call → Type 0
IsOpenTable table calls = AreWhole calls × ((k : ℕ) → get_or table k false ≡ is_open (lifecycle_of k calls))

-- from one list of calls to the other a wait for child k was called, and nothing else
pub record AddsWait (k : ℕ) (before after : List Call) : Type 0 where
  pub answer : Answer
  pub calls_are : after ≡ before ++ Wait k answer ∷ []
  pub fit : answers_wait answer ≡ true
