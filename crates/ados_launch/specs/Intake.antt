-- What taking one event gives.
use Rattle.std.specs.Prelude.{◌≡◌, ◌++◌, ℕ, List, Bool, true, false, Option, Some}
use Rattle.ados_machine.specs.declared.outs.Out.{Out}
use Rattle.ados_machine.specs.World.{WorldState}
use Rattle.ados_launcher.specs.declared.calls.Call.{Call}
use Rattle.ados_launch.specs.Asked.{AreNoStarts, IsAsked}
use Rattle.ados_launch.specs.Lines.{IfKnown, IsUnreadable, has_short_line}
use Rattle.ados_launch.specs.NoFurther.{TakesPartAt}
use Rattle.ados_launch.specs.Schedule.{AtBreak, AtFurther, AtLine, AtStart, AtTurn, Next, next_of}
use Rattle.ados_launch.specs.Session.{AreDropped}
use Rattle.ados_launch.specs.Taken.{TakenItem, output_of, rest_after_item, world_after_item, IsAccepted, IsNext, IsOfReader}

-- An item was taken in the world w: the world after it, what is left to read, and what it gave.
pub record Takes (w : WorldState) (left : Option (List ℕ)) (item : TakenItem) (now : WorldState) (rest : Option (List ℕ)) (out : Out) : Type 0 where
  pub accepted : IsAccepted w item
  pub world_is : now ≡ world_after_item w item
  pub lines : IfKnown left (λ known. IsNext known item × (rest ≡ Some (rest_after_item known item)))
  pub out_is : out ≡ output_of item

-- what is next comes without a wait: a break, a turn, or a line that was read ahead whole, in `held`
abbrev pub comes_at_once : List ℕ → Next → Bool
comes_at_once held (AtBreak shell kind) = true
comes_at_once held AtLine = has_short_line held
comes_at_once held (AtTurn shell) = true
comes_at_once held (AtStart shell) = false
comes_at_once held (AtFurther shell) = false

-- A line was taken in the world w, or the end of the input: the world after it, what is left to read, and what it gave.
abbrev pub TakesLineOrEnd : WorldState → Option (List ℕ) → WorldState → Option (List ℕ) → Out → Type 0
TakesLineOrEnd w left now rest out = (item : TakenItem) × IsOfReader item × Takes w left item now rest out

-- What came next was taken in the world w: the world after it, what is left to read, what it gave, and what the launcher, which is full or
-- not in the end, was called for.
pub record TakesNextItem (w : WorldState) (left : Option (List ℕ)) (is_full : Bool) (calls : List Call) (next : Next) (now : WorldState) (rest : Option (List ℕ)) (calls_now : List Call) (out : Out) : Type 0 where
  pub item : TakenItem
  pub listed : List Call
  pub next_is : next_of item ≡ next
  pub takes : Takes w left item now rest out
  pub calls_are : calls_now ≡ calls ++ listed
  pub asked : IsAsked is_full w item listed
  pub when_full : is_full ≡ true → AreNoStarts listed

-- What comes next is a line, and was not taken, since it could not be read: the launcher was not called.
pub record FailsToRead (next : Next) (was_faults faults : ℕ) (left rest : Option (List ℕ)) (calls calls_now : List Call) : Type 0 where
  pub next_is : next ≡ AtLine
  pub cause : IsUnreadable was_faults faults left rest
  pub calls_are : calls_now ≡ calls

-- What comes next was not taken, since there was no memory for it: no read failed, nothing was read past the line that is due, and the
-- launcher was called at most once, for what comes next.
pub record LacksMemory (w : WorldState) (next : Next) (was_faults faults : ℕ) (left rest : Option (List ℕ)) (calls calls_now : List Call) : Type 0 where
  pub reads_well : faults ≡ was_faults
  pub unread : IfKnown left (λ bytes. TakesPartAt next bytes rest)
  pub dropped : List Call
  pub dropped_is : AreDropped w (Some next) dropped
  pub calls_are : calls_now ≡ calls ++ dropped
