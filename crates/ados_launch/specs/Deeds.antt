-- Deeds: what becomes of a world that a session drives, and in which lines run alone meanwhile; and what is written of it.
use Rattle.std.specs.Prelude.{◌≡◌, ℕ, List, [], ◌∷◌, ◌++◌, take, map, Bool, true, false, Option, Some, None}
use Rattle.std.specs.Io.KnownBytes.{Appends}
use Rattle.ados_text.specs.Text.{Text}
use Rattle.ados_machine.specs.declared.answers.Answer.{Answer as Reply}
use Rattle.ados_machine.specs.Alone.{AreOf}
use Rattle.ados_machine.specs.LoneShell.{world_with_opened}
use Rattle.ados_machine.specs.Numbers.{free_number}
use Rattle.ados_machine.specs.Runs.{Runs}
use Rattle.ados_machine.specs.World.{WorldState}
use Rattle.ados_world.specs.Opened.{opening_fault}
use Rattle.ados_launch.specs.Leads.{Act, Takes, Opens, ActsObeyLimits, ActsReportEnds, ActsEndFramesOnce}
use Rattle.ados_launch.specs.Taken.{TakenItem, Given, LongLine, bytes_of, taken_events, taken_outs, world_after_item, IsAccepted}

-- a line that ran alone: the number of the shell that was opened for it, and what that shell took
pub record AloneRun : Type 0 where
  pub shell : ℕ
  pub line : Text
  pub taken : List TakenItem

-- a thing that a session took, or a line that ran alone meanwhile
pub data Deed : Type 0 where
  Took : (item : TakenItem) → Deed
  RanAlone : (run : AloneRun) → Deed

-- these lines that ran alone, as deeds of a session
abbrev pub deeds_of_runs : List AloneRun → List Deed
deeds_of_runs runs = map RanAlone runs

-- In the world w a shell is opened for this line, with the lowest number that is free; it takes these events, which are its own, and the
-- result is the last world.
pub record RunsAlone (w : WorldState) (run : AloneRun) (last : WorldState) : Type 0 where
  pub no_fault : opening_fault w run.line ≡ None
  pub free : free_number w.shells ≡ Some run.shell
  pub runs : Runs (world_with_opened w run.shell (run.line ∷ [])) (taken_events run.taken) (taken_outs run.taken) last
  pub answers : List Reply
  pub events_are : AreOf run.shell (taken_events run.taken) answers []

-- these deeds lead from one world to the other, in order: the machine accepts what is taken, and the lines run
abbrev pub DeedsLead : WorldState → List Deed → WorldState → Type 0
DeedsLead w [] last = last ≡ w
DeedsLead w (Took item ∷ deeds) last = IsAccepted w item × DeedsLead (world_after_item w item) deeds last
DeedsLead w (RanAlone run ∷ deeds) last = (mid : WorldState) × RunsAlone w run mid × DeedsLead mid deeds last

-- what is written of these deeds: what the session's own items print; a line that runs alone has the bytes of its shell itself
abbrev pub bytes_of_deeds : List Deed → List ℕ
bytes_of_deeds [] = []
bytes_of_deeds (Took item ∷ deeds) = bytes_of item ++ bytes_of_deeds deeds
bytes_of_deeds (RanAlone run ∷ deeds) = bytes_of_deeds deeds

-- these items that a session took, as acts that lead from world to world: a long line is none
abbrev pub acts_of_items : List TakenItem → List Act
acts_of_items [] = []
acts_of_items (Given event out ∷ taken) = Takes event out ∷ acts_of_items taken
acts_of_items (LongLine ∷ taken) = acts_of_items taken

-- these deeds, as acts that lead from world to world: the events that the machine accepted, and the shells that were opened, in order
abbrev pub acts_of_deeds : List Deed → List Act
acts_of_deeds [] = []
acts_of_deeds (Took item ∷ deeds) = acts_of_items (item ∷ []) ++ acts_of_deeds deeds
acts_of_deeds (RanAlone run ∷ deeds) = Opens run.shell run.line ∷ (acts_of_items run.taken ++ acts_of_deeds deeds)

-- A writer holds these bytes after what it held, as far as that is known; the Bool says that some may be missing, and then it holds a
-- prefix of them.
abbrev pub AreWritten : Bool → Option (List ℕ) → Option (List ℕ) → List ℕ → Type 0
AreWritten false contents contents_now bytes = Appends contents contents_now bytes
AreWritten true contents contents_now bytes = (length_written : ℕ) × Appends contents contents_now (take length_written bytes)

-- One world leads to another by deeds whose bytes were written; the Bool says that some of the last bytes may be missing.
pub record Does (w last : WorldState) (is_cut : Bool) (contents contents_now : Option (List ℕ)) : Type 0 where
  pub deeds : List Deed
  pub lead : DeedsLead w deeds last
  pub written : AreWritten is_cut contents contents_now (bytes_of_deeds deeds)

-- one world leads to another by lines that ran alone
abbrev pub RunsLines : WorldState → WorldState → Type 0
RunsLines w last = (runs : List AloneRun) × DeedsLead w (deeds_of_runs runs) last

-- One world leads to another by deeds in all of which the scripts end where the rule says, and their bytes were written; the Bool says that
-- some of the last bytes may be missing.
pub record DoesByRule (w last : WorldState) (is_cut : Bool) (contents contents_now : Option (List ℕ)) : Type 0 where
  pub deeds : List Deed
  pub lead : DeedsLead w deeds last
  pub written : AreWritten is_cut contents contents_now (bytes_of_deeds deeds)
  -- in each shell each script ends early exactly at its first command whose code reaches the limit in force after it
  pub limits : ActsObeyLimits w (acts_of_deeds deeds)
  -- the reports are the ends of scripts, one each and in order
  pub reports : ActsReportEnds w (acts_of_deeds deeds)
  -- each frame ends once, by the name under which it began
  pub frames : ActsEndFramesOnce w (acts_of_deeds deeds) last
