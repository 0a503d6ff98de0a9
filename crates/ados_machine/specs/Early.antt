-- Early: of each script, the place of the first record that reaches its limit is the place at which it ended early, or there is neither.
use Rattle.std.specs.Prelude.{◌≡◌, ℕ, suc, List, [], ◌∷◌, ◌++◌, length, Bool, true, if◌then◌else◌, Option, Some, None, IfSome, option_map, Result}
use Rattle.ados_text.specs.declared.codes.Code.{Code}
use Rattle.ados_machine.specs.declared.events.Event.{Event}
use Rattle.ados_machine.specs.declared.outs.Out.{Out}
use Rattle.ados_machine.specs.declared.refusals.Refusal.{Refusal}
use Rattle.ados_flow.specs.CodeRule.{is_reached}
use Rattle.ados_flow.specs.declared.kinds.FrameKind.{FrameKind}
use Rattle.ados_flow.specs.declared.records.Record.{Record}
use Rattle.ados_flow.specs.Frames.{FrameState, is_script, script_count}
use Rattle.ados_machine.specs.Items.{TraceItem, Began}
use Rattle.ados_machine.specs.World.{WorldState}
use Rattle.ados_machine.specs.Runs.{Runs}
use Rattle.ados_machine.specs.Trace.{trace, own, frames_of}
use Rattle.ados_machine.specs.FrameEnds.{End, EndsBy, IsSane, Obeys, Story, story_of_frame, story_of_new, scripts_after_items}

-- the code of a record's command reached the limit that was in force after it
abbrev pub reaches : Record → Bool
reaches entry = is_reached entry.limit entry.codes.code

-- the place, from 0, of the first of these records whose code reaches its limit, if there is one
abbrev pub first_reaching : List Record → Option ℕ
first_reaching [] = None
first_reaching (entry ∷ entries) = if reaches entry then Some 0 else option_map suc (first_reaching entries)

-- the place of the last of these records, if there is one
abbrev pub place_of_last : List Record → Option ℕ
place_of_last [] = None
place_of_last (entry ∷ entries) = Some (length entries)

-- the place, from 0, of the record at which a script with these records ended early: its last one, if it did
abbrev pub ended_early_at : List Record → Option End → Option ℕ
ended_early_at records None = None
ended_early_at records (Some end) = if end.early then place_of_last records else None

-- if the frame of this story is a script, it ends early exactly at its first record that reaches the limit
abbrev pub EndsEarlyAtFirst : Story → Type 0
EndsEarlyAtFirst story = is_script story.kind ≡ true → first_reaching story.records ≡ ended_early_at story.records story.end

-- The frame of this story, if it ended, gives back what it has: its end is told by its own kind and name, and by the line and the codes of
-- its last record. After the end of a script the command that called it returns these codes, at the limit that was in force when the script
-- began, or at the first one if no script is left. A frame that ended at a break has 10 and 304 in their place, and so has the command that
-- called the outermost script, to which the break ends all frames.
abbrev pub GivesBack : Story → Type 0
GivesBack story = IfSome story.end (λ end. EndsBy end.broken story.kind story.scripts story.limit story.records end)

-- `P` holds of the story of each frame that runs when the trace begins, and of each that begins in it
pub record OfEachFrame (P : Story → Type 0) (frames : List FrameState) (log : List TraceItem) : Type 0 where
  pub older : (above below : List FrameState) (frame : FrameState) → frames ≡ above ++ frame ∷ below → P (story_of_frame frame below log)
  pub begun : (before after : List TraceItem) (depth : ℕ) (kind : FrameKind) (limit : Code) → log ≡ before ++ Began depth kind limit ∷ after →
      P (story_of_new depth (scripts_after_items (script_count frames) before) kind limit after)

-- in a run `P` holds of the story of each frame of each shell
abbrev pub OfEachFrameIn : (Story → Type 0) → WorldState → List Event → List (Result Out Refusal) → Type 0
OfEachFrameIn P w events outs = (k : ℕ) → OfEachFrame P (frames_of k w) (own k (trace w events outs))

-- in every run each script ends early exactly at its first record that reaches the limit
abbrev pub ScriptsEndEarlyAtTheirFirst : Type 0
ScriptsEndEarlyAtTheirFirst = (w : WorldState) (events : List Event) (outs : List (Result Out Refusal)) (last : WorldState) →
    Runs w events outs last → IsSane w → OfEachFrameIn EndsEarlyAtFirst w events outs

-- in every run each frame that ends gives back what it has: its line and codes, and the limit in force when it began
abbrev pub FramesGiveBack : Type 0
FramesGiveBack = (w : WorldState) (events : List Event) (outs : List (Result Out Refusal)) (last : WorldState) →
    Runs w events outs last → IsSane w → OfEachFrameIn GivesBack w events outs

-- that a frame ends early exactly at its first record at the limit, and gives back what it has, says no less and no more than the law of
-- limits: that it obeys its limit
abbrev pub EarlyAndBackIsToObey : Type 0
EarlyAndBackIsToObey = (story : Story) → (EndsEarlyAtFirst story → GivesBack story → Obeys story) × (Obeys story → EndsEarlyAtFirst story) × (Obeys story → GivesBack story)
