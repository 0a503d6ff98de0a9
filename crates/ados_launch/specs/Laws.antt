-- The laws of the machine, applied to sessions.
use Rattle.std.specs.Prelude.{◌≡◌, ◌⊎◌, ◌++◌, ℕ, List, [], Bool, true, Option, Some}
use Rattle.ados_resident.specs.declared.dialects.Dialect.{Dialect}
use Rattle.ados_resident.specs.declared.hosts.HostEntry.{HostEntry}
use Rattle.ados_machine.specs.declared.events.BreakAt.{BreakAt}
use Rattle.ados_machine.specs.World.{WorldState, fresh_world}
use Rattle.ados_machine.specs.FrameEnds.{IsSane, LimitsHold, ReportsHold}
use Rattle.ados_machine.specs.Stacks.{FramesHold}
use Rattle.ados_launcher.specs.declared.calls.Call.{Call}
use Rattle.ados_launch.specs.Agreement.{Agrees}
use Rattle.ados_launch.specs.Asked.{AreNoStarts}
use Rattle.ados_launch.specs.Deeds.{Does, DoesByRule}
use Rattle.ados_launch.specs.Leads.{Act, ActsLead, ActsObeyLimits, ActsReportEnds, ActsEndFramesOnce}
use Rattle.ados_launch.specs.Taken.{TakenItem, taken_events, taken_outs}
use Rattle.ados_launch.specs.Session.{Session}

-- in every session, in each shell each script ends at its first command whose code reaches the limit in force after it, and is early
-- exactly then
abbrev pub SessionsObeyLimits : Type 0
SessionsObeyLimits = (w : WorldState) (left : Option (List ℕ)) (breaks : List BreakAt) (calls : List Call) (is_full : Bool) (listed : List Call) (taken : List TakenItem) (last : WorldState) →
    Session w left breaks calls is_full listed taken last → IsSane w → LimitsHold w (taken_events taken) (taken_outs taken)

-- the reports of every session are the ends of scripts in its trace, in order
abbrev pub SessionsReportEnds : Type 0
SessionsReportEnds = (w : WorldState) (left : Option (List ℕ)) (breaks : List BreakAt) (calls : List Call) (is_full : Bool) (listed : List Call) (taken : List TakenItem) (last : WorldState) →
    Session w left breaks calls is_full listed taken last → ReportsHold w (taken_events taken) (taken_outs taken)

-- in every session the frames of each shell go through what was taken as a stack, and each ends at most once
abbrev pub SessionsEndFramesOnce : Type 0
SessionsEndFramesOnce = (w : WorldState) (left : Option (List ℕ)) (breaks : List BreakAt) (calls : List Call) (is_full : Bool) (listed : List Call) (taken : List TakenItem) (last : WorldState) →
    Session w left breaks calls is_full listed taken last → IsSane w → FramesHold w (taken_events taken) (taken_outs taken) last

-- a fresh world and a launcher without a call agree
abbrev pub NewPairsAgree : Type 0
NewPairsAgree = (w : WorldState) (dialect : Dialect) (hosts : List HostEntry) (calls : List Call) → w ≡ fresh_world dialect hosts → calls ≡ [] → Agrees w calls

-- the first list of items that were taken is a prefix of the second
abbrev pub IsPrefixOfTaken : List TakenItem → List TakenItem → Type 0
IsPrefixOfTaken front taken = (rest : List TakenItem) × (taken ≡ front ++ rest)

-- Of two sessions from the same world, with the same bytes and breaks, and with the same list of calls except that one may be
-- longer, what the one took is a prefix of what the other took. A launcher that is full lists no more starts.
abbrev pub SessionsAreUnique : Type 0
SessionsAreUnique = (w : WorldState) (bytes : List ℕ) (breaks : List BreakAt) (before before' : List Call) (is_full is_full' : Bool) (listed more : List Call) (taken taken' : List TakenItem) (last last' : WorldState) →
    Session w (Some bytes) breaks before is_full listed taken last → Session w (Some bytes) breaks before' is_full' (listed ++ more) taken' last' → (is_full ≡ true → AreNoStarts more) →
    IsPrefixOfTaken taken taken' ⊎ IsPrefixOfTaken taken' taken

-- in all that leads from a sane world to another, scripts end where the rule says, in shells that are opened for lines too
abbrev pub ActsObeyTheRule : Type 0
ActsObeyTheRule = (w : WorldState) (acts : List Act) (last : WorldState) → ActsLead w acts last → IsSane w →
    ActsObeyLimits w acts × ActsReportEnds w acts × ActsEndFramesOnce w acts last

-- in all that the deeds of a session lead to, scripts end where the rule says, in lines that run alone too; and the last world is sane
abbrev pub DeedsObeyTheRule : Type 0
DeedsObeyTheRule = (w last : WorldState) (is_cut : Bool) (contents contents_now : Option (List ℕ)) →
    Does w last is_cut contents contents_now → IsSane w → DoesByRule w last is_cut contents contents_now × IsSane last
