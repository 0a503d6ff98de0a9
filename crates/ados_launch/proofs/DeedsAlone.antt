-- A line that runs alone leads from a world to the one after it.
use Rattle.std.proofs.Common.{◌≡◌, ℕ, List, [], Bool, Option, Some, None, Result, Ok, Err}
use Rattle.std.specs.Prelude.{IfErr, IfNone, IfSome}
use Rattle.ados_text.specs.Text.{Text, Bytes}
use Rattle.ados_machine.specs.declared.answers.Answer.{Answer as Reply}
use Rattle.ados_machine.specs.World.{WorldState}
use Rattle.ados_launcher.specs.declared.calls.Call.{Call}
use Rattle.ados_launch.specs.declared.alone.SystemEnd.{SystemEnd}
use Rattle.ados_launch.specs.declared.alone.SystemEnd.TheVariants.{Ended, NoShell, StillRunning}
use Rattle.ados_launch.specs.declared.alone.SystemFault.{SystemFault}
use Rattle.ados_launch.specs.Alone.{EndedAs, IfEnded, IfRunning, IfUnopened, RunsLine, RunsOn, LineProgress}
use Rattle.ados_launch.specs.Deeds.{RunsLines}
use Rattle.ados_launch.specs.Taken.{TakenItem}
use Rattle.ados_launch.proofs.Deeding.{lines-none, lines-one}

ran-line : (k : ℕ) (w : WorldState) (line : Text) (is_full : Bool) (taken : List TakenItem) (answers : List Reply) (last : WorldState) (calls calls_now others : List Call)
    → RunsLine k w line is_full taken answers last calls calls_now others → RunsLines w last
ran-line k w line is_full taken answers last calls calls_now others r =
    lines-one w last (record { shell = k; line = line; taken = taken })
    (record { no_fault = r.no_fault; free = r.free; runs = r.run; answers = answers; events_are = r.events_are })

-- by what `system` ensures
pub ran-alone : (w last : WorldState) (line : Text) (turns : ℕ) (is_full : Bool) (before now : Bytes) (calls calls_now : List Call) (result : Result SystemEnd SystemFault) (rest more : Type 0)
    → IfEnded result (EndedAs w line turns is_full last before now calls calls_now)
    → IfRunning result (RunsOn w line turns is_full last before now calls calls_now)
    → IfUnopened result ((last ≡ w) × rest × more)
    → IfErr result (λ fault. IfSome fault.shell (LineProgress w line turns is_full fault last before now calls calls_now))
    → RunsLines w last
ran-alone w last line turns is_full before now calls calls_now (Ok (Ended codes)) rest more ended running unopened fault =
    ran-line ended.k w line is_full ended.taken ended.answers last calls calls_now [] ended.runs
ran-alone w last line turns is_full before now calls calls_now (Ok (StillRunning k)) rest more ended running unopened fault =
    ran-line k w line is_full running.taken running.answers last calls calls_now [] running.runs
ran-alone w last line turns is_full before now calls calls_now (Ok NoShell) rest more ended running unopened fault = lines-none w last unopened.0
ran-alone w last line turns is_full before now calls calls_now (Err why) rest more ended running unopened fault = by-shell why.shell unopened fault
  where
    by-shell : (shell : Option ℕ) → IfNone shell ((last ≡ w) × rest × more) → IfSome shell (LineProgress w line turns is_full why last before now calls calls_now) → RunsLines w last
    by-shell None none some = lines-none w last none.0
    by-shell (Some k) none some = ran-line k w line is_full some.taken some.answers last calls calls_now some.others some.runs
