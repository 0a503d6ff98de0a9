-- The reports of a shell that runs alone are those of the direct meaning.
use Rattle.std.proofs.Common.{◌≡◌, ℕ, zero, suc, ◌-◌, List, [], ◌∷◌, true, false, Option, Some, None, refl, ap, arith}
use Rattle.ados_flow.specs.Frames.{FrameState}
use Rattle.ados_machine.specs.declared.answers.Answer.{Answer as Reply}
use Rattle.ados_machine.specs.Phases.{Ready}
use Rattle.ados_machine.specs.Items.{TraceItem}
use Rattle.ados_machine.specs.Shells.{ShellState}
use Rattle.ados_machine.specs.World.{WorldState}
use Rattle.ados_machine.specs.Whole.{Common}
use Rattle.ados_machine.proofs.Alone.{standing, exec}
use Rattle.ados_flow.specs.declared.kinds.FrameKind.TheVariants.{Script, RunCommands, Tick}
use Rattle.ados_flow.specs.Frames.{new_frame, first_limit, script_count}
use Rattle.std.proofs.lemmas.Bool.{lt-leb}
use Rattle.std.proofs.Common.{length}
use Rattle.ados_machine.specs.declared.outs.EndReport.{EndReport}
use Rattle.ados_machine.specs.Items.{Began, Answered, Ended, Broke, broken_codes, reports_of}
use Rattle.ados_machine.specs.Whole.{Whole, remainder, configuration, Done, Broken, Late, Short}
use Rattle.ados_machine.specs.LoneShell.{lines, at_bottom, opened_shell, world_with_opened, first_common}
use Rattle.ados_machine.specs.LoneReports.{reports_onto, collect_reports_after, collect_reports_of_reply, collect_reports, TellsReports, AloneTellsReports}
use Rattle.ados_machine.proofs.Alone.{with_ends, Lone, Rested, Going, Unfed, exec-rests}
use Rattle.ados_machine.proofs.DirectStates.{AgreesBy, ended, breaking}
use Rattle.ados_machine.proofs.Direct.{agrees}
use Rattle.ados_machine.proofs.Places.{set-set}
use Rattle.ados_machine.proofs.Systems.{none_below, free-two, opened-stands}
use Rattle.ados_machine.proofs.LoneWorlds.{Stands, ended-at, stands-at, took_world}
use Rattle.ados_machine.proofs.Lonely.{Fold, Same, event-same}

pub onto-ends : (k : ℕ) (log : List TraceItem) (reports : List EndReport) → reports_onto (reports_of k log) reports ≡ with_ends k log reports
onto-ends k [] reports = refl
onto-ends k (Began depth kind limit ∷ log) reports = onto-ends k log reports
onto-ends k (Answered depth entry ∷ log) reports = onto-ends k log reports
onto-ends k (Ended depth (Script name command) line codes early ∷ log) reports =
    onto-ends k log (record { shell = k; name = name; last_line = line; code = codes.code; early = early; broken = false } ∷ reports)
onto-ends k (Ended depth RunCommands line codes early ∷ log) reports = onto-ends k log reports
onto-ends k (Ended depth (Tick before after) line codes early ∷ log) reports = onto-ends k log reports
onto-ends k (Broke depth (Script name command) line ∷ log) reports =
    onto-ends k log (record { shell = k; name = name; last_line = line; code = broken_codes.code; early = false; broken = true } ∷ reports)
onto-ends k (Broke depth RunCommands line ∷ log) reports = onto-ends k log reports
onto-ends k (Broke depth (Tick before after) line ∷ log) reports = onto-ends k log reports

abbrev told_by : Lone → Option (List EndReport)
told_by (Rested left answers common) = Some common.reports
told_by (Going answers frames phase common) = Some common.reports
told_by Unfed = None

-- the reports after each event, the newest first
abbrev tells : (k : ℕ) (w : WorldState) → Fold (List EndReport) (Option (List EndReport)) k w
tells k w = record {
  kept = λ common. common.reports;
  seen = told_by;
  after = collect_reports_after;
  reply = λ go world reports answers. collect_reports_of_reply go k world reports answers;
  taken = λ go old phase common course settled. ap (go (took_world (standing k w old phase common) k course settled)) (onto-ends k settled.log common.reports);
  refused = λ go common why. refl;
  unfed = λ go world common. refl;
  fed = λ go world common first answers. refl;
}

pub told-exec : (k : ℕ) (w : WorldState) (n : ℕ) (answers : List Reply) → Same k w (tells k w) (collect_reports k n answers) (exec k n answers)
told-exec k w zero answers [] phase common stands = refl
told-exec k w zero answers (frame ∷ frames) phase common stands = refl
told-exec k w (suc n) answers [] phase common stands = rw (ended-at k w common stands) refl
told-exec k w (suc n) answers (frame ∷ frames) phase common stands =
    rw (stands-at k w (frame ∷ frames) phase common stands)
    (event-same k w (tells k w) (collect_reports k n) (exec k n) answers frame frames common phase stands (λ rest. told-exec k w n rest))

-- the frame of its lines is the last to end
bottom-tells : (k n : ℕ) (frame : FrameState) (meaning : Whole) (lone : Lone) → frame.kind ≡ RunCommands →
    AgreesBy n lone meaning (ended k frame []) (breaking k frame []) (script_count (frame ∷ [])) → TellsReports meaning (told_by lone)
bottom-tells k n frame (Done left answers last common) lone lines h = rw (h.1, lines, exec-rests k left answers Ready common) refl
bottom-tells k n frame (Late answers) lone lines h = tt
bottom-tells k n frame Short lone lines h = tt
bottom-tells k n frame (Broken left answers last common) lone lines h = absurd (none_below frame.kind h.1.0 lines h.1.1)

pub alone-tells : AloneTellsReports
alone-tells n k w command commands answers free =
    let frame = new_frame RunCommands (command ∷ commands) first_limit None in
    let shell : ShellState = opened_shell k (command ∷ commands) in
    let common : Common = first_common w k (command ∷ commands) in
    let above = free-two w.shells k free in
    let stands : Stands k common = record { above = above; shell = shell; is = opened-stands w k (command ∷ commands) free } in
    let steps : collect_reports k n answers (world_with_opened w k (command ∷ commands)) [] ≡ told_by (exec k n answers (frame ∷ []) Ready common) =
    rw (set-set w.shells (k - 1) (Some shell) (Some shell)) at (told-exec k w n answers (frame ∷ []) Ready common stands) in
    rw steps (bottom-tells k n frame (lines (suc n) (remainder n answers) (configuration common (at_bottom k (command ∷ commands))) None)
    (exec k n answers (frame ∷ []) Ready common) refl
    (agrees k (suc n) n answers common frame [] None (omega arith) (lt-leb (length (command ∷ commands)) 0 (omega arith))))
