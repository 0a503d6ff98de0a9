-- A plain command of the shell's own does what its row says.
use Rattle.std.proofs.Common.{◌≡◌, ◌≢◌, ◌⊎◌, ◌∙◌, sym, ℕ, pos, List, [], ◌∷◌, ◌++◌, true, false, Option, Some, None, Ok, refl, ap, arith, inl, inr}
use Rattle.std.specs.Prelude.{option_map, take, codes}
use Rattle.std.specs.List.{All, fold}
use Rattle.std.proofs.lemmas.List.Elements.{All-head, All-tail}
use Rattle.std.proofs.lemmas.Bool.{le-leb}
use Rattle.ados_text.specs.Text.{Text, Bytes}
use Rattle.ados_line.specs.declared.lines.Line.{Line}
use Rattle.ados_ram.specs.Place.{Place, moved_place}
use Rattle.ados_readargs.specs.declared.args.Arg.{Arg}
use Rattle.ados_readargs.specs.Args.{option_number}
use Rattle.ados_readargs.specs.Fill.{fill_of}
use Rattle.ados_find.specs.declared.changes.Change.{Change}
use Rattle.ados_find.specs.declared.changes.Change.TheVariants.{Limit, Directory, Set}
use Rattle.ados_find.specs.declared.codes.Codes.{Codes}
use Rattle.ados_find.specs.declared.outcomes.Renamed.{Renamed}
use Rattle.ados_find.specs.declared.search.Found.{Found}
use Rattle.ados_find.specs.declared.search.Found.TheVariants as found
use Rattle.ados_find.specs.declared.targets.Target.TheVariants.{Nil, At}
use Rattle.ados_find.specs.Changes.{parts_after_command}
use Rattle.ados_find.specs.Effects.{Effect, change_effect}
use Rattle.ados_find.specs.Renames.{renames_of}
use Rattle.ados_find.specs.Parts.{Parts}
use Rattle.ados_flow.specs.Actions as flow
use Rattle.ados_flow.specs.declared.kinds.FrameKind.TheVariants.{Tick}
use Rattle.ados_flow.specs.Frames.{FrameState, is_over}
use Rattle.ados_resident.specs.Commands.{disk_builtin}
use Rattle.ados_resident.specs.declared.commands.Builtin.{Builtin}
use Rattle.ados_resident.specs.declared.commands.Builtin.TheVariants.{Env}
use Rattle.ados_resident.specs.declared.commands.EnvCommand.TheVariants as env
use Rattle.ados_resident.specs.declared.dialects.Dialect.{Dialect}
use Rattle.ados_resident.specs.declared.dialects.Dialect.TheVariants.{Core, Full}
use Rattle.ados_resident.specs.declared.programs.Program.{Program}
use Rattle.ados_resident.specs.declared.programs.Program.TheVariants.{Disk, Host}
use Rattle.ados_machine.specs.declared.events.Event.TheVariants.{Turn}
use Rattle.ados_machine.specs.Apply.{TurnResult, here_of, rule_state_of, code_rule_of, turn_of_completion}
use Rattle.ados_machine.proofs.Fronts.{front, ruled-front}
use Rattle.ados_machine.specs.Commands.{action_of, template_of}
use Rattle.ados_machine.specs.Carrying.{carried_or_same, moved_objects, place_after_moves}
use Rattle.ados_machine.specs.CodeRule.{RuleState, with_fault_line, finish}
use Rattle.ados_machine.specs.Completions.{Completion, Answers, Here}
use Rattle.ados_machine.specs.Course.{Course, kept_with_bytes, with_devices_used, put, shared_after_event}
use Rattle.ados_machine.specs.Lines.{with_effect, with_argument_devices, with_search_used, found_completion, program_completion, builtin_completion, put_completion}
use Rattle.ados_machine.specs.Next.{stands_for, frames_at, recorded}
use Rattle.ados_machine.specs.Opening.{output_devices}
use Rattle.std.proofs.lemmas.List.{append-nil}
use Rattle.ados_find.specs.Devices.{searched_devices}
use Rattle.ados_machine.specs.Bound.{with_reached, devices_used}
use Rattle.ados_machine.specs.Uses.{devices_named, devices_reached, devices_of}
use Rattle.ados_machine.specs.Phases.{GoingOn}
use Rattle.ados_machine.specs.Plain.{disk_command, own_command, IsPlain, TakesEffect, action_at, EnabledCommandsAreFound, limit_after, EffectsAreRecorded, EffectsArePrinted, FailAtSetsTheLimit, SubstitutionsKeepTheirOutput, HasGone, DirectoriesAreCarried}
use Rattle.ados_machine.specs.Shells.{ShellState}
use Rattle.ados_machine.specs.Sinks.{Sink, Console, Kept, To, newest_sink}
use Rattle.ados_machine.specs.Step.{Accepted, shell_after_turn, moved_at_turn, turn_taken, start, course_without_flag, step_of}
use Rattle.ados_machine.specs.World.{WorldState, numbered_shell}
use Rattle.ados_machine.proofs.NextLemmas.{turns, answer-record}
use Rattle.ados_machine.proofs.Keeps.{put-same, put-parts}
use Rattle.ados_machine.proofs.Shells.{found, shells_after, found-left, found-left_other, left-same, broken-same, broken_for}

pub enabled-found : EnabledCommandsAreFound
enabled-found w shell word internal plain listed enabled = rw (plain, listed, enabled) refl

-- a word that stands for one of the shell's own commands
by-program : (entry : Option Text) (program : Program) (builtin : Builtin) (line : Line) (here : Here) (course : Course) → disk_command program ≡ Some builtin →
    program_completion entry program line here course ≡ builtin_completion builtin line here course
by-program entry (Disk command) builtin line here course is = let same : disk_builtin command ≡ builtin = cc in rw same refl
by-program entry (Host program) builtin line here course is = cc

pub by-found : (word : Found) (builtin : Builtin) (line : Line) (here : Here) (course : Course) → own_command word ≡ Some builtin →
    found_completion word line here course ≡ builtin_completion builtin line here course
by-found (found.Internal command) builtin line here course is = rw is refl
by-found (found.Resident entry) builtin line here course is = by-program (Some entry.name) entry.program builtin line here course is
by-found (found.File file) builtin line here course is = by-program None file.program builtin line here course is
by-found (found.Script place) builtin line here course is = cc
by-found (found.Directory place) builtin line here course is = cc
by-found (found.NotExecutable fault) builtin line here course is = cc
by-found found.Unknown builtin line here course is = cc

-- its turn: what its effect gives is put where its frames' output goes
pub record EffectTurns (w : WorldState) (k : ℕ) (shell : ShellState) (line : Line) (builtin : Builtin) (effect : Effect) : Type 0 where
  pub queue : List Text
  pub used : List Text
  pub used_is : used ≡ devices_used w k shell line builtin
  pub does : step_of w (Turn k) ≡ turn_taken w k queue (turn_of_completion (put_completion line.command
      (put (newest_sink (frames_at shell)) effect.output effect.codes (with_effect effect (record (course_without_flag (start w shell)) { used = used })))) (frames_at shell))

-- a command in a course that is as at the beginning of the turn, but for what was used
record Works (w : WorldState) (shell : ShellState) (line : Line) (effect : Effect) (uses : List Text) (completion : Completion) : Type 0 where
  used : List Text
  used_is : used ≡ uses
  does : completion ≡ put_completion line.command
      (put (newest_sink (frames_at shell)) effect.output effect.codes (with_effect effect (record (course_without_flag (start w shell)) { used = used })))

works : (w : WorldState) (shell : ShellState) (line : Line) (builtin : Builtin) (effect : Effect) (used : List Text) → IsPlain w.shared.dialect builtin line → action_at w shell line builtin ≡ flow.Does effect →
    Works w shell line effect (used ++ with_reached w.shared.assigns (devices_of builtin w.shared shell.parts line.args))
    (builtin_completion builtin line (here_of (frames_at shell)) (record (course_without_flag (start w shell)) { used = used }))
unfolding devices_reached
works w shell line builtin effect used plain does =
    let read = with_devices_used (devices_named None) (record (course_without_flag (start w shell)) { used = used }) in
    record {
      used = (with_argument_devices builtin line (with_devices_used (output_devices None) read)).used;
      used_is = rw (append-nil used, append-nil used) refl;
      does = rw (plain.no_input, plain.no_prompt, plain.no_output, does) refl;
    }

pub effect-turns : (w : WorldState) (k : ℕ) (shell : ShellState) (line : Line) (effect : Effect) → (takes : TakesEffect w k shell line effect) → EffectTurns w k shell line takes.builtin effect
unfolding devices_reached
effect-turns w k shell line effect takes =
    let turn = turns w k shell _ takes.command.takes in
    let course : Course = record (course_without_flag (start w shell)) { used = turn.used } in
    let used = (with_search_used line.command course).used in
    let search = searched_devices w.shared shell.parts.directory shell.parts.settings.path line.command in
    let work = works w shell line takes.builtin effect used takes.command.plain takes.does in
    record {
      queue = turn.queue;
      used = work.used;
      used_is = work.used_is
          ∙ ap (λ u. (u ++ with_reached w.shared.assigns search) ++ with_reached w.shared.assigns (devices_of takes.builtin w.shared shell.parts line.args)) turn.used_is;
      does = rw (turn.does, by-found (stands_for w shell line.command) takes.builtin line (here_of (frames_at shell)) (with_search_used line.command course) takes.command.is, work.does) refl;
    }

-- what is put, and the codes after it
quiet-codes : (sink : Sink) (answered : Codes) (course : Course) → put sink [] answered course ≡ record { codes = answered; course = (put sink [] answered course).course }
quiet-codes Console answered course = refl
quiet-codes Kept answered course = refl
quiet-codes (To Nil) answered course = refl
quiet-codes (To (At place)) answered course = refl

pub put-limit : (sink : Sink) (output : Bytes) (answered : Codes) (course : Course) → (output ≡ []) ⊎ (sink ≡ Console) →
    ((put sink output answered course).codes ≡ answered) × ((put sink output answered course).course.parts ≡ course.parts)
put-limit sink output answered course (inl none) = rw none (ap (λ done. done.codes) (quiet-codes sink answered course), put-parts sink [] answered course)
put-limit sink output answered course (inr console) = rw console (refl, refl)

pub changed-limit : (change : Option Change) (parts : Parts) → (parts_after_command change parts).limit ≡ limit_after change parts.limit
changed-limit None parts = refl
changed-limit (Some (Limit limit)) parts = refl
changed-limit (Some (Directory place)) parts = refl
changed-limit (Some (Set setting)) parts = refl

pub effects-recorded : EffectsAreRecorded
effects-recorded w k shell line effect takes where_to =
    let turn = effect-turns w k shell line effect takes in
    let course : Course = with_effect effect (record (course_without_flag (start w shell)) { used = turn.used }) in
    let done = put (newest_sink (frames_at shell)) effect.output effect.codes course in
    let same = put-limit (newest_sink (frames_at shell)) effect.output effect.codes course where_to in
    rw turn.does
    (answer-record w k turn.queue line.command done.codes false done.course (frames_at shell)
    ∙ ap Some (ap (λ c. recorded (frames_at shell) c done.course.parts.limit) same.0
    ∙ ap (recorded (frames_at shell) effect.codes) (ap (λ parts. parts.limit) same.1 ∙ changed-limit effect.change shell.parts)))

-- what is printed first
answer-printed : (word : Text) (answered : Codes) (course : Course) (frames : List FrameState) (bytes : Bytes) → course.printed ≡ bytes →
    (further : Bytes) × ((turn_of_completion (Answers word answered false course) frames).course.printed ≡ bytes ++ further)
answer-printed word answered course frames bytes is =
    let after : RuleState = record (rule_state_of course) { printed = [] } in
    let same : front bytes [] after ≡ rule_state_of course = rw (append-nil bytes, is) refl in (
      (code_rule_of (Answers word answered false course) frames after).rule_state.printed,
      ap (λ s. (code_rule_of (Answers word answered false course) frames s).rule_state.printed) (sym same)
          ∙ ap (λ r. r.rule_state.printed) (ruled-front bytes [] (Answers word answered false course) frames after),
    )

pub effects-printed : EffectsArePrinted
effects-printed w k shell line effect world out items takes console accepted =
    let turn = effect-turns w k shell line effect takes in
    let course : Course = with_effect effect (record (course_without_flag (start w shell)) { used = turn.used }) in
    let done = put (newest_sink (frames_at shell)) effect.output effect.codes course in
    let t = turn_of_completion (put_completion line.command done) (frames_at shell) in
    let same : turn_taken w k turn.queue t ≡ Accepted world out items = sym turn.does ∙ accepted in
    let bytes : out.bytes ≡ t.course.printed = cc in
    let first : done.course.printed ≡ effect.output = rw console refl in
    let printed = answer-printed line.command done.codes done.course (frames_at shell) effect.output first in
    (printed.0, bytes ∙ printed.1)

-- FailAt, which has one template
limit-template : (dialect : Dialect) → template_of dialect (Env env.FailAt) ≡ codes "RCLIM/N"
limit-template Core = refl
limit-template Full = refl

limit-set : (w : WorldState) (shell : ShellState) (line : Line) (args : List Arg) (n : ℕ) → fill_of (codes "RCLIM/N") line.args ≡ Ok args → option_number args 0 ≡ Some (pos n) →
    action_at w shell line (Env env.FailAt) ≡ flow.Does (change_effect w.shared (Limit (record { 0 = pos n })))
unfolding action_of
limit-set w shell line args n filled is = rw (limit-template w.shared.dialect, filled, is, le-leb 0 n (omega arith)) refl

pub fail-at-sets : FailAtSetsTheLimit
fail-at-sets w k shell line args n takes filled is =
    effects-recorded w k shell line (change_effect w.shared (Limit (record { 0 = pos n })))
    (record { builtin = Env env.FailAt; command = takes; does = limit-set w shell line args n filled is }) (inl refl)

-- the end of a command substitution
tick-ends : (word : Text) (answered : Codes) (before after : Text) (frame : FrameState) (frames : List FrameState) (rule_state : RuleState) (output : Bytes) (kept : List Bytes) →
    frame.kind ≡ Tick before after → is_over frame ≡ true → rule_state.kept ≡ output ∷ kept →
    (finish word answered false (frame ∷ frames) rule_state).phase ≡ GoingOn (record { before = before; output = output; after = after })
tick-ends word answered before after frame frames rule_state output kept kind over is = rw (over, kind, is) refl

tick-turn : (word : Text) (effect : Effect) (course : Course) (before after : Text) (frame : FrameState) (frames now : List FrameState) (sink : Sink) (output : Bytes) (kept : List Bytes) →
    now ≡ frame ∷ frames → sink ≡ Kept → frame.kind ≡ Tick before after → is_over frame ≡ true → course.kept ≡ output ∷ kept →
    (turn_of_completion (put_completion word (put sink effect.output effect.codes course)) now).phase
    ≡ GoingOn (record { before = before; output = take 1024 (output ++ effect.output); after = after })
tick-turn word effect course before after frame frames now sink output kept at_frame keeps kind over is =
    rw (at_frame, keeps)
    (let put_there : Course = record course { kept = kept_with_bytes effect.output course.kept } in
    tick-ends word effect.codes before after frame frames (with_fault_line word effect.codes.result2 (rule_state_of put_there)) (take 1024 (output ++ effect.output)) kept kind over (rw is refl))

pub substitutions-keep : SubstitutionsKeepTheirOutput
substitutions-keep w k shell line effect before after frame frames output kept world out items now takes at_frame kind over is accepted there =
    let turn = effect-turns w k shell line effect takes in
    let course : Course = with_effect effect (record (course_without_flag (start w shell)) { used = turn.used }) in
    let t = turn_of_completion (put_completion line.command (put (newest_sink (frames_at shell)) effect.output effect.codes course)) (frames_at shell) in
    let same : turn_taken w k turn.queue t ≡ Accepted world out items = sym turn.does ∙ accepted in
    let shells : world.shells ≡ shells_after w.shells k (moved_at_turn w t) t = cc in
    let left = found-left w.shells k shell (moved_at_turn w t) t takes.command.takes.runs in
    let now_is : shell_after_turn k (moved_at_turn w t) t ≡ Some now = sym left ∙ (ap (λ s. found s k) (sym shells) ∙ there) in
    let sink : newest_sink (frames_at shell) ≡ Kept = rw (at_frame, kind) refl in
    left-same (λ s. s.phase) (λ moved s. refl) k (moved_at_turn w t) t now now_is
    ∙ tick-turn line.command effect course before after frame frames (frames_at shell) (newest_sink (frames_at shell)) output kept at_frame sink kind over is

-- the renamed object, and what the others see of that
abbrev directory_of : Option ShellState → Option Place
directory_of o = option_map (λ shell. shell.parts.directory) o

others-directory : (shells : List (Option ShellState)) (k : ℕ) (shell : ShellState) (moved : List Renamed) (t : TurnResult) (j : ℕ) (other : ShellState) →
    found shells k ≡ Some shell → j ≢ k → found shells j ≡ Some other →
    directory_of (found (shells_after shells k moved t) j) ≡ Some (carried_or_same moved other).parts.directory
others-directory shells k shell moved t j other is differ there =
    ap directory_of (found-left_other shells k shell moved t j other is differ there)
    ∙ broken-same directory_of (λ breaks s. refl) (broken_for t.course.breaking j) (Some (carried_or_same moved other))

runs-there : (o : Option ShellState) (place : Place) → directory_of o ≡ Some place → (other : ShellState) × (o ≡ Some other) × (other.parts.directory ≡ place)
runs-there None place e = cc
runs-there (Some other) place e = (other, refl, cc)

-- of objects that have gone all have moved
all-moved : (w world : WorldState) (renames : List Renamed) → All (λ renamed. HasGone renamed w world) renames → moved_objects w.shared world.shared renames ≡ renames
all-moved w world [] all = refl
all-moved w world (renamed ∷ more) all =
    let first = All-head (λ r. HasGone r w world) renamed more all in
    rw (first.was, first.gone) (ap (λ l. renamed ∷ l) (all-moved w world more (All-tail (λ r. HasGone r w world) renamed more all)))

after-moves : (moves : List Renamed) (place : Place) → place_after_moves moves place ≡ fold (λ place renamed. moved_place renamed.from renamed.to place) place moves
after-moves [] place = refl
after-moves (moved ∷ more) place = after-moves more (moved_place moved.from moved.to place)

carried-to : (moves : List Renamed) (shell : ShellState) → (carried_or_same moves shell).parts.directory ≡ place_after_moves moves shell.parts.directory
carried-to [] shell = refl
carried-to (moved ∷ more) shell = refl

pub directories-carried : DirectoriesAreCarried
directories-carried w k shell line effect world out items j place takes accepted gone differ there =
    let turn = effect-turns w k shell line effect takes in
    let course : Course = with_effect effect (record (course_without_flag (start w shell)) { used = turn.used }) in
    let done = put (newest_sink (frames_at shell)) effect.output effect.codes course in
    let t = turn_of_completion (put_completion line.command done) (frames_at shell) in
    let same : turn_taken w k turn.queue t ≡ Accepted world out items = sym turn.does ∙ accepted in
    let shells : world.shells ≡ shells_after w.shells k (moved_at_turn w t) t = cc in
    let shared : world.shared ≡ shared_after_event t.course = cc in
    let renames = renames_of effect.renamed effect.gathered in
    let is_renamed : t.course.renamed ≡ renames = put-same (λ c. c.renamed) (λ printed kept shared c. refl) (newest_sink (frames_at shell)) effect.output effect.codes course in
    let is_moved : moved_at_turn w t ≡ renames = rw (is_renamed, sym shared) (all-moved w world renames gone) in
    let other = runs-there (numbered_shell w j) place there in
    ap (λ s. directory_of (found s j)) shells
    ∙ (others-directory w.shells k shell (moved_at_turn w t) t j other.0 takes.command.takes.runs differ other.1
    ∙ ap Some (rw is_moved (carried-to renames other.0 ∙ after-moves renames other.0.parts.directory ∙ ap (λ p. fold (λ place renamed. moved_place renamed.from renamed.to place) p renames) other.2)))
