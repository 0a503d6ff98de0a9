-- What a turn has changed so far, by the machine's definitions.
use Rattle.std.specs.Prelude.{◌≡◌, ℕ, [], ◌∷◌, ◌++◌, List, drop, reverse, Bool, ◌||◌, Option, Some, None, option_map, unwrap_or}
use Rattle.ados_text.specs.Text.{Bytes, Text}
use Rattle.ados_text.specs.declared.codes.Code.{Code}
use Rattle.ados_ram.specs.Place.{Place}
use Rattle.ados_find.specs.declared.changes.Change.{Change}
use Rattle.ados_find.specs.declared.codes.Codes.{Codes}
use Rattle.ados_find.specs.declared.settings.Setting.{Setting}
use Rattle.ados_find.specs.declared.settings.Settings.{Settings}
use Rattle.ados_find.specs.Changes.{parts_after_command}
use Rattle.ados_find.specs.Settings.{with_setting}
use Rattle.ados_find.specs.declared.outcomes.Breaking.{Breaking}
use Rattle.ados_find.specs.declared.outcomes.Renamed.{Renamed}
use Rattle.ados_find.specs.Renames.{renames_in}
use Rattle.ados_find.specs.Shared.{SharedState, version}
use Rattle.ados_machine.specs.declared.outs.Out.{Out}
use Rattle.ados_machine.specs.Phases.{Phase, GoingOn}
use Rattle.ados_flow.specs.Frames.{FrameState, limit_above_frames}
use Rattle.ados_machine.specs.Breaks.{flags_own}
use Rattle.ados_machine.specs.Items.{reports_of}
use Rattle.ados_find.specs.Parts.{Parts}
use Rattle.ados_machine.specs.Shells.{ShellStart, ShellState}
use Rattle.ados_find.specs.declared.targets.Target.{Target}
use Rattle.ados_machine.specs.Course.{Course, new_course, shared_after_event}
use Rattle.ados_machine.specs.NewShells.{with_shell_begun}
use Rattle.ados_machine.specs.Completions.{Here, Completion}
use Rattle.ados_machine.specs.CodeRule.{RuleResult, newest_kept}
use Rattle.ados_machine.specs.Apply.{TurnResult, turn_by_rule, here_of, turn_of_completion}
use Rattle.ados_machine.specs.Step.{event_out, shell_of_turn, course_without_flag}
use Rattle.ados_machine.specs.World.{seen_shells}
use Rattle.ados_shell.specs.declared.scenes.Scene.{Scene}
use Rattle.ados_shell.specs.declared.drafts.Draft.{Draft}
use Rattle.ados_shell.specs.declared.drafts.ShellDraft.{ShellDraft}
use Rattle.ados_shell.specs.Reports.{report_of}
use Rattle.ados_shell.specs.Suspensions.{phase_of}
use Rattle.ados_shell.specs.Stacks.{drafted_frames}

-- the phase that a draft gives its shell
abbrev pub drafted_phase : ShellDraft → Phase
drafted_phase draft = phase_of (option_map (λ p. p.value) draft.phase)

-- the outputs of the shell's command substitutions that a draft holds, the newest first, if they changed
abbrev pub drafted_outputs : ShellDraft → Option (List Bytes)
drafted_outputs draft = option_map (λ k. reverse k.items) draft.kept

-- a shell's settings after this one was changed, if one was
abbrev pub changed_settings : Option Setting → Settings → Settings
changed_settings None settings = settings
changed_settings (Some setting) settings = with_setting setting settings

-- a shell after what a turn makes of it, by the draft
abbrev pub drafted_shell : ShellDraft → ShellState → ShellState
drafted_shell draft shell = record {
  frames = drafted_frames shell draft.frames;
  phase = drafted_phase draft;
  parts = record {
    number = shell.parts.number;
    directory = unwrap_or draft.directory shell.parts.directory;
    limit = draft.limit;
    codes = draft.codes;
    settings = changed_settings draft.setting shell.parts.settings;
  };
  kept = unwrap_or (drafted_outputs draft) shell.kept;
  flagged = draft.flagged;
}

-- a shell with the codes, the limit and the flag of a draft
abbrev pub with_codes : ShellDraft → ShellState → ShellState
with_codes draft shell = record shell { parts = record shell.parts { limit = draft.limit; codes = draft.codes }; flagged = draft.flagged }

-- what an event gives, by its draft: what it printed, what it asks a launcher for, and its reports
abbrev pub out_of : Draft → Out
out_of draft = event_out draft.printed.items draft.request draft.reports.items

-- the frames of the scene's shell as a draft has changed them, the newest first
abbrev pub frames_of : Scene → Draft → List FrameState
frames_of scene draft = drafted_frames scene.shell.now draft.shell.frames

-- what the next line of the scene's shell knows of its frames, as a draft has changed them
abbrev pub here_in : Scene → Draft → Here
here_in scene draft = here_of (frames_of scene draft)

-- the parts of the scene's shell as a draft has changed them
abbrev pub parts_of : Scene → Draft → Parts
parts_of scene draft = (drafted_shell draft.shell scene.shell.now).parts

-- the course of an event of the scene's shell as it begins: nothing is done yet
abbrev pub event_start : Scene → Course
event_start scene = new_course scene.shell.now.parts scene.shell.now.kept scene.shared.now (seen_shells scene.shells.now) scene.shell.now.flagged

-- the course of a turn of the scene's shell as it begins: nothing is done yet, except that its flag is cleared
abbrev pub turn_start : Scene → Course
turn_start scene = course_without_flag (event_start scene)

-- the part of a draft that is no code, no limit, no frame and nothing printed: the new directory, the setting that was changed, the outputs
-- of command substitutions, the new shared state, what was renamed, the shell that begins, the devices used, the shell that is broken, and
-- the flag; None: no change
pub record HeldState : Type 0 where
  pub directory : Option Place
  pub setting : Option Setting
  pub kept : Option (List Bytes)
  pub shared : Option SharedState
  pub renamed : List Renamed
  pub begun : Option ShellStart
  pub used : List Text
  pub breaking : Option Breaking
  pub flagged : Bool

-- the part of this draft that is no code, no limit, no frame and nothing printed
abbrev pub held_state : Draft → HeldState
held_state draft = record {
  directory = draft.shell.directory;
  setting = draft.shell.setting;
  kept = drafted_outputs draft.shell;
  shared = draft.shared;
  renamed = renames_in (option_map (λ r. r.value) draft.renamed);
  begun = option_map (λ b. b.value) draft.begun;
  used = draft.used.items;
  breaking = draft.breaking;
  flagged = draft.shell.flagged;
}

-- the course of an event in this scene, by this part of its draft, and the limit, the codes and what was printed
abbrev pub held_course : Scene → HeldState → Code → Codes → Bytes → Course
held_course scene held limit codes printed = record {
  parts = record {
    number = scene.shell.now.parts.number;
    directory = unwrap_or held.directory scene.shell.now.parts.directory;
    limit = limit;
    codes = codes;
    settings = changed_settings held.setting scene.shell.now.parts.settings;
  };
  kept = unwrap_or held.kept scene.shell.now.kept;
  shared = version scene.shared.now held.shared;
  seen = seen_shells scene.shells.now;
  printed = printed;
  renamed = held.renamed;
  begun = held.begun;
  used = held.used;
  breaking = held.breaking;
  flagged = held.flagged;
}

-- what a turn in this scene has changed so far, by its draft, as the machine's course
abbrev pub course_of : Scene → Draft → Course
course_of scene draft = held_course scene (held_state draft) draft.shell.limit draft.shell.codes draft.printed.items

-- the draft holds no changed setting: a command changes one at most once
abbrev pub IsUnset : Draft → Type 0
IsUnset draft = draft.shell.setting ≡ None

-- a draft changes nothing of this shell yet, except perhaps its phase and its flag
pub record IsUnchanged (shell : ShellState) (draft : ShellDraft) : Type 0 where
  pub frames_are : drafted_frames shell draft.frames ≡ shell.frames
  pub parts_are : (drafted_shell draft shell).parts ≡ shell.parts
  pub setting_is : draft.setting ≡ None
  pub kept_is : (drafted_shell draft shell).kept ≡ shell.kept

-- a draft changes nothing yet, neither of this shell nor of what all share, except that the shell is flagged as the Bool says
pub record IsFresh (shell : ShellState) (flagged : Bool) (draft : Draft) : Type 0 where
  pub shell_is : IsUnchanged shell draft.shell
  pub flagged_is : draft.shell.flagged ≡ flagged
  pub shared_is : draft.shared ≡ None
  pub renamed_is : renames_in (option_map (λ r. r.value) draft.renamed) ≡ []
  pub begun_is : option_map (λ b. b.value) draft.begun ≡ None
  pub printed_is : draft.printed.items ≡ []
  pub reports_are : draft.reports.items ≡ []
  pub used_are : draft.used.items ≡ []
  pub breaking_is : draft.breaking ≡ None

-- in this scene a turn went on from one draft to another by what the machine's event leaves
pub record GoesOn (scene : Scene) (before after : Draft) (turned : TurnResult) : Type 0 where
  pub frames : frames_of scene after ≡ turned.frames
  pub phase : drafted_phase after.shell ≡ turned.phase
  pub course : course_of scene after ≡ turned.course
  pub reports : after.reports.items ≡ before.reports.items ++ reports_of scene.number turned.log

-- in this scene a turn went on from one draft to another by what this completion does
abbrev pub IsApplied : Scene → Draft → Draft → Completion → Type 0
IsApplied scene before after completion = GoesOn scene before after (turn_of_completion completion (frames_of scene before))

-- in this scene a turn went on from one draft to another by what the code rule leaves
abbrev pub IsRuled : Scene → Draft → Draft → RuleResult → Type 0
IsRuled scene before after settled = GoesOn scene before after (turn_by_rule (course_of scene before) settled)

-- the draft holds what the machine's event leaves of the scene's shell, and the Defers that it used are bound
pub record IsDrafted (scene : Scene) (draft : Draft) (turned : TurnResult) : Type 0 where
  pub shell_is : drafted_shell draft.shell scene.shell.now ≡ shell_of_turn turned
  pub shared_is : version scene.shared.now draft.shared ≡ shared_after_event turned.course
  pub renamed_is : renames_in (option_map (λ r. r.value) draft.renamed) ≡ turned.course.renamed
  pub begun_is : option_map (λ b. b.value) draft.begun ≡ turned.course.begun
  pub breaking_is : draft.breaking ≡ turned.course.breaking
  pub printed_is : draft.printed.items ≡ turned.course.printed
  pub reports_are : draft.reports.items ≡ reports_of scene.number turned.log

-- between two drafts the end of this frame, the script of this name, was reported, and the limit of its beginning restored
pub record IsReported (scene : Scene) (before after : Draft) (name : Text) (frame : FrameState) : Type 0 where
  pub frames : after.shell.frames ≡ before.shell.frames
  pub held : held_state after ≡ held_state before
  pub limit : after.shell.limit ≡ limit_above_frames (frames_of scene before) frame.limit
  pub codes : after.shell.codes ≡ before.shell.codes
  pub printed : after.printed.items ≡ before.printed.items
  pub reports : after.reports.items ≡ before.reports.items ++ report_of scene.number name frame ∷ []

-- between two drafts the end of a command substitution left its line to go on, with its output between the texts `front` and `tail`
pub record IsTicked (scene : Scene) (mid after : Draft) (front tail : Text) : Type 0 where
  pub frames : after.shell.frames ≡ mid.shell.frames
  pub phase : drafted_phase after.shell ≡ GoingOn (record { before = front; output = newest_kept (course_of scene mid).kept; after = tail })
  pub course : course_of scene after ≡ record (course_of scene mid) { kept = drop 1 (course_of scene mid).kept }
  pub reports : after.reports.items ≡ mid.reports.items

-- between two drafts a command of the shell of this number did its work: the second holds what it changed of the shell, the new shared
-- state, if there is one, what it renamed, and which shell it broke
pub record HoldsEffect (number : ℕ) (before after : Draft) (change : Option Change) (shared : Option SharedState) (renamed : List Renamed) (breaking : Option Breaking) : Type 0 where
  pub frames : after.shell.frames ≡ before.shell.frames
  pub parts_are : (shell : ShellState) → (drafted_shell after.shell shell).parts ≡ parts_after_command change (drafted_shell before.shell shell).parts
  pub kept : drafted_outputs after.shell ≡ drafted_outputs before.shell
  pub shared_is : (old : SharedState) → version old after.shared ≡ version (version old before.shared) shared
  pub renamed_is : renames_in (option_map (λ r. r.value) after.renamed) ≡ renamed
  pub breaking_is : after.breaking ≡ breaking
  pub flagged_is : after.shell.flagged ≡ (before.shell.flagged || flags_own number breaking)
  pub begun : option_map (λ b. b.value) after.begun ≡ option_map (λ b. b.value) before.begun
  pub used : after.used.items ≡ before.used.items
  pub printed : after.printed.items ≡ before.printed.items
  pub reports : after.reports.items ≡ before.reports.items

-- between two drafts a shell of this number was drafted, which is to begin with these commands and this output
pub record HasBegun (scene : Scene) (before after : Draft) (number : ℕ) (commands : List Text) (output : Option Target) : Type 0 where
  pub frames : after.shell.frames ≡ before.shell.frames
  pub course : course_of scene after ≡ with_shell_begun number commands output (course_of scene before)
  pub reports : after.reports.items ≡ before.reports.items
