-- The frames of a shell, as a turn changes them.
use Rattle.std.proofs.Common.{◌≡◌, ◌∙◌, ◌++◌, ◌∷◌, [], ◌≤◌, ℕ, zero, length, Some, List, Bool, true, false, ◌||◌, nat_lt, suc, ap, refl, sym}
use Rattle.std.proofs.Common.{arith}
use Rattle.std.proofs.lemmas.Bool.{lt-ltb}
use Rattle.std.specs.Prelude.{if◌then◌else◌}
use Rattle.std.specs.Option.{option_map}
use Rattle.ados_text.specs.declared.codes.Code.{Code}
use Rattle.ados_flow.specs.declared.kinds.FrameKind.{FrameKind}
use Rattle.ados_flow.specs.declared.kinds.FrameKind.TheVariants.{Script, RunCommands, Tick}
use Rattle.ados_flow.specs.Frames.{FrameState, first_limit, is_script, limit_above_frames, limit_above_scripts, script_count, untaken_lines}
use Rattle.ados_machine.specs.Breaks.{has_script}
use Rattle.ados_machine.specs.Sinks.{Console, sink_by, newest_sink}
use Rattle.ados_shell.specs.Stacks.{sink_above, skipped_frames}
use Rattle.ados_shell.specs.Completions.{line_after, lines_left}
use Rattle.ados_machine.specs.Apply.{frames_at_line, lines_of_frame, newest}

-- one is more than none
pub some-run : (scripts : ℕ) → nat_lt 0 (suc scripts) ≡ true
some-run scripts = lt-ltb 0 (suc scripts) (omega arith)

-- at a script's end the limit of its beginning is restored if a script is left
pub limit_is : (frames : List FrameState) (limit : Code) → limit_above_frames frames limit ≡ (if has_script frames then limit else first_limit)
limit_is frames limit = limit-of (script_count frames)
  where
    limit-of : (scripts : ℕ) → limit_above_scripts scripts limit ≡ (if nat_lt 0 scripts then limit else first_limit)
    limit-of zero = refl
    limit-of (suc scripts) = sym (ap (λ b. if b then limit else first_limit) (some-run scripts))

-- a script runs if the newest frame is one, or one runs below it
pub script_first : (frame : FrameState) (frames : List FrameState) → has_script (frame ∷ frames) ≡ (is_script frame.kind || has_script frames)
script_first frame frames = by-kind frame.kind
  where
    by-kind : (kind : FrameKind) → nat_lt 0 (if is_script kind then suc (script_count frames) else script_count frames) ≡ (is_script kind || has_script frames)
    by-kind (Script name command) = some-run (script_count frames)
    by-kind RunCommands = refl
    by-kind (Tick before after) = refl

-- frames and those below them contain a script if either do
pub script_append : (above below : List FrameState) → has_script (above ++ below) ≡ (has_script above || has_script below)
script_append [] below = refl
script_append (frame ∷ above) below =
    script_first frame (above ++ below) ∙ ap (λ b. is_script frame.kind || b) (script_append above below)
    ∙ or-over (is_script frame.kind) (has_script above) (has_script below) ∙ ap (λ b. b || has_script below) (sym (script_first frame above))
  where
    or-over : (a b c : Bool) → (a || (b || c)) ≡ ((a || b) || c)
    or-over true b c = refl
    or-over false b c = refl

-- where the output of frames above others goes
pub sink-append : (above below : List FrameState) → newest_sink (above ++ below) ≡ sink_above above (newest_sink below)
sink-append [] below = refl
sink-append (frame ∷ above) below = ap (sink_by frame.kind frame.output) (sink-append above below)

pub sink-alone : (frames : List FrameState) → sink_above frames Console ≡ newest_sink frames
sink-alone [] = refl
sink-alone (frame ∷ frames) = ap (sink_by frame.kind frame.output) (sink-alone frames)

-- no more lines were taken than are left of the newest frame
pub left-of : (frames : List FrameState) (frame : FrameState) (taken : ℕ) → newest frames ≡ Some frame → taken ≤ length (untaken_lines frame)
    → taken ≤ lines_left (option_map lines_of_frame (newest frames))
left-of [] frame taken e le = absurd cc
left-of (first ∷ frames) frame taken e le = let same : first ≡ frame = cc in rw same le

-- the newest frame goes on at the line after those that were taken
pub skipped-is : (taken : ℕ) (frames : List FrameState) → skipped_frames taken frames ≡ frames_at_line (line_after taken (option_map lines_of_frame (newest frames))) frames
skipped-is taken [] = refl
skipped-is taken (frame ∷ frames) = refl
