-- Frames that are kept, and the scripts among them.
use Rattle.std.proofs.Common.{ℕ, zero, suc, ◌-◌, ◌≤◌, ◌≡◌, ◌∙◌, List, [], ◌∷◌, ◌++◌, Option, Some, None, length, drop, reverse, slice_get, refl, ap, sym, arith}
use Rattle.std.specs.List.{filter_map}
use Rattle.std.specs.Option.{option_map}
use Rattle.std.proofs.lemmas.List.{drop_all, reverse-append, take_all}
use Rattle.std.proofs.lemmas.List.Elements.{filter_map-append}
use Rattle.ados_text.specs.Text.{Text}
use Rattle.ados_flow.specs.declared.kinds.FrameKind.{FrameKind}
use Rattle.ados_flow.specs.declared.kinds.FrameKind.TheVariants.{Script, RunCommands, Tick}
use Rattle.ados_flow.specs.Frames.{FrameState, kind_script_line, script_line_of}
use Rattle.amishell_execute.specs.Ends.{kept_after, script_at, script_of}

append-nil : {X : Type 0} (xs : List X) → xs ++ [] ≡ xs
append-nil [] = refl
append-nil (x ∷ xs) = ap (λ l. x ∷ l) (append-nil xs)

-- as many frames as before are the same ones
pub same_kept : (kept frames : List FrameState) → length kept ≡ length frames → kept ≡ kept_after kept frames
same_kept kept frames same =
    sym (ap (λ l. l ++ drop (length kept) frames) (take_all (length frames) kept (omega (arith, same)))
    ∙ ap (λ l. kept ++ l) (drop_all (length kept) frames (omega (arith, same)))
    ∙ append-nil kept)

-- without a frame there is no script
pub no_script : (frames : List FrameState) (newer : ℕ) → length frames ≡ 0 → None ≡ script_at frames newer
no_script [] newer none = refl
no_script (frame ∷ frames) newer some = absurd (omega (arith, some))

listed : Option (List Text) → List (List Text)
listed None = []
listed (Some lines) = lines ∷ []

alone : (frame : FrameState) (found : Option (List Text)) → found ≡ script_of frame → filter_map script_of (frame ∷ []) ≡ listed found
unfolding listed
alone frame None e = rw (sym e) refl
alone frame (Some lines) e = rw (sym e) refl

-- the scripts of some frames and one more, newest first
scripts-behind : (older : List FrameState) (frame : FrameState) (found : Option (List Text)) → found ≡ script_of frame
    → reverse (filter_map script_of (older ++ frame ∷ [])) ≡ reverse (listed found) ++ reverse (filter_map script_of older)
scripts-behind older frame found e =
    ap reverse (filter_map-append script_of older (frame ∷ []))
    ∙ reverse-append (filter_map script_of older) (filter_map script_of (frame ∷ []))
    ∙ ap (λ l. reverse l ++ reverse (filter_map script_of older)) (alone frame found e)

-- the newest frame is the script that is sought
pub newest_script : (older : List FrameState) (frame : FrameState) (lines : List Text) → Some lines ≡ script_of frame
    → Some lines ≡ script_at (older ++ frame ∷ []) 0
unfolding listed
newest_script older frame lines e = sym (ap (λ l. slice_get l 0) (scripts-behind older frame (Some lines) e))

-- it is a newer one
pub older_script : (older : List FrameState) (frame : FrameState) (lines : List Text) (left : ℕ) → Some lines ≡ script_of frame → 1 ≤ left
    → script_at (older ++ frame ∷ []) left ≡ script_at older (left - 1)
unfolding listed
older_script older frame lines zero e some = absurd (omega (arith, some))
older_script older frame lines (suc left) e some =
    let down : suc left - 1 ≡ left = omega arith in
    rw down (ap (λ l. slice_get l (suc left)) (scripts-behind older frame (Some lines) e))

-- it is no script
pub script_below : (older : List FrameState) (frame : FrameState) (left : ℕ) → None ≡ script_of frame
    → script_at (older ++ frame ∷ []) left ≡ script_at older left
unfolding listed
script_below older frame left e = ap (λ l. slice_get l left) (scripts-behind older frame None e)

by-kind : (kind : FrameKind) (frame : FrameState) → frame.kind ≡ kind → option_map (λ here. here.lines) (kind_script_line kind frame) ≡ script_of frame
by-kind (Script name command) frame is = rw is refl
by-kind RunCommands frame is = rw is refl
by-kind (Tick before after) frame is = rw is refl

-- the lines of a frame's line are those of its script
pub called : (frame : FrameState) → option_map (λ here. here.lines) (script_line_of (Some frame)) ≡ script_of frame
called frame = by-kind frame.kind frame refl
