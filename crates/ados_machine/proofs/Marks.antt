-- What does not see the mark of a program is the same at a shell that a break marks.
use Rattle.std.proofs.Common.{◌≡◌, Bool, true, false, Option, Some, None, refl}
use Rattle.std.proofs.lemmas.Bool.{cond_both}
use Rattle.ados_text.specs.declared.codes.Result2.{Result2}
use Rattle.ados_text.specs.declared.codes.TheConstants.Result2.{BREAK}
use Rattle.ados_machine.specs.Answers.{child_after_piece, next_wait, with_break, with_fault}
use Rattle.ados_machine.specs.Breaks.{marked_if}
use Rattle.ados_machine.specs.Phases.{Phase, Ready, GoingOn, Waiting}
use Rattle.ados_machine.specs.declared.phases.Child.{Child}
use Rattle.ados_machine.specs.declared.phases.Starting.{Starting}
use Rattle.ados_machine.specs.declared.phases.Wait.{Wait}
use Rattle.ados_machine.specs.declared.phases.Wait.TheVariants.{ForAnswer, ForLines, ForStart, ForPiece, ForEnd}

pub marked-same : {X : Type 0} (seen : Phase → X) →
    ((starting : Starting) → seen (Waiting (ForStart (record starting { marked = true }))) ≡ seen (Waiting (ForStart starting))) →
    ((child : Child) → seen (Waiting (ForPiece (record child { marked = true }))) ≡ seen (Waiting (ForPiece child))) →
    (marks : Bool) (now : Phase) → seen (marked_if marks now) ≡ seen now
marked-same seen start piece false now = refl
marked-same seen start piece true Ready = refl
marked-same seen start piece true (GoingOn parted) = refl
marked-same seen start piece true (Waiting (ForAnswer asking)) = refl
marked-same seen start piece true (Waiting (ForLines gathering)) = refl
marked-same seen start piece true (Waiting (ForStart starting)) = start starting
marked-same seen start piece true (Waiting (ForPiece child)) = piece child
marked-same seen start piece true (Waiting (ForEnd child)) = refl

-- a program waits for its end if it is marked, and else for its next piece
pub next-same : {X : Type 0} (seen : Wait → X) (child : Child) (now : X) → (child.marked ≡ true → seen (ForEnd child) ≡ now) → (child.marked ≡ false → seen (ForPiece child) ≡ now) →
    seen (next_wait child) ≡ now
next-same seen child now end piece = cond_both child.marked (ForEnd child) (ForPiece child) (λ wait. seen wait ≡ now) end piece

-- a break, and a piece of its output, give a program at most a fault
pub break-same : {X : Type 0} (seen : Child → X) (child : Child) → ((fault : Result2) → seen (with_fault child fault) ≡ seen child) → seen (with_break child) ≡ seen child
break-same seen child same = cond_both child.marked (with_fault child BREAK) child (λ now. seen now ≡ seen child) (λ e. same BREAK) (λ e. refl)

pub piece-same : {X : Type 0} (seen : Child → X) (child : Child) (fault : Option Result2) → ((fault : Result2) → seen (with_fault child fault) ≡ seen child) →
    seen (child_after_piece child fault) ≡ seen child
piece-same seen child None same = refl
piece-same seen child (Some fault) same = same fault
