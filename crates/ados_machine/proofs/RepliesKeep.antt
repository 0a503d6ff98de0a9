-- An answer of a launcher keeps the number of its shell, and its parts unless a command answers.
use Rattle.std.proofs.Common.{ℕ, List, Option, Some, None, Result, Ok, Err, refl, inl, inr}
use Rattle.std.proofs.lemmas.Bool.{cases_Bool}
use Rattle.ados_text.specs.declared.codes.Result2.{Result2}
use Rattle.ados_find.specs.declared.codes.Codes.{Codes}
use Rattle.ados_find.specs.Parts.{Parts}
use Rattle.ados_machine.specs.Course.{Course}
use Rattle.ados_machine.specs.Opening.{OpenedOutput, line_output}
use Rattle.ados_machine.specs.Completions.{Completion}
use Rattle.ados_machine.specs.Sinks.{Sink, sink_or}
use Rattle.ados_find.specs.Codes.{went_well}
use Rattle.ados_machine.specs.declared.answers.Answer.{Answer}
use Rattle.ados_machine.specs.declared.answers.Answer.TheVariants.{Started, NotFound, Denied, Memory, Other, «Bytes» as Piece, End, PipeFault, Exit, Signal, WaitFault}
use Rattle.ados_machine.specs.declared.phases.Child.{Child}
use Rattle.ados_machine.specs.Phases.{Phase}
use Rattle.ados_machine.specs.Phases as phase
use Rattle.ados_machine.specs.declared.phases.Starting.{Starting}
use Rattle.ados_machine.specs.declared.phases.Wait.{Wait}
use Rattle.ados_machine.specs.declared.phases.Wait.TheVariants.{ForStart, ForPiece, ForEnd}
use Rattle.ados_machine.specs.Answers.{started_completion, piece_completion, is_piece, ended_completion, answered_completion, answered_in}
use Rattle.ados_machine.proofs.Keeps.{KeepsParts, put-parts}

-- the same of an answer that a shell takes
abbrev pub KeepsIf : Parts → Option Completion → Type 0
KeepsIf parts None = Unit {0}
KeepsIf parts (Some completion) = KeepsParts parts completion

started-keeps : (starting : Starting) (course : Course) (opened : Result OpenedOutput Result2) → KeepsParts course.parts (started_completion starting course opened)
started-keeps starting course (Err fault) = refl
started-keeps starting course (Ok opened) = refl

piece-keeps : (child : Child) (bytes : List ℕ) (sink : Sink) (course : Course) (fault : Option Result2) →
    KeepsParts course.parts (piece_completion child bytes sink course fault)
piece-keeps child bytes sink course (Some fault) = refl
piece-keeps child bytes sink course None = put-parts (sink_or child.output sink) bytes went_well course

ended-keeps : (child : Child) (codes : Codes) (course : Course) (fault : Option Result2) → KeepsParts course.parts (ended_completion child codes course fault)
ended-keeps child codes course None = refl
ended-keeps child codes course (Some fault) = refl

wait-keeps : (sink : Sink) (course : Course) (wait : Wait) (answer : Answer) → KeepsIf course.parts (answered_completion sink course wait answer)
wait-keeps sink course (ForStart starting) Started = started-keeps starting course (line_output course starting.output)
wait-keeps sink course (ForStart starting) NotFound = refl
wait-keeps sink course (ForStart starting) Denied = refl
wait-keeps sink course (ForStart starting) Memory = refl
wait-keeps sink course (ForStart starting) Other = refl
wait-keeps sink course (ForPiece child) (Piece bytes) =
    elim (cases_Bool (is_piece bytes)) [
      | inl e ↦ rw e (piece-keeps child bytes sink course child.fault)
      | inr e ↦ rw e tt
    ]
wait-keeps sink course (ForPiece child) End = refl
wait-keeps sink course (ForPiece child) PipeFault = refl
wait-keeps sink course (ForEnd child) (Exit status) = ended-keeps child _ course child.fault
wait-keeps sink course (ForEnd child) Signal = ended-keeps child _ course child.fault
wait-keeps sink course (ForEnd child) WaitFault = ended-keeps child _ course child.fault
wait-keeps sink course wait answer = tt

pub reply-keeps : (sink : Sink) (course : Course) (now : Phase) (answer : Answer) → KeepsIf course.parts (answered_in sink course now answer)
reply-keeps sink course phase.Ready answer = tt
reply-keeps sink course (phase.GoingOn parted) answer = tt
reply-keeps sink course (phase.Waiting wait) answer = wait-keeps sink course wait answer
