-- The Defers that a plain command used are bound.
use Rattle.std.proofs.Common.{◌≡◌, ◌⊎◌, ◌∙◌, sym, List, [], ◌∷◌, refl, ap, inl, inr}
use Rattle.std.specs.FinMap as map
use Rattle.ados_text.specs.Text.{Text, Bytes}
use Rattle.ados_ram.specs.Files.{Files}
use Rattle.ados_assign.specs.Assigns.{AssignMap}
use Rattle.ados_assign.specs.Uses.{with_assigns_bound, with_used_defers_bound}
use Rattle.ados_assign.specs.declared.assigns.Assign.{Assign}
use Rattle.ados_find.specs.declared.codes.Codes.{Codes}
use Rattle.ados_find.specs.Shared.{SharedState}
use Rattle.ados_find.specs.declared.targets.Target.TheVariants.{Nil, At}
use Rattle.ados_machine.specs.Apply.{turn_of_completion}
use Rattle.ados_machine.specs.Bound.{UsedDefersAreBound}
use Rattle.ados_machine.specs.Course.{Course, put, shared_after_event}
use Rattle.ados_machine.specs.Lines.{with_effect, put_completion}
use Rattle.ados_machine.specs.Next.{frames_at}
use Rattle.ados_machine.specs.Sinks.{Sink, Console, Kept, To, newest_sink}
use Rattle.ados_machine.specs.Step.{Accepted, turn_taken, start, course_without_flag}
use Rattle.ados_machine.specs.Uses.{shared_with_bound}
use Rattle.ados_machine.proofs.PlainLemmas.{effect-turns}

-- nothing is bound if nothing was used
none-bound : (files : Files) (assigns : AssignMap) (rows : List Assign) → with_assigns_bound files [] assigns rows ≡ assigns
none-bound files assigns [] = refl
none-bound files assigns (a ∷ rest) = none-bound files assigns rest

bound-by : (used : List Text) (shared : SharedState) → (shared_with_bound used shared).assigns ≡ with_used_defers_bound used shared.files shared.assigns
bound-by [] shared = sym (none-bound shared.files shared.assigns (map.values shared.assigns))
bound-by (device ∷ used) shared = refl

quiet-shared : (sink : Sink) (answered : Codes) (course : Course) → shared_after_event (put sink [] answered course).course ≡ shared_after_event course
quiet-shared Console answered course = refl
quiet-shared Kept answered course = refl
quiet-shared (To Nil) answered course = refl
quiet-shared (To (At place)) answered course = refl

put-shared : (sink : Sink) (output : Bytes) (answered : Codes) (course : Course) → (output ≡ []) ⊎ (sink ≡ Console) →
    shared_after_event (put sink output answered course).course ≡ shared_after_event course
put-shared sink output answered course (inl none) = rw none (quiet-shared sink answered course)
put-shared sink output answered course (inr console) = rw console refl

pub used-defers-bound : UsedDefersAreBound
used-defers-bound w k shell line effect world out items takes where_to accepted =
    let turn = effect-turns w k shell line effect takes in
    let course : Course = with_effect effect (record (course_without_flag (start w shell)) { used = turn.used }) in
    let done = put (newest_sink (frames_at shell)) effect.output effect.codes course in
    let t = turn_of_completion (put_completion line.command done) (frames_at shell) in
    let same : turn_taken w k turn.queue t ≡ Accepted world out items = sym turn.does ∙ accepted in
    let shared : world.shared ≡ shared_after_event t.course = cc in
    ap (λ s. s.assigns) (shared ∙ put-shared (newest_sink (frames_at shell)) effect.output effect.codes course where_to)
    ∙ (bound-by turn.used effect.shared ∙ ap (λ used. with_used_defers_bound used effect.shared.files effect.shared.assigns) turn.used_is)
