use Rattle.std.proofs.Common.{◌≡◌, ◌∙◌, ℕ, List, IfOk, ap, subst}
use Rattle.ados_text.specs.Stop.{Answers}
use Rattle.ados_ram.specs.Files.{Files}
use Rattle.ados_ram.specs.Place.{key_of, last_name}
use Rattle.ados_ram.specs.InUse.{is_output}
use Rattle.ados_ram.specs.FileOperations.{write_of, write_fault}
use Rattle.ados_ram.specs.declared.limits.Limits.{Limits}
use Rattle.ados_find.specs.Effects.{effect_of}
use Rattle.ados_find.specs.Shared.{SharedState, limits_of}
use Rattle.ados_find.specs.Views.{View}
use Rattle.ados_find.proofs.output_file.output_at.Goals as goal

-- what was written is the output, in the files as the command left them
pub returns : goal.returns
returns c =
    let key = key_of c.args.place.now in
    let name = last_name c.args.place.now in
    let busy = is_output c.args.view.now.busy key in
    let state = (effect_of c.args.shared.now c.args.outcome).shared in
    let bytes = c.as_bytes-bytes.result.now in
    let limits = limits_of state.dialect in
    c.output_in.ensures (write_fault limits busy state.files key name c.args.outcome.output) (write_of state.files key name c.args.outcome.output)
    (subst (λ (b : List ℕ). Answers c.write-change.result (write_fault limits busy state.files key name b)) c.as_bytes-bytes.ensures
    (subst (λ (s : SharedState). Answers c.write-change.result (write_fault limits busy s.files key name bytes)) (c.old.view_is ∙ c.current-old.ensures)
    (subst (λ (v : View). Answers c.write-change.result (write_fault limits (is_output v.busy key) c.old.inside.ram key name bytes)) c.view.view_is
    (subst (λ (l : Limits). Answers c.write-change.result (write_fault l (is_output c.view.inside.busy key) c.old.inside.ram key name bytes)) (c.limits-limits.ensures ∙ ap (λ s. limits_of s.dialect) c.current-old.ensures) c.write-change.ensures.fault))))
    (subst (λ (b : List ℕ). IfOk c.write-change.result (λ (new : Files). new ≡ write_of state.files key name b)) c.as_bytes-bytes.ensures
    (subst (λ (s : SharedState). IfOk c.write-change.result (λ (new : Files). new ≡ write_of s.files key name bytes)) (c.old.view_is ∙ c.current-old.ensures) c.write-change.ensures.ok))
