use Rattle.std.proofs.Common.{◌≡◌, ◌∙◌, ◌-◌, ap, sym, subst, Some, None, List, ℕ, length, take, arith}
use Rattle.std.specs.List.{position}
use Rattle.ados_names.specs.Names.{is_colon}
use Rattle.ados_names.specs.Path.{IsPath, parts_by_colon}
use Rattle.ados_names.specs.declared.steps.Step.{Step}
use Rattle.ados_names.proofs.PathLemmas.{read-path}
use Rattle.ados_names.proofs.paths.read.Goals as goal

pub invariant_of-result : goal.invariant_of-result
invariant_of-result c =
    let text = c.args.text.now in
    let place = c.in-None.ensures.place ∙ ap (position is_colon) c.as_bytes.ensures.value in
    subst (λ (s : List Step). IsPath record { device = None; steps = s }) (sym c.in_ok-steps-in-None.ensures)
    (read-path text None c.requires.parts c.requires.fits place tt)

pub invariant_of-result-in-Some : goal.invariant_of-result-in-Some
invariant_of-result-in-Some c =
    let text = c.args.text.now in
    let colon = c.in-Some.place in
    let place = c.in-Some.ensures.place ∙ ap (position is_colon) c.as_bytes.ensures.value in
    let zero : colon - 0 ≡ colon = omega arith in
    let device : c.in_ok-part-in-Some.field-0 ≡ take colon text = c.in_ok-part-in-Some.ensures ∙ ap (λ n. take n text) zero in
    let parts : parts_by_colon text (Some colon) ≡ record { device = Some c.in_ok-part-in-Some.field-0; steps = c.in_ok-steps-in-Some.field-0.items } =
    ap (λ (d : List ℕ). record { device = Some d; steps = (parts_by_colon text (Some colon)).steps }) (sym device)
    ∙ ap (λ (s : List Step). record { device = Some c.in_ok-part-in-Some.field-0; steps = s }) (sym c.in_ok-steps-in-Some.ensures) in
    subst IsPath parts (read-path text (Some colon) c.requires.parts c.requires.fits place (omega (arith, c.in-Some.ensures.within, ap (λ (t : List ℕ). length t) c.as_bytes.ensures.value)))
