use Rattle.std.proofs.Common.{◌≡◌, ◌∙◌, [], Some, ap, rules}
use Rattle.std.proofs.lemmas.Result.{IfOk-weaker}
use Rattle.ados_ram.specs.Place.{key_of}
use Rattle.ados_ram.specs.FileOperations.{rename_fault}
use Rattle.ados_find.specs.Codes.{went_well}
use Rattle.ados_find.specs.Effects.{Effect, codes_effect}
use Rattle.ados_files.proofs.RenameLemmas.{renamed-is}
use Rattle.ados_files.proofs.rename.rename_to_place.Goals as goal

pub returns : goal.returns
returns c =
    let shared = c.args.shared.now in
    let from = c.args.renamed.from in
    let to = c.args.renamed.to in
    let busy : c.args.view.now.busy ≡ c.view.inside.busy = search rules in
    let none = ap (λ b. rename_fault b shared.files (key_of from) (key_of to)) busy ∙ c.in-Ok.ensures.fault in
    IfOk-weaker c.with_renamed.result _ _
    (λ outcome h. h shared
    ∙ ap (λ (e : Effect). record e { renamed = Some c.args.renamed; gathered = [] }) (c.with_shared.ensures shared
    ∙ ap (λ (e : Effect). record e { shared = c.in-Ok.new }) (c.answering-in-Ok.ensures shared)
    ∙ ap (λ s. codes_effect s went_well) c.in-Ok.ensures.ok)
    ∙ renamed-is shared from to _ none)
    c.with_renamed.ensures
