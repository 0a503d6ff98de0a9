use Rattle.std.proofs.Common.{rules, ◌≡◌, sym, ap, ◌∙◌, true}
use Rattle.std.specs.Cmp.{tied_itself}
use Rattle.std.specs.Str.{bytes_eq}
use Rattle.std.proofs.lemmas.Slice.Eq.{bytes_eq-Decides}
use Rattle.ados_text.specs.Text.{folded_text}
use Rattle.ados_text.specs.Name.{name_cmp, name_cmp_total}
use Rattle.ados_ram.proofs.kids.order.Goals as goal

pub returns-then-eq : goal.returns-then-eq
returns-then-eq c =
    let name = folded_text c.args.name.now in
    let same : bytes_eq c.text.result.now c.text-2.result.now ≡ true = search rules in
    let alike : c.args.kid.now.0 ≡ name = sym c.name.ensures ∙ ap folded_text (sym c.text.ensures ∙ (bytes_eq-Decides _ _).0 same ∙ c.text-2.ensures) in
    sym (ap (λ n. name_cmp n name) alike ∙ tied_itself name_cmp_total name)
