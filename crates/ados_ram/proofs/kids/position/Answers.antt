use Rattle.std.proofs.Common.{rules}
use Rattle.std.proofs.lemmas.Fn.{always_returns_same}
use Rattle.ados_text.specs.Text.{folded_text}
use Rattle.ados_text.specs.Name.{name_cmp}
use Rattle.ados_ram.proofs.KidLemmas.{searched}
use Rattle.ados_ram.proofs.kids.position.Goals as goal

pub returns : goal.returns
returns c =
    let facts = c.binary_search_by.ensures in
    searched (folded_text c.args.name.now) c.args.kids.now c.binary_search_by.result c.requires facts.bound (facts.position (λ kid. name_cmp kid.0 (folded_text c.args.name.now)) (always_returns_same _ _ _ (λ a r g called. (search rules, search rules))))
