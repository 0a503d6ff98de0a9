use Rattle.std.proofs.Common.{rules, ◌≡◌, ◌==◌, ◌∙◌, ℕ, ap, sym, length}
use Rattle.ados_ram.specs.Tree.{Kids}
use Rattle.ados_ram.proofs.BlockLemmas.{none-in}
use Rattle.ados_ram.proofs.children.Children.is_empty.Goals as goal

pub returns : goal.returns
returns c =
    let size : c.self.inside.blocks.len ≡ length c.self.inside.blocks.items = search rules in
    c.is_empty.ensures ∙ ap (λ (n : ℕ). n == 0) size ∙ sym (none-in c.self.inside.blocks.items c.self.invariant.full) ∙ ap (λ (ks : Kids). length ks == 0) c.self.view_is
