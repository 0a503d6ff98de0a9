use Rattle.std.proofs.Common.{◌≡◌, ◌==◌, ◌∙◌, [], not, sym, ap, length, refl}
use Rattle.ados_ram.specs.FileOperations.{has_descendants}
use Rattle.ados_ram.specs.Tree.{Kid}
use Rattle.ados_ram.proofs.WalkLemmas.{any-in}
use Rattle.ados_ram.proofs.branches.Branch.is_parent.Goals as goal

pub returns : goal.returns
returns c =
    let own : has_descendants [] c.args.self.now.1 ≡ not (length c.self.inside.node.value.kids == 0) = ap (λ (k : Kid). has_descendants [] k.1) (sym c.self.view_is) ∙ any-in c.self.inside.node.value.head.value.entry c.self.inside.node.value.kids c.self.invariant.all in
    let empty : c.is_empty.result ≡ (length c.self.inside.node.value.kids == 0) = c.is_empty.ensures ∙ rw (c.deref.ensures) refl in
    ap not empty ∙ sym own
