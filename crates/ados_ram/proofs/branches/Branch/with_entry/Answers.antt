use Rattle.std.proofs.Common.{◌≡◌, ◌∙◌, sym, ap, subst, refl}
use Rattle.ados_ram.specs.Files.{Rows}
use Rattle.ados_ram.specs.Tree.{Kid, Kids, IsEntryAt, rows_of}
use Rattle.ados_ram.proofs.ChangeLemmas.{if_ok, entry_at}
use Rattle.ados_ram.proofs.branches.Branch.with_entry.Goals as goal

pub returns-clause-rows : goal.returns-clause-rows
returns-clause-rows c =
    let kids : c.in_ok-share.field-0 ≡ c.self.inside.node.value.kids = c.in_ok-share.ensures ∙ rw (c.deref.ensures) refl in
    let old : IsEntryAt c.args.entry c.args.self.now.1 (rows_of c.args.entry c.in_ok-share.field-0) =
    subst (λ (ks : Kids). IsEntryAt c.args.entry c.args.self.now.1 (rows_of c.args.entry ks)) (sym kids)
    (subst (λ (r : Rows). IsEntryAt c.args.entry r (rows_of c.args.entry c.self.inside.node.value.kids)) (ap (λ (k : Kid). k.1) c.self.view_is)
    (entry_at c.args.entry c.self.inside.node.value.head.value.entry c.self.inside.node.value.kids c.self.invariant)) in
    if_ok c.new.result (λ b is. subst (λ (r : Rows). IsEntryAt c.args.entry c.args.self.now.1 r) (sym (ap (λ (k : Kid). k.1) is)) old) c.new.ensures
