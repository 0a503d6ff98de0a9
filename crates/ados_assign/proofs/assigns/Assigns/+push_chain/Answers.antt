use Rattle.std.proofs.Common.{◌≡◌, ◌∙◌, ◌-◌, ◌++◌, ◌∷◌, [], sym, ap, subst, append_assoc, arith, List, Option, Some, OnOk}
use Rattle.std.specs.FinMap as map
use Rattle.ados_text.specs.Text.{Text, folded_text}
use Rattle.ados_assign.specs.Uses.{chain, chain_rest, assign_device}
use Rattle.ados_assign.proofs.UsesLemmas.{chain_after}
use Rattle.ados_assign.proofs.assigns.Assigns.+push_chain.Goals as goal

pub returns-in-Some : goal.returns-in-Some
returns-in-Some t c =
    let further = chain (c.args.more - 1) c.args.self.now c.in-Some.next in
    let next : assign_device (map.get c.args.self.now (folded_text c.args.device)) ≡ Some c.in-Some.next = sym c.in_ok-next.ensures ∙ c.in-Some.is in
    let whole : chain c.args.more c.args.self.now c.args.device ≡ c.args.device ∷ further =
    chain_after c.args.more c.args.self.now c.args.device (omega (arith, c.if-more-eq0.false))
    ∙ ap (λ (o : Option Text). c.args.device ∷ chain_rest (chain (c.args.more - 1) c.args.self.now) o) next in
    subst (λ (devices : List Text). OnOk c.push_chain.result (c.push_chain.new.used.items ≡ devices))
    (ap (λ (devices : List Text). devices ++ further) c.in_ok-push.ensures.items
    ∙ append_assoc c.args.used.now.items (c.args.device ∷ []) further
    ∙ ap (λ (devices : List Text). c.args.used.now.items ++ devices) (sym whole))
    c.push_chain.ensures
