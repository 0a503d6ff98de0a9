use Rattle.std.proofs.Common.{◌≡◌, ◌∙◌, ◌++◌, ◌∷◌, [], ℕ, List, length, sym, ap, subst, refl, arith}
use Rattle.ados_ram.specs.Place.{Key}
use Rattle.ados_ram.specs.Tree.{Kid, AreKids}
use Rattle.ados_ram.proofs.WalkLemmas.{fewer-in}
use Rattle.ados_ram.proofs.BelowLemmas.{gone_through}
use Rattle.ados_ram.proofs.branches.Branch.+add_contents.Goals as goal

pub add_contents-requires : goal.add_contents-requires
add_contents-requires t c =
    let own : c.deref-kid-items.result.now ≡ c.self.inside.node.value.kids = c.deref-kid-items.ensures.value ∙ c.in_ok-each.ensures ∙ rw (c.deref.ensures) refl in
    let less = fewer-in c.deref-kid-items.result.now c.loop-kid.kid-index c.kid-item.result c.args.self.now.1 own c.loop-kid-test.true c.kid-item.is (ap (λ (k : Kid). length k.1) c.self.view_is) in
    omega (arith, c.decreases, less)

pub loop-kid-preserved : goal.loop-kid-preserved
loop-kid-preserved t c =
    let ks = c.deref-kid-items.result.now in
    let k = c.kid-item.result in
    let own : ks ≡ c.self.inside.node.value.kids = c.deref-kid-items.ensures.value ∙ c.in_ok-each.ensures ∙ rw (c.deref.ensures) refl in
    let are : AreKids ks = subst AreKids (sym own) c.self.invariant in
    let place : c.in_ok-at.at ≡ c.args.place.now ++ k.0 ∷ [] =
    c.in_ok-at.ensures ∙ ap (λ (p : Key). p ++ c.in_ok-name.name ∷ []) c.in_ok-copy.ensures ∙ ap (λ (n : List ℕ). c.args.place.now ++ n ∷ []) (c.in_ok-name.ensures ∙ c.name.ensures) in
    gone_through c.args.place.now c.in_ok-at.at ks c.loop-kid.kid-index k c.loop-kid.places.items c.add_contents.new.places.items c.push.new.self.items c.loop-kid-test.true c.kid-item.is are place c.in_ok-add_contents.ensures c.in_ok-push.ensures.items
    ∙ c.loop-kid.invariant
