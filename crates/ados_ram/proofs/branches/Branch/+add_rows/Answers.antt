use Rattle.std.proofs.Common.{◌≡◌, ◌∙◌, ◌++◌, ◌∷◌, [], ℕ, List, length, sym, ap, subst, refl, true, Bool, arith}
use Rattle.std.proofs.lemmas.List.{append-nil, map-append}
use Rattle.ados_text.specs.Text.{folded_text}
use Rattle.ados_ram.specs.declared.entries.Entry.{Entry}
use Rattle.ados_ram.specs.Place.{Key, key_of}
use Rattle.ados_ram.specs.Tree.{Kid, AllSubtrees, rows_by_root}
use Rattle.ados_ram.specs.Rows.{inner_rows}
use Rattle.ados_ram.proofs.WalkLemmas.{fewer-in, gathered, rows_in}
use Rattle.ados_ram.proofs.branches.Branch.+add_rows.Goals as goal
use Rattle.ados_ram.proofs.branches.Branch.+add_rows.Goals.{then-all+in_ok-add_rows, else-all}

pub add_rows-requires : goal.add_rows-requires
add_rows-requires t c =
    let own : c.deref-kid-items.result.now ≡ c.self.inside.node.value.kids = c.deref-kid-items.ensures.value ∙ c.in_ok-each.ensures ∙ rw (c.deref.ensures) refl in
    let less = fewer-in c.deref-kid-items.result.now c.loop-kid.kid-index c.kid-item.result c.args.self.now.1 own c.loop-kid-test.true c.kid-item.is (ap (λ (k : Kid). length k.1) c.self.view_is) in
    omega (arith, c.decreases, less)

pub loop-kid-preserved : goal.loop-kid-preserved
loop-kid-preserved t c =
    let key = key_of c.args.place.now in
    let ks = c.deref-kid-items.result.now in
    let k = c.kid-item.result in
    let own : ks ≡ c.self.inside.node.value.kids = c.deref-kid-items.ensures.value ∙ c.in_ok-each.ensures ∙ rw (c.deref.ensures) refl in
    let all : AllSubtrees ks = subst AllSubtrees (sym own) c.self.invariant.all in
    let place : key_of c.in_ok-at.at ≡ key ++ k.0 ∷ [] =
    ap key_of c.in_ok-at.ensures ∙ ap (λ (p : Key). key_of (p ++ c.in_ok-copy-2.field-0 ∷ [])) c.in_ok-copy.ensures ∙ map-append folded_text c.args.place.now (c.in_ok-copy-2.field-0 ∷ [])
    ∙ ap (λ (n : List ℕ). key ++ folded_text n ∷ []) c.in_ok-copy-2.ensures ∙ ap (λ (n : List ℕ). key ++ n ∷ []) c.name.ensures in
    let push : c.push.new.self.items ≡ c.loop-kid.rows.items ++ (key_of c.in_ok-at.at, c.entry.result.now) ∷ [] =
    c.in_ok-push.ensures.items ∙ ap (λ (r : List (List ℕ) × Entry). c.loop-kid.rows.items ++ r ∷ []) (c.new.ensures ∙ ap (λ (p : Key). (key_of p, c.in_ok-copy-4.field-0)) c.in_ok-copy-3.ensures ∙ ap (λ (e : Entry). (key_of c.in_ok-at.at, e)) c.in_ok-copy-4.ensures) in
    let more : c.if-all.rows.items ≡ c.push.new.self.items ++ rows_in c.args.all (key_of c.in_ok-at.at) k.1 =
    elim c.if-all.branch [
      | then-all+in_ok-add_rows w ↦
          let below : w.add_rows.new.rows.items ≡ c.push.new.self.items ++ rows_by_root (key_of c.in_ok-at.at) (inner_rows true [] k.1) = w.in_ok-add_rows.ensures ∙ ap (λ (b : Bool). c.push.new.self.items ++ rows_by_root (key_of c.in_ok-at.at) (inner_rows b [] k.1)) w.if-all.true in
          let is : c.if-all.rows.items ≡ w.add_rows.new.rows.items = ap (λ v. v.items) w.rows-is in
          is ∙ below ∙ ap (λ (b : Bool). c.push.new.self.items ++ rows_in b (key_of c.in_ok-at.at) k.1) (sym w.if-all.true)
      | else-all w ↦ ap (λ v. v.items) w.rows-is ∙ sym (append-nil c.push.new.self.items) ∙ ap (λ (b : Bool). c.push.new.self.items ++ rows_in b (key_of c.in_ok-at.at) k.1) (sym w.if-all.false)
    ] in
    gathered c.args.all key (key_of c.in_ok-at.at) ks c.loop-kid.kid-index k c.entry.result.now c.loop-kid.rows.items c.push.new.self.items c.if-all.rows.items c.loop-kid-test.true c.kid-item.is all c.entry.ensures place push more
    ∙ c.loop-kid.invariant
