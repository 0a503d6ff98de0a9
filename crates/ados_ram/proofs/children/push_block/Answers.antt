use Rattle.std.proofs.Common.{rules, ◌≡◌, ℕ, ◌<◌, ◌++◌, ◌∷◌, ◌∙◌, [], length, take, drop, ap, sym, subst, append_assoc}
use Rattle.std.proofs.lemmas.List.{append-nil, take-append-drop}
use Rattle.ados_ram.specs.Tree.{Kids}
use Rattle.ados_ram.specs.Blocks.{all_kids, AllFull}
use Rattle.ados_ram.proofs.BlockLemmas.{all-append, full-append}
use Rattle.ados_ram.proofs.children.push_block.Goals as goal

rejoined : (n : ℕ) (low high kids : Kids) → low ≡ take n kids → high ≡ drop n kids → low ++ high ≡ kids
rejoined n low high kids front back = ap (λ (ks : Kids). ks ++ high) front ∙ ap (λ (ks : Kids). take n kids ++ ks) back ∙ take-append-drop n kids

pub returns-then-len-limit-clause-kids : goal.returns-then-len-limit-clause-kids
returns-then-len-limit-clause-kids c =
    let old = all_kids c.args.out.now.items in
    let low = c.in_ok-new.field-0 in
    let high = c.in_ok-new-2.field-0 in
    let first : all_kids c.push.new.self.items ≡ old ++ low =
    ap all_kids c.in_ok-push.ensures.items ∙ all-append c.args.out.now.items (low ∷ []) ∙ ap (λ (ks : Kids). old ++ ks) (append-nil low) in
    let whole : low ++ high ≡ c.args.kids.items =
    rejoined _ low high c.args.kids.items (c.in_ok-new.ensures ∙ c.in_ok-upper.ensures.items) (c.in_ok-new-2.ensures ∙ c.in_ok-upper.ensures.tail) in
    ap all_kids c.in_ok-push-2.ensures.items ∙ all-append c.push.new.self.items (high ∷ []) ∙ ap (λ (ks : Kids). all_kids c.push.new.self.items ++ ks) (append-nil high)
    ∙ ap (λ (ks : Kids). ks ++ high) first ∙ append_assoc old low high ∙ ap (λ (ks : Kids). old ++ ks) whole

pub returns-then-len-limit-clause-full : goal.returns-then-len-limit-clause-full
returns-then-len-limit-clause-full c =
    let low = c.in_ok-new.field-0 in
    let high = c.in_ok-new-2.field-0 in
    let lower : length low ≡ length c.split_off.new.self.items = ap length c.in_ok-new.ensures in
    let upper : length high ≡ length c.in_ok-upper.upper.items = ap length c.in_ok-new-2.ensures in
    let some : 0 < length low = search rules in
    let more : 0 < length high = search rules in
    let first : AllFull c.push.new.self.items = subst AllFull (sym c.in_ok-push.ensures.items) (full-append c.args.out.now.items (low ∷ []) c.requires (some, tt)) in
    subst AllFull (sym c.in_ok-push-2.ensures.items) (full-append c.push.new.self.items (high ∷ []) first (more, tt))

pub returns-clause-kids : goal.returns-clause-kids
returns-clause-kids c =
    let old = all_kids c.args.out.now.items in
    let block = c.in_ok-new-3.field-0 in
    ap all_kids c.in_ok-push-3.ensures.items ∙ all-append c.args.out.now.items (block ∷ []) ∙ ap (λ (ks : Kids). old ++ ks) (append-nil block) ∙ ap (λ (ks : Kids). old ++ ks) c.in_ok-new-3.ensures

pub returns-clause-full : goal.returns-clause-full
returns-clause-full c =
    let size : length c.in_ok-new-3.field-0 ≡ length c.args.kids.items = ap length c.in_ok-new-3.ensures in
    let some : 0 < length c.in_ok-new-3.field-0 = search rules in
    subst AllFull (sym c.in_ok-push-3.ensures.items) (full-append c.args.out.now.items (c.in_ok-new-3.field-0 ∷ []) c.requires (some, tt))
