use Rattle.std.proofs.Common.{◌≡◌, ℕ, suc, ◌-◌, ◌∙◌, Bool, true, false, List, length, arith, ap, sym}
use Rattle.std.specs.Prelude.{if◌then◌else◌}
use Rattle.ados_items.specs.Items.{item_at}
use Rattle.ados_items.specs.declared.items.Item.{Item}
use Rattle.ados_machine.specs.Prompts.{is_last_query, last_query_by_item, last_query_from}
use Rattle.ados_shell.proofs.inputs.last_query.Goals as goal
use Rattle.ados_shell.proofs.inputs.last_query.Goals.{in-Word+else-is_last_query, in-Quoted, in-Equal}

-- one step, by the item that was found
by-item : (n : ℕ) (args : List ℕ) (place : ℕ) (item : Item) → item ≡ item_at true args place
    → last_query_from (suc n) args place ≡ last_query_by_item (λ to. last_query_from n args to) args item
by-item n args place item e = ap (λ it. last_query_by_item (λ to. last_query_from n args to) args it) (sym e)

if-is : {X : Type 0} (b c : Bool) (x y : X) → b ≡ c → (if b then x else y) ≡ (if c then x else y)
if-is b c x y e = ap (λ t. if t then x else y) e

pub returns-then-is_last_query : goal.returns-then-is_last_query
returns-then-is_last_query c =
    let n = length c.args.args.now - c.loop-step.step in
    sym (c.loop-step.invariant (suc n) (omega arith) ∙ by-item n c.args.args.now c.loop-step.place _ c.in-Word.ensures.value
    ∙ if-is _ true _ _ (sym c.is_last_query.ensures ∙ c.if-is_last_query.true))

pub returns-in-End : goal.returns-in-End
returns-in-End c =
    let n = length c.args.args.now - c.loop-step.step in
    sym (c.loop-step.invariant (suc n) (omega arith) ∙ by-item n c.args.args.now c.loop-step.place _ c.in-End.ensures.value)

pub returns-in-Unmatched : goal.returns-in-Unmatched
returns-in-Unmatched c =
    let n = length c.args.args.now - c.loop-step.step in
    sym (c.loop-step.invariant (suc n) (omega arith) ∙ by-item n c.args.args.now c.loop-step.place _ c.in-Unmatched.ensures.value)

pub loop-step-preserved : goal.loop-step-preserved
loop-step-preserved c = λ n h.
    let args = c.args.args.now in
    let here = c.loop-step.invariant (suc n) (omega arith) in
    elim c.match-next_item.branch [
      | in-Word+else-is_last_query w ↦
          here ∙ by-item n args c.loop-step.place _ w.in-Word.ensures.value ∙ if-is _ false _ _ (sym w.is_last_query.ensures ∙ w.if-is_last_query.false)
          ∙ ap (λ p. last_query_from n args p) (sym w.place-is)
      | in-Quoted w ↦
          here ∙ by-item n args c.loop-step.place _ w.in-Quoted.ensures.value ∙ ap (λ p. last_query_from n args p) (sym w.place-is)
      | in-Equal w ↦
          here ∙ by-item n args c.loop-step.place _ w.in-Equal.ensures.value ∙ ap (λ p. last_query_from n args p) (sym w.place-is)
    ]

pub returns : goal.returns
returns c = sym (c.loop-step.invariant 0 (omega (arith, c.loop-step-test.false)))
