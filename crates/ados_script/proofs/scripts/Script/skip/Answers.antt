use Rattle.std.proofs.Common.{◌≡◌, ℕ, List, Bor, cond, refl}
use Rattle.std.specs.Option.{option_map}
use Rattle.ados_script.proofs.SkipLemmas.{found-within, leads_first, skip-is, small}
use Rattle.ados_script.proofs.scripts.Script.skip.Goals as goal
use Rattle.ados_script.proofs.scripts.Script.skip.Goals.{then-back, else-back}

pub jump_past_first-requires-clause-lab : goal.jump_past_first-requires-clause-lab
jump_past_first-requires-clause-lab c =
    small c.args.self.now c.first_lab.result c.first_end_skip.ensures.few (found-within _ c.args.self.now c.if-back.start c.first_lab.result c.first_lab.ensures)

pub jump_past_first-requires-clause-end_skip : goal.jump_past_first-requires-clause-end_skip
jump_past_first-requires-clause-end_skip c =
    small c.args.self.now c.first_end_skip.result c.first_end_skip.ensures.few (found-within _ c.args.self.now c.if-back.start c.first_end_skip.result c.first_end_skip.ensures.first)

pub returns-clause-jump : goal.returns-clause-jump
returns-clause-jump c =
    let start : c.if-back.start ≡ cond c.args.back 0 c.args.i = elim c.if-back.branch [
      | then-back w ↦ rw (w.if-back.true, w.start-is) refl
      | else-back w ↦ rw (w.if-back.false, w.start-is) refl
    ] in
    rw (← start, c.jump_past_first.ensures) (skip-is {dialect = c.args.dialect} {label = option_map (λ (t : Bor (List ℕ)). t.now) c.args.label} {lines = c.args.self.now} {i = c.if-back.start} (record { lab_is = c.first_lab.ensures; end_is = c.first_end_skip.ensures.first }))

pub returns-clause-within : goal.returns-clause-within
returns-clause-within c =
    rw c.jump_past_first.ensures
    (leads_first c.args.self.now c.first_lab.result c.first_end_skip.result
    (found-within _ c.args.self.now c.if-back.start c.first_lab.result c.first_lab.ensures)
    (found-within _ c.args.self.now c.if-back.start c.first_end_skip.result c.first_end_skip.ensures.first))
