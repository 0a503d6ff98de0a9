use Rattle.std.proofs.Common.{rules, ◌≡◌, IfOk, subst, refl}
use Rattle.ados_readargs.specs.Args.{option_texts}
use Rattle.ados_find.specs.Effects.{Effect, effect_of}
use Rattle.ados_find.specs.Done.{fresh_work, act_on_each, end_effect}
use Rattle.ados_objects.specs.Acts.{at_names}
use Rattle.ados_files.specs.Below.{on_all}
use Rattle.ados_files.specs.Filenote.{note_one, filenote_row}
use Rattle.ados_files.specs.declared.options.TheConstants.{FILENOTE_FILE}
use Rattle.ados_files.proofs.filenote.filenote.Goals as goal

pub returns : goal.returns
returns c =
    let shared = c.args.shared.now in
    let view = c.args.view.now in
    let texts : c.as_slice.result.now ≡ option_texts c.args.args.now FILENOTE_FILE = search rules in
    let all : end_effect (act_on_each (at_names (on_all c.has_switch.result (note_one c.in_ok-comment.comment)) view) (fresh_work shared) c.as_slice.result.now)
    ≡ filenote_row shared view c.args.args.now = rw c.has_switch.ensures (rw c.in_ok-comment.ensures (rw texts refl)) in
    subst (λ (effect : Effect). IfOk c.done_with_named.result (λ outcome. effect_of shared outcome ≡ effect)) all c.done_with_named.ensures
