use Rattle.std.proofs.Common.{rules, ◌≡◌, ◌∙◌, Result, Ok, IfOk, ap, sym, subst, refl}
use Rattle.ados_text.specs.declared.codes.Result2.{Result2}
use Rattle.ados_readargs.specs.Args.{has_switch, option_text, option_texts}
use Rattle.ados_find.specs.Effects.{Effect, effect_of}
use Rattle.ados_find.specs.Done.{fresh_work, act_on_each, end_effect}
use Rattle.ados_objects.specs.Acts.{at_names}
use Rattle.ados_files.specs.Texts.{text_or_empty}
use Rattle.ados_files.specs.Below.{on_all}
use Rattle.ados_files.specs.Protect.{change_of, protect_one, protect_texts}
use Rattle.ados_files.specs.declared.protect.Change.{Change}
use Rattle.ados_files.specs.declared.options.TheConstants.{PROTECT_FILE, PROTECT_FLAGS, PROTECT_ADD, PROTECT_SUB, PROTECT_ALL}
use Rattle.ados_files.proofs.protect.protect.Goals as goal

pub returns : goal.returns
returns c =
    let shared = c.args.shared.now in
    let view = c.args.view.now in
    let args = c.args.args.now in
    let texts : c.as_slice.result.now ≡ option_texts args PROTECT_FILE = search rules in
    let change : change_of (text_or_empty (option_text args PROTECT_FLAGS)) (has_switch args PROTECT_ADD) (has_switch args PROTECT_SUB) ≡ Ok c.in-Ok.change = search rules in
    let all : end_effect (act_on_each (at_names (on_all c.has_switch-in-Ok.result (protect_one c.in-Ok.change)) view) (fresh_work shared) c.as_slice.result.now)
    ≡ protect_texts shared view (has_switch args PROTECT_ALL) (Ok c.in-Ok.change) (option_texts args PROTECT_FILE) = rw c.has_switch-in-Ok.ensures (rw texts refl) in
    let row = ap (λ (it : Result Change Result2). protect_texts shared view (has_switch args PROTECT_ALL) it (option_texts args PROTECT_FILE)) (sym change) in
    subst (λ (effect : Effect). IfOk c.done_with_named.result (λ outcome. effect_of shared outcome ≡ effect)) (all ∙ row) c.done_with_named.ensures
