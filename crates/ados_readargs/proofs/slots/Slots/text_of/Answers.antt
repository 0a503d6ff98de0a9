use Rattle.std.proofs.Common.{sym, ◌∙◌, ap, get_or, slice_get, Some, []}
use Rattle.ados_readargs.specs.Args.{option_texts}
use Rattle.ados_readargs.proofs.SlotLemmas.{text-past}
use Rattle.ados_readargs.proofs.slots.Slots.text_of.Goals as goal

pub returns-else-number-to-clause-value : goal.returns-else-number-to-clause-value
returns-else-number-to-clause-value c =
    sym (ap (λ args. get_or (option_texts args c.args.place) c.args.number []) (sym c.self.view_is)
    ∙ text-past c.self.inside.texts c.self.inside.slots.items c.args.place c.args.number c.in-Some-Many.from c.in-Some-Many.to (ap (λ slots. slice_get slots c.args.place) (sym c.as_slice.ensures.value) ∙ sym c.slot_at.ensures ∙ c.in-Some-Many.is ∙ ap Some c.in-Some-Many.field-0-is) c.if-number-to.false)
