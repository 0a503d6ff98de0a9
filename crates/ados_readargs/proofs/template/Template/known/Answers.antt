use Rattle.std.proofs.Common.{◌∙◌, ap}
use Rattle.std.specs.Prelude.{map}
use Rattle.ados_text.specs.Text.{to_ascii}
use Rattle.ados_readargs.proofs.FaultLemmas.{only_memory}
use Rattle.ados_readargs.proofs.template.Template.known.Goals as goal

pub unreachable-requires : goal.unreachable-requires
unreachable-requires c =
    only_memory c.args.text.now c.in-Err.fault c.requires.template
    (rw (c.in_ok-text.ensures ∙ ap (map to_ascii) c.as_bytes.ensures.value ∙ c.requires.ascii) at c.in-Err.ensures.bad)
    c.in_default.not-NoMemory
