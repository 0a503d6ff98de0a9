use Rattle.std.proofs.Common.{◌∙◌, ◌||◌, ap, string_bytes}
use Rattle.std.specs.Str.{bytes_eq}
use Rattle.ados_share.specs.Records.{has_key}
use Rattle.ados_share.proofs.departures.Departures.add.Goals as goal

pub returns : goal.returns
returns c = λ q.
    c.in_ok-put.ensures q
    ∙ ap (λ m. bytes_eq (string_bytes c.args.key) q || has_key m q) c.note_kind_change.ensures
