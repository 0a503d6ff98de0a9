use Rattle.std.proofs.Common.{◌∙◌, ℕ, Option, length, ap}
use Rattle.std.specs.Option.{unwrap_or}
use Rattle.ados_files.proofs.PlainLines.{up_to_newline}
use Rattle.ados_files.proofs.sort_order.line_len.Goals as goal

pub returns-clause-value : goal.returns-clause-value
returns-clause-value c =
    let bytes = c.args.bytes.now in
    c.unwrap_or.ensures ∙ ap (λ (place : Option ℕ). unwrap_or place (length bytes)) c.newline.ensures.place ∙ up_to_newline bytes
