use Rattle.std.proofs.Common.{◌∙◌, inr, sym, subst, ap, arith, length}
use Rattle.ados_line.specs.Answers.{Gives}
use Rattle.ados_line.specs.Comment.{without_comment}
use Rattle.ados_line.specs.Cut.{cut_of, expanded_of_cut}
use Rattle.ados_check.specs.Readings.{is_marked}
use Rattle.ados_check.proofs.ReadingLemmas.{long_line, plain_line, text_kept}
use Rattle.ados_check.proofs.readings.read_line.Goals as goal

pub returns-then-bytes-gt-LINE_BYTES : goal.returns-then-bytes-gt-LINE_BYTES
returns-then-bytes-gt-LINE_BYTES c =
    let same = ap length c.as_bytes-bytes.ensures.value in
    λ aliases variables alias. inr (sym (long_line aliases variables c.args.raw.now (omega (arith, same, c.if-bytes-gt-LINE_BYTES.true))))

pub returns : goal.returns
returns c =
    let raw = c.args.raw.now in
    let same = ap length c.as_bytes-bytes.ensures.value in
    let line = c.without_comment-line.ensures ∙ ap without_comment c.as_bytes-bytes.ensures.value in
    let plain = sym (ap is_marked line) ∙ (sym c.is_marked.ensures ∙ c.if-is_marked.false) in
    let text = text_kept raw c.as_bytes-bytes.ensures.ascii in
    let cut = subst (λ l. Gives c.cut_bytes.result (expanded_of_cut (cut_of l))) line c.cut_bytes.ensures in
    λ aliases variables alias. subst (Gives c.cut_bytes.result) (sym (plain_line aliases variables raw (omega (arith, same, c.if-bytes-gt-LINE_BYTES.false)) plain text alias)) cut
