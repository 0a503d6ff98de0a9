use Rattle.std.proofs.Common.{arith, ◌∙◌, ◌+◌, ◌*◌, ◌-◌, ◌++◌, List, ℕ, ap, append_assoc}
use Rattle.ados_files.specs.Dumps.{hex_line, hex_lines}
use Rattle.ados_files.proofs.DumpLemmas.{one_line_more}
use Rattle.ados_files.proofs.dumps.+push_hex_lines.Goals as goal

pub returns : goal.returns
returns t c =
    let old = c.args.output.now.items in
    let line = hex_line (c.args.number * 16) c.at_most.result.now in
    let more = hex_lines (c.args.count - 1) (c.args.number + 1) c.without.result.now in
    c.in_ok-push_hex_lines.ensures ∙ ap (λ (out : List ℕ). out ++ more) c.in_ok-push_hex_line.ensures ∙ append_assoc old line more
    ∙ ap (λ (rest : List ℕ). old ++ rest) (one_line_more c.args.count (c.args.count - 1) c.args.number c.at_most.result.now c.without.result.now c.args.bytes.now (omega (arith, c.if-count-eq0.false)) c.at_most.ensures c.without.ensures)
