use Rattle.ados_transfer.proofs.WordLemmas.{line_reads, line_item}
use Rattle.ados_transfer.proofs.words.push_word.Goals as goal

pub returns-clause-reads : goal.returns-clause-reads
returns-clause-reads c =
    line_reads c.push_written.result c.args.quotes c.args.line.now c.push.new.self c.args.text.now c.push_written.new.line
    c.push_written.ensures.text c.in_ok-push.ensures.ok c.push_written.ensures.line

pub returns-clause-item : goal.returns-clause-item
returns-clause-item c =
    line_item c.push_written.result c.args.quotes c.args.line.now c.push.new.self c.args.text.now c.push_written.new.line
    c.push_written.ensures.text c.in_ok-push.ensures.ok c.push_written.ensures.line
