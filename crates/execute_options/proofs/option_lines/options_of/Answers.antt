use Rattle.std.proofs.Common.{◌≡◌, ◌∙◌, ◌+◌, [], true, false, rules, arith, ap}
use Rattle.execute_options.specs.OptionLines.{first_bad_line, options_of}
use Rattle.execute_options.proofs.OptionLineLemmas.{bad_here, good_more, line_more, options_from}
use Rattle.execute_options.proofs.option_lines.options_of.Goals as goal

pub loop-place-preserved : goal.loop-place-preserved
loop-place-preserved c =
    let l = c.loop-place in
    let good : c.in_ok-take_line.field-0 ≡ true = search rules in
    record {
      all = line_more c.deref-line-items.result.now l.place (l.place + 1) record { ref_ptr = (0, 0); now = [] } (options_from 1 c.deref-line-items.result.now)
          l.options.items c.take_line.new.options.items c.loop-place-test.true (omega arith) l.invariant.all (c.in_ok-take_line.ensures.taken good);
      good = good_more l.options.items c.take_line.new.options.items _ l.invariant.good (rw good at c.in_ok-take_line.ensures.good) (c.in_ok-take_line.ensures.taken good);
    }

pub returns-then-not-branch-clause-fault : goal.returns-then-not-branch-clause-fault
returns-then-not-branch-clause-fault c =
    let l = c.loop-place in
    let bad : c.in_ok-take_line.field-0 ≡ false = search rules in
    let all : options_of c.args.bytes.now ≡ options_from 1 c.deref-line-items.result.now = search rules in
    ap first_bad_line all
    ∙ bad_here c.deref-line-items.result.now l.place (l.place + 1) record { ref_ptr = (0, 0); now = [] } (options_from 1 c.deref-line-items.result.now) l.options.items
    c.loop-place-test.true (omega arith) l.invariant.all l.invariant.good (rw bad at c.in_ok-take_line.ensures.good)
