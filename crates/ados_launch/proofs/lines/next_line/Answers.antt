use Rattle.std.proofs.Common.{◌∙◌, ◌+◌, arith, refl}
use Rattle.ados_launch.proofs.PartLines.{part-none, part-scanned}
use Rattle.ados_launch.proofs.Scanning.{takes_end, takes_last, takes_broken, takes_overlong, scanned_more}
use Rattle.ados_launch.proofs.lines.next_line.Goals as goal

pub returns-then-length-eq0-clause-taken : goal.returns-then-length-eq0-clause-taken
returns-then-length-eq0-clause-taken g c bytes e =
    let h = rw c.in-Ok-None.field-0-is at c.in-Ok-None.ensures.end in
    takes_end bytes c.loop-length.length _ _ _ c.if-length-eq0.true (c.loop-length.invariant.scanned bytes e) h.0 h.1

pub returns-else-length-eq0-clause-taken : goal.returns-else-length-eq0-clause-taken
returns-else-length-eq0-clause-taken g c bytes e =
    let h = rw c.in-Ok-None.field-0-is at c.in-Ok-None.ensures.end in
    rw c.kind_of.ensures (takes_last bytes c.loop-length.length _ _ _ (omega arith) (omega arith) (c.loop-length.invariant.scanned bytes e) h.0 h.1)

pub returns-in-Ok-Some-eq10-clause-taken : goal.returns-in-Ok-Some-eq10-clause-taken
returns-in-Ok-Some-eq10-clause-taken g c bytes e =
    let h = rw c.in-Ok-Some-eq10.field-0-is at c.in-Ok-Some-eq10.ensures.byte in
    let ten = rw c.in-Ok-Some-eq10.field-0-0-test at h in
    rw c.kind_of-in-Ok-Some-eq10.ensures (takes_broken bytes c.loop-length.length _ _ _ (omega arith) (c.loop-length.invariant.scanned bytes e) ten)

pub returns-clause-taken : goal.returns-clause-taken
returns-clause-taken g c bytes e = takes_overlong bytes c.loop-length.length _ _ (omega arith) (c.loop-length.invariant.scanned bytes e)

pub loop-length-preserved : goal.loop-length-preserved
loop-length-preserved g c =
    let h = rw c.in-Ok-Some.field-0-is at c.in-Ok-Some.ensures.byte in
    record {
      faults = c.in-Ok-Some.ensures.counted ∙ c.loop-length.invariant.faults;
      short = c.in_ok-keep-in-Ok-Some.ensures.short;
      few = λ _. c.in-Ok-Some.ensures.few;
      scanned = λ bytes e. scanned_more bytes c.loop-length.length _ _ _ _ c.in-Ok-Some.byte (c.loop-length.invariant.scanned bytes e) h c.in-Ok-Some.byte-test.1
          c.in_ok-keep-in-Ok-Some.ensures.kept;
    }

pub returns-then-branch-clause-taken : goal.returns-then-branch-clause-taken
returns-then-branch-clause-taken g c bytes e = c.in_ok-take_held.ensures.taken c.if-branch.true (g.S.Source.left c.args.source.now) bytes e

pub returns-in_err-take_held-clause-no_further : goal.returns-in_err-take_held-clause-no_further
returns-in_err-take_held-clause-no_further g c failed bytes e = rw c.in_err-take_held.ensures.err (part-none bytes _ e)

pub returns-in_err-keep-in-Ok-Some-clause-no_further : goal.returns-in_err-keep-in-Ok-Some-clause-no_further
returns-in_err-keep-in-Ok-Some-clause-no_further g c failed bytes e =
    let h = rw c.in-Ok-Some.field-0-is at c.in-Ok-Some.ensures.byte in
    part-scanned bytes (c.loop-length.length + 1) _ _ (omega arith)
    (scanned_more bytes c.loop-length.length _ _ _ _ c.in-Ok-Some.byte (c.loop-length.invariant.scanned bytes e) h c.in-Ok-Some.byte-test.1 refl)
