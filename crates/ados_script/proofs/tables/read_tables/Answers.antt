use Rattle.std.proofs.Common.{◌≡◌, ◌+◌, ◌-◌, refl, arith}
use Rattle.ados_script.proofs.TableLemmas.{AreRead, IsLine, ends_below, neither, read_end_skip, read_lab, read_other}
use Rattle.ados_script.proofs.tables.read_tables.Goals as goal

pub push_entry-requires : goal.push_entry-requires
push_entry-requires c =
    let back : c.loop-place.place - 1 + 1 ≡ c.loop-place.place = omega arith in
    rw back (ends_below c.loop-place.invariant)

pub loop-place-preserved-in_ok-push-in-EndSkip : goal.loop-place-preserved-in_ok-push-in-EndSkip
loop-place-preserved-in_ok-push-in-EndSkip c =
    let back : c.loop-place.place - 1 + 1 ≡ c.loop-place.place = omega arith in
    let are : AreRead c.args.lines.now (c.loop-place.place - 1 + 1) _ _ _ _ _ = rw back c.loop-place.invariant in
    let is : IsLine c.args.lines.now (c.loop-place.place - 1) _ _ = record { within = omega arith; line = c.index-lines-place.is; head = rw c.as_bytes.ensures.value at c.read_head-head.ensures } in
    rw (c.in_ok-push_entry.ensures, c.in_ok-push-in-EndSkip.ensures.items) (read_end_skip is (rw c.in-EndSkip.is refl) (rw c.in-EndSkip.is refl) are)

pub loop-place-preserved-in_ok-push-in-Lab-3 : goal.loop-place-preserved-in_ok-push-in-Lab-3
loop-place-preserved-in_ok-push-in-Lab-3 c =
    let back : c.loop-place.place - 1 + 1 ≡ c.loop-place.place = omega arith in
    let are : AreRead c.args.lines.now (c.loop-place.place - 1 + 1) _ _ _ _ _ = rw back c.loop-place.invariant in
    let is : IsLine c.args.lines.now (c.loop-place.place - 1) _ _ = record { within = omega arith; line = c.index-lines-place.is; head = rw c.as_bytes.ensures.value at c.read_head-head.ensures } in
    rw (c.in_ok-push_entry.ensures, c.in_ok-push-in-Lab.ensures.items, c.in_ok-push-in-Lab-2.ensures.items, c.in_ok-push-in-Lab-3.ensures.items, c.new.ensures, c.new-in-Lab.ensures) (read_lab is (rw c.in-Lab.is refl) (rw c.in-Lab.is refl) c.in_ok-read_label-in-Lab.ensures c.in_ok-read_phrase-in-Lab.ensures are)

pub loop-place-preserved : goal.loop-place-preserved
loop-place-preserved c =
    let back : c.loop-place.place - 1 + 1 ≡ c.loop-place.place = omega arith in
    let are : AreRead c.args.lines.now (c.loop-place.place - 1 + 1) _ _ _ _ _ = rw back c.loop-place.invariant in
    let is : IsLine c.args.lines.now (c.loop-place.place - 1) _ _ = record { within = omega arith; line = c.index-lines-place.is; head = rw c.as_bytes.ensures.value at c.read_head-head.ensures } in
    let no = neither c.read_head-head.result c.in_default.not-EndSkip c.in_default.not-Lab in
    rw c.in_ok-push_entry.ensures (read_other is no.0 no.1 are)
