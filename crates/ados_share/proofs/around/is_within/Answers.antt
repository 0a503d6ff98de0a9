use Rattle.std.proofs.Common.{rules, ◌≡◌, true, false, sym, ap, subst, ◌∙◌, length, nat_eq, nat_le}
use Rattle.std.specs.List.{starts_with}
use Rattle.memchr.specs.Find.{FindsNeedle}
use Rattle.ados_text.specs.Text.{Bytes}
use Rattle.ados_share.proofs.AroundLemmas.{first, many}
use Rattle.ados_share.proofs.around.is_within.Goals as goal

pub returns-then-starts_with : goal.returns-then-starts_with
returns-then-starts_with c =
    let same = c.deref.ensures.value ∙ c.in_ok-bytes.ensures in
    first c.args.bytes.now c.args.all.now (ap (starts_with nat_eq c.args.all.now) (sym same) ∙ sym c.starts_with.ensures ∙ c.if-starts_with.true)

pub returns : goal.returns
returns c =
    let all = c.args.all.now in
    let bytes = c.args.bytes.now in
    let same = c.deref.ensures.value ∙ c.in_ok-bytes.ensures in
    let differ : starts_with nat_eq all bytes ≡ false = ap (starts_with nat_eq all) (sym same) ∙ sym c.starts_with.ensures ∙ c.if-starts_with.false in
    let enough : nat_le 16 (length bytes) ≡ true = search rules in
    let whole : c.deref-2.result.now ≡ all = c.deref-2.ensures.value ∙ c.in_ok-all.ensures in
    let part : c.deref-3.result.now ≡ bytes = c.deref-3.ensures.value ∙ c.in_ok-bytes.ensures in
    let finds = subst (λ (t : Bytes). FindsNeedle t bytes 0 c.find.result) whole (subst (λ (t : Bytes). FindsNeedle c.deref-2.result.now t 0 c.find.result) part c.find.ensures) in
    c.is_some.ensures ∙ many bytes all c.find.result differ enough finds
