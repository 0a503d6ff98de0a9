use Rattle.std.proofs.Common.{◌≡◌, false, length, nat_lt, ap, sym, ◌∙◌}
use Rattle.ados_readargs.specs.Shares.{vacant_count, first_shares}
use Rattle.ados_readargs.proofs.SharesLemmas.{takes_all-none, takes_all-some}
use Rattle.ados_readargs.proofs.shares.is_left.Goals as goal

pub returns-in-None-clause-taken : goal.returns-in-None-clause-taken
returns-in-None-clause-taken c =
    λ h. let few : nat_lt (vacant_count false 0 c.args.options.now c.args.readings.now.given) (length c.args.readings.now.plain) ≡ false =
    ap (λ r. nat_lt (vacant_count false 0 c.args.options.now r.given) (length r.plain)) (sym c.readings.view_is)
    ∙ ap (λ given. nat_lt (vacant_count false 0 c.args.options.now given) (length c.readings.inside.plain.items)) (sym c.as_slice-given.ensures.value)
    ∙ ap (λ plain. nat_lt (vacant_count false 0 c.args.options.now c.as_slice-given.result.now) (length plain)) (sym c.as_slice-plain.ensures.value)
    ∙ ap (λ options. nat_lt (vacant_count false 0 options c.as_slice-given.result.now) (length c.as_slice-plain.result.now)) (sym c.as_slice.ensures)
    ∙ ap (λ n. nat_lt n (length c.as_slice-plain.result.now)) (sym c.vacant_count.ensures.value) ∙ h in
    ap (λ m. first_shares m (length c.args.options.now) c.args.options.now c.args.readings.now) (sym c.in-None.ensures.value)
    ∙ takes_all-none c.args.options.now c.args.readings.now few

pub returns-in-Some-clause-taken : goal.returns-in-Some-clause-taken
returns-in-Some-clause-taken c =
    λ _. ap (λ m. first_shares m (length c.args.options.now) c.args.options.now c.args.readings.now) (sym c.in-Some.ensures.value)
    ∙ takes_all-some c.in-Some.field-0 c.args.options.now c.args.readings.now c.in-Some.ensures.within
