use Rattle.std.proofs.Common.{sym, ◌∙◌}
use Rattle.nomination.proofs.Bounding.{period_bounds, amount_bound}
use Rattle.nomination.proofs.detail.Detail.read.Goals as goal

pub invariant_of-result : goal.invariant_of-result
invariant_of-result c =
    let period = period_bounds c.args.parts.period.bytes.now c.in_ok-ok_or.field-0
    (sym c.read_period.ensures ∙ c.in_ok-ok_or.ensures.ok_part) in
    let ns = amount_bound c.args.parts.ns.bytes.now c.in_ok-ok_or-4.field-0
    (sym c.read_amount.ensures ∙ c.in_ok-ok_or-4.ensures.ok_part) in
    let sn = amount_bound c.args.parts.sn.bytes.now c.in_ok-ok_or-5.field-0
    (sym c.read_amount-2.ensures ∙ c.in_ok-ok_or-5.ensures.ok_part) in
    record { first = period.0; last = period.1; ns_small = ns; sn_small = sn }
