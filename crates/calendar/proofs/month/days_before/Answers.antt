use Rattle.std.proofs.Common.{rules, ◌∙◌, arith}
use Rattle.std.proofs.lemmas.Iterator.{YieldsList-from_map, YieldsList-from_range}
use Rattle.std.proofs.lemmas.Iterator.Consumers.{sum_from_yields_List, fits_from_yields_list}
use Rattle.calendar.specs.Weekdays.{counted_month_days}
use Rattle.calendar.proofs.Months.{summed, before_le}
use Rattle.calendar.proofs.month.days_before.Goals as goal

pub sum-requires-clause-fits : goal.sum-requires-clause-fits
sum-requires-clause-fits c =
    let months = c.args.months in
    fits_from_yields_list c.map.result _ (YieldsList-from_map _ counted_month_days (YieldsList-from_range 0 months months c.map.ensures.source (omega arith)) c.map.ensures.closure (λ x r q k. search rules))
    (omega (arith, summed months, before_le months))

pub returns : goal.returns
returns c =
    let months = c.args.months in
    let counted =
    sum_from_yields_List c.map.result _ c.sum.ensures.ran (YieldsList-from_map _ counted_month_days (YieldsList-from_range 0 months months c.map.ensures.source (omega arith)) c.map.ensures.closure (λ x r q k. search rules))
    ∙ summed months in
    record { counted = counted; bound = omega (arith, before_le months) }
