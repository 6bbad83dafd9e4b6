use Rattle.std.proofs.Common.{◌%◌, ◌∙◌, arith}
use Rattle.std.proofs.lemmas.List.FromFn.{get_or-map-range_with_len}
use Rattle.calendar.specs.Weekdays.{onward}
use Rattle.calendar.specs.declared.weekday.Weekday.TheVariants.{Monday, Tuesday}
use Rattle.calendar.proofs.Weeks.{part_week}
use Rattle.calendar.proofs.weekday.after_tuesday.Goals as goal

pub returns : goal.returns
returns c =
    let days = c.args.days in
    get_or-map-range_with_len (onward Tuesday) 0 7 (days % 7) (days % 7) Monday (omega arith) (omega arith)
    ∙ part_week Tuesday days
