use Rattle.std.proofs.Common.{sym, ap, ◌∙◌, arith}
use Rattle.calendar.specs.Dates.{calendar_day}
use Rattle.calendar.specs.Weekdays.{day_after, onward}
use Rattle.calendar.specs.declared.weekday.Weekday.TheVariants.{Tuesday}
use Rattle.calendar.proofs.Following.{has_all, consecutive}
use Rattle.calendar.proofs.date.Date.weekday.Goals as goal

pub returns : goal.returns
returns c =
    let date = c.args.self in
    let day = calendar_day date in
    let value = c.after_tuesday.ensures ∙ ap (onward Tuesday) c.days_since_april.ensures in
    let real = has_all day (record { january = date.january; december = date.december; first = date.first; last = date.last }) in
    record { value = value; next = consecutive day (omega arith) real ∙ ap day_after (sym value) }
