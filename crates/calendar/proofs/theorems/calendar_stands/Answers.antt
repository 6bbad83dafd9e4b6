use Rattle.calendar.proofs.Columns.{octobers, year_end}
use Rattle.calendar.proofs.Following.{consecutive, unbroken}
use Rattle.calendar.proofs.theorems.calendar_stands.Goals as goal

pub returns-clause-consecutive : goal.returns-clause-consecutive
returns-clause-consecutive c = consecutive

pub returns-clause-unbroken : goal.returns-clause-unbroken
returns-clause-unbroken c = unbroken

pub returns-clause-octobers : goal.returns-clause-octobers
returns-clause-octobers c = octobers

pub returns-clause-year_end : goal.returns-clause-year_end
returns-clause-year_end c = year_end
