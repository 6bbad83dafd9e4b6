-- The periods of a day, and their rows in the makeup factor table.
use Rattle.std.specs.Prelude.{ℕ, ◌+◌, ◌-◌, ◌%◌, cond, ◌&&◌, Some, None, Option, List, ◌++◌, codes, decimal, ◌==◌, nat_le}
use Rattle.calendar.specs.declared.length.DayLength.{DayLength}
use Rattle.calendar.specs.declared.length.DayLength.TheVariants.{Short, Normal, Long}
use Rattle.calendar.specs.declared.length.NoLength.{NoLength}

-- A short day has 46 periods, a normal day 48 and a long day 50.
abbrev pub periods_of : DayLength → ℕ
periods_of Short = 46
periods_of Normal = 48
periods_of Long = 50

-- The length of a day by its number of periods: no day has another number.
abbrev pub length_with : ℕ → Option DayLength
length_with n =
    cond (n == 46) (Some Short)
    (cond (n == 48) (Some Normal) (cond (n == 50) (Some Long) None))

-- A number of periods that no day has, and what is written of it.
abbrev pub no_length : ℕ → NoLength
no_length n = record { 0 = n }

abbrev pub no_length_text : ℕ → List ℕ
no_length_text n = codes "no day has " ++ decimal n ++ codes " periods"

-- A day has the period with a number when that is from 1 to the number of its periods.
abbrev pub period_numbered : DayLength → ℕ → Option ℕ
period_numbered l k = cond (nat_le 1 k && nat_le k (periods_of l)) (Some k) None

-- The period of a normal day with the row of a period: on a short day two more from period 39 on,
-- on a long day two less from period 41 on, and else the same.
abbrev pub normal_period : DayLength → ℕ → ℕ
normal_period Short k = cond (nat_le 39 k) (k + 2) k
normal_period Normal k = k
normal_period Long k = cond (nat_le 41 k) (k - 2) k

-- Row n is the half hour that ends n half hours after midnight, and a day's first period starts at
-- 06:00: the row of a period of a normal day is its number moved on by 12, round the 48 rows.
abbrev pub row_of : DayLength → ℕ → ℕ
row_of l k = (normal_period l k + 11) % 48 + 1
