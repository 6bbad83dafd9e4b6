-- The makeup factor table, by its bands of hours.
use Rattle.std.specs.Prelude.{ℕ, Bool, cond, ◌&&◌, List, [], ◌∷◌, nat_le, slice_index}
use Rattle.calendar.specs.Columns.{column_of}
use Rattle.calendar.specs.Periods.{row_of}
use Rattle.calendar.specs.TradingDays.{start_day}
use Rattle.calendar.specs.declared.column.FactorColumn.{FactorColumn}
use Rattle.calendar.specs.declared.column.FactorColumn.TheVariants.{MaySeptemberWorkday, AprilOctoberWorkday, OtherSummerDay, WinterPeakWorkday, OtherWinterWorkday, OtherWinterDay}
use Rattle.calendar.specs.declared.day.TradingDay.{TradingDay}
use Rattle.calendar.specs.declared.period.Period.{Period}

-- A band of hours: the rows from its first to its last, with one factor in tenths for each column.
pub record Band : Type 0 where
  pub first_row : ℕ
  pub last_row : ℕ
  pub columns : List ℕ

-- The band from one row to another with these factors.
abbrev pub rows : ℕ → ℕ → List ℕ → Band
rows from to factors = record { first_row = from; last_row = to; columns = factors }

-- The nine bands of the day, with the columns in the order of their places.
abbrev pub bands : List Band
bands =
    rows 1 16 (10 ∷ 10 ∷ 10 ∷ 10 ∷ 10 ∷ 10 ∷ [])
    ∷ rows 17 26 (10 ∷ 11 ∷ 11 ∷ 10 ∷ 10 ∷ 15 ∷ [])
    ∷ rows 27 28 (11 ∷ 14 ∷ 11 ∷ 12 ∷ 12 ∷ 15 ∷ [])
    ∷ rows 29 33 (11 ∷ 14 ∷ 12 ∷ 12 ∷ 12 ∷ 15 ∷ [])
    ∷ rows 34 37 (11 ∷ 14 ∷ 12 ∷ 15 ∷ 15 ∷ 12 ∷ [])
    ∷ rows 38 41 (12 ∷ 15 ∷ 12 ∷ 12 ∷ 12 ∷ 12 ∷ [])
    ∷ rows 42 45 (12 ∷ 15 ∷ 12 ∷ 11 ∷ 11 ∷ 12 ∷ [])
    ∷ rows 46 46 (12 ∷ 15 ∷ 12 ∷ 10 ∷ 10 ∷ 12 ∷ [])
    ∷ rows 47 48 (10 ∷ 10 ∷ 10 ∷ 10 ∷ 10 ∷ 12 ∷ [])
    ∷ []

-- A band has the rows from its first to its last, both included.
abbrev pub has_row : Band → ℕ → Bool
has_row b n = nat_le b.first_row n && nat_le n b.last_row

-- The factors at a row are those of the first band that has it, and none where no band has it.
abbrev pub factors_at : List Band → ℕ → List ℕ
factors_at [] n = []
factors_at (b ∷ bs) n = cond (has_row b n) b.columns (factors_at bs n)

-- The place of a column, counted from 0.
abbrev pub place_in : FactorColumn → ℕ
place_in MaySeptemberWorkday = 0
place_in AprilOctoberWorkday = 1
place_in OtherSummerDay = 2
place_in WinterPeakWorkday = 3
place_in OtherWinterWorkday = 4
place_in OtherWinterDay = 5

-- The factor in tenths at a column and a row, and 0 at a row that no band has.
abbrev pub factor_of : FactorColumn → ℕ → ℕ
factor_of kind n = slice_index (factors_at bands n) (place_in kind)

-- The factor of a period of a day stands at the day's column and the period's row.
abbrev pub factor_in : TradingDay → Period → ℕ
factor_in t p = factor_of (column_of (start_day t) t.holiday) (row_of t.length p.number)
