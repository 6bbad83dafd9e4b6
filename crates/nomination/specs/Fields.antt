-- What the fields of a record say, where they are well formed.
use Rattle.std.specs.Prelude.{ℕ, ◌-◌, cond, not, ◌&&◌, ◌||◌, List, length, take, drop, Some, None, Option, ◌==◌, nat_lt, slice_index}
use Rattle.std.specs.Option.{option_map}
use Rattle.energy.specs.Units.{kwh}
use Rattle.book.specs.declared.filed_row.Flag.{Flag}
use Rattle.book.specs.declared.filed_row.Flag.TheVariants.{Brown, Chp, Renewable}
use Rattle.energy.specs.declared.unit.Kwh.{Kwh}
use Rattle.nomination.specs.Digits.{number_of, joined_by}

-- A number with no needless leading zero.
abbrev pub plain_of : List ℕ → Option ℕ
plain_of bytes = cond (nat_lt 1 (length bytes) && slice_index bytes 0 == 48) None (number_of bytes)

-- An amount in MWh is one to four digits with no needless leading zero, a point (byte 46) and three digits; its value is whole kWh.
abbrev pub amount_of : List ℕ → Option Kwh
amount_of bytes =
    let n : ℕ = length bytes in
    cond (nat_lt n 5 || not (slice_index bytes (n - 4) == 46)) None
    (option_map kwh (joined_by 1000 (plain_of (take (n - 4) bytes)) (number_of (drop (n - 3) bytes))))

-- A period is one or two digits, the first not 0.
abbrev pub period_of : List ℕ → Option ℕ
period_of bytes = cond (nat_lt 2 (length bytes) || slice_index bytes 0 == 48) None (number_of bytes)

-- What is not 0.
abbrev pub some_of : Option ℕ → Option ℕ
some_of None = None
some_of (Some n) = cond (n == 0) None (Some n)

-- A version is three digits, 001 to 999.
abbrev pub version_of : List ℕ → Option ℕ
version_of bytes = cond (length bytes == 3) (some_of (number_of bytes)) None

-- A date is eight digits, whether the calendar has it or not.
abbrev pub date_of : List ℕ → Option ℕ
date_of bytes =
    let n : ℕ = length bytes in
    cond (n == 8) (joined_by 10000 (number_of (take (n - 4) bytes)) (number_of (drop (n - 4) bytes))) None

-- A flag is C for CHP or G for renewable, and nothing for brown.
abbrev pub flag_letter : ℕ → Option Flag
flag_letter b = cond (b == 67) (Some Chp) (cond (b == 71) (Some Renewable) None)

abbrev pub flag_of : List ℕ → Option Flag
flag_of bytes =
    cond (length bytes == 0) (Some Brown)
    (cond (length bytes == 1) (flag_letter (slice_index bytes 0)) None)
