-- Counting the days of months.
use Rattle.std.proofs.Common.{◌≡◌, ℕ, ◌+◌, ◌*◌, ◌/◌, ◌%◌, ◌≤◌, zero, suc, sum, map, refl, sym, ap, ◌∙◌, add-one, arith}
use Rattle.std.proofs.lemmas.Bool.Decides.{nat_tests}
use Rattle.std.proofs.lemmas.List.FromFn.{sum_by-map-range_with_len_more}
use Rattle.std.specs.List.{range_with_len}
use Rattle.calendar.specs.Calendar.{month_days}
use Rattle.calendar.specs.Weekdays.{days_before, counted_month_days}

pub month_days_le : (y m : ℕ) → month_days y m ≤ 31
month_days_le y m = grind (arith, nat_tests)

pub before_more : (k : ℕ) → days_before (k + 1) ≡ days_before k + counted_month_days k
before_more k = ap days_before (add-one k)

pub month_days_some : (y m : ℕ) → 1 ≤ month_days y m
month_days_some y m = grind (arith, nat_tests)

-- the sum of the months' days, one by one
pub summed : (n : ℕ) → sum (map counted_month_days (range_with_len 0 n)) ≡ days_before n
summed zero = refl
summed (suc n) =
    ap (λ m. sum (map counted_month_days (range_with_len 0 m))) (sym (add-one n))
    ∙ sum_by-map-range_with_len_more (λ x. x) counted_month_days 0 n n (omega arith)
    ∙ ap (λ days. days + counted_month_days n) (summed n)

pub before_le : (n : ℕ) → days_before n ≤ 31 * n
before_le zero = omega arith
before_le (suc n) = let most = month_days_le (2003 + (n + 3) / 12) ((n + 3) % 12 + 1) in omega (arith, before_le n)
