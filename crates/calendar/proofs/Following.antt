-- The day after a day: the calendar has it, and it has the next weekday.
use Rattle.std.proofs.Common.{◌≡◌, ℕ, ◌+◌, ◌*◌, ◌/◌, ◌%◌, ◌<◌, ◌≤◌, true, refl, ap, ◌∙◌, ⊎_elim, add-one, arith}
use Rattle.std.proofs.lemmas.Bool.{and_parts, and_from, leb-true, le-leb, ltb-true, ltb-false, cases_lt, cond_both}
use Rattle.calendar.specs.Calendar.{CalendarDay, dated, month_days, numbered, in_calendar, following}
use Rattle.calendar.specs.Theorems.{Consecutive, Unbroken}
use Rattle.calendar.specs.Weekdays.{month_count, counted_month_days, days_before, days_since, onward}
use Rattle.calendar.specs.declared.weekday.Weekday.TheVariants.{Tuesday}
use Rattle.calendar.proofs.Months.{month_days_le, month_days_some, before_more}

-- what it takes for the calendar to have a day
pub record Has (d : CalendarDay) : Type 0 where
  pub january : 1 ≤ d.month
  pub december : d.month ≤ 12
  pub first : 1 ≤ d.day
  pub last : d.day ≤ month_days d.year d.month

pub has : (d : CalendarDay) → in_calendar d ≡ true → Has d
has d e =
    let months = and_parts _ _ (and_parts _ _ e).0 in
    let days = and_parts _ _ (and_parts _ _ e).1 in
    record { january = leb-true _ _ months.0; december = leb-true _ _ months.1; first = leb-true _ _ days.0; last = leb-true _ _ days.1 }

pub has_all : (d : CalendarDay) → Has d → in_calendar d ≡ true
has_all d h =
    and_from _ _ (and_from _ _ (le-leb _ _ h.january) (le-leb _ _ h.december))
    (and_from _ _ (le-leb _ _ h.first) (le-leb _ _ h.last))

-- a property of the day after, from each of its three kinds
by_kind : (d : CalendarDay) (P : CalendarDay → Type 0)
    → (d.day < month_days d.year d.month → P (dated d.year d.month (d.day + 1)))
    → (month_days d.year d.month ≤ d.day → d.month < 12 → P (dated d.year (d.month + 1) 1))
    → (month_days d.year d.month ≤ d.day → 12 ≤ d.month → P (dated (d.year + 1) 1 1))
    → P (following d)
by_kind d P inside month year =
    cond_both _ _ _ P (λ e. inside (ltb-true _ _ e))
    (λ e. cond_both _ _ _ P (λ f. month (ltb-false _ _ e) (ltb-true _ _ f)) (λ f. year (ltb-false _ _ e) (ltb-false _ _ f)))

pub unbroken : Unbroken
unbroken d e =
    let h = has d e in
    by_kind d (λ f. in_calendar f ≡ true)
    (λ l. has_all (dated d.year d.month (d.day + 1)) (record { january = h.january; december = h.december; first = omega arith; last = omega arith }))
    (λ l m. has_all (dated d.year (d.month + 1) 1) (record { january = omega arith; december = omega arith; first = omega arith; last = month_days_some d.year (d.month + 1) }))
    (λ l m. refl)

module _ (d : CalendarDay) (late : 2003_04_01 ≤ numbered d) (h : Has d) where
  -- no day before April 2003 has such a number
  since_april : 12 * 2003 + 4 ≤ 12 * d.year + d.month
  since_april =
      let most = month_days_le d.year d.month in
      ⊎_elim (λ (y : d.year < 2003). omega arith)
      (λ y. ⊎_elim (λ (z : d.year < 2004). omega arith) (λ z. omega arith) (cases_lt d.year 2004))
      (cases_lt d.year 2003)

  same_month : counted_month_days (month_count d) ≡ month_days d.year d.month
  same_month =
      let after = since_april in
      let year : 2003 + (month_count d + 3) / 12 ≡ d.year = omega arith in
      let month : (month_count d + 3) % 12 + 1 ≡ d.month = omega arith in
      ap (λ (y : ℕ). month_days y ((month_count d + 3) % 12 + 1)) year ∙ ap (month_days d.year) month

  -- the first of the next month comes after all days of this one
  next_month : (k : ℕ) → k ≡ month_count d + 1 → month_days d.year d.month ≤ d.day → days_before k + 0 ≡ days_since d + 1
  next_month k e l =
      omega (arith, ap days_before e, before_more (month_count d), same_month)

  one_more : days_since (following d) ≡ days_since d + 1
  one_more =
      let after = since_april in
      by_kind d (λ f. days_since f ≡ days_since d + 1) (λ l. omega arith)
      (λ l m. next_month _ (omega arith) l)
      (λ l m. next_month _ (omega arith) l)

pub consecutive : Consecutive
consecutive d late e = ap (onward Tuesday) (one_more d late (has d e) ∙ add-one (days_since d))
