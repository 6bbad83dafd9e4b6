-- Counting days round the week.
use Rattle.std.proofs.Common.{◌≡◌, ℕ, zero, suc, ◌+◌, ◌*◌, ◌/◌, ◌%◌, sym, refl, ap, ◌∙◌, arith}
use Rattle.std.proofs.lemmas.Nat.{div-add-mod'}
use Rattle.calendar.specs.Weekdays.{onward}
use Rattle.calendar.specs.declared.weekday.Weekday.{Weekday}
use Rattle.calendar.specs.declared.weekday.Weekday.TheVariants.{Monday, Tuesday, Wednesday, Thursday, Friday, Saturday, Sunday}

-- seven days on it is the same weekday
pub week : (w : Weekday) → onward w 7 ≡ w
week Monday = refl
week Tuesday = refl
week Wednesday = refl
week Thursday = refl
week Friday = refl
week Saturday = refl
week Sunday = refl

pub whole_weeks : (w : Weekday) (q r : ℕ) → onward w (q * 7 + r) ≡ onward w r
whole_weeks w zero r = let none : 0 * 7 + r ≡ r = omega arith in ap (onward w) none
whole_weeks w (suc q) r =
    let more : suc q * 7 + r ≡ suc (suc (suc (suc (suc (suc (suc (q * 7 + r))))))) = omega arith in
    ap (onward w) more ∙ week (onward w (q * 7 + r)) ∙ whole_weeks w q r

-- only what is left over of whole weeks counts
pub part_week : (w : Weekday) (n : ℕ) → onward w (n % 7) ≡ onward w n
part_week w n = sym (whole_weeks w (n / 7) (n % 7)) ∙ ap (onward w) (div-add-mod' n 7)
