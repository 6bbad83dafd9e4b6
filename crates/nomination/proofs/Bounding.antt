-- How large the values are that fields can write.
use Rattle.std.proofs.Common.{◌≡◌, ℕ, ◌+◌, ◌-◌, ◌*◌, ◌≤◌, false, eqb, List, [], ◌∷◌, length, get_or, take, drop, Some, arith, length-drop, length-take}
use Rattle.std.proofs.lemmas.Bool.Decides.{nat_tests}
use Rattle.energy.specs.declared.unit.Kwh.{Kwh}
use Rattle.nomination.specs.Digits.{digits_after}
use Rattle.nomination.specs.Fields.{amount_of, period_of, version_of, date_of}
use Rattle.nomination.proofs.Digiting.{number_below}

-- digits only make a number larger
digits_grow : (bs : List ℕ) (n m : ℕ) → digits_after n bs ≡ Some m → n ≤ m
digits_grow [] n m e = grind arith
digits_grow (b ∷ bs) n m e = grind (arith, nat_tests, digits_grow bs (n * 10 + (b - 48)) m)

-- a number whose first digit is not 0 is not 0
digits_some : (bs : List ℕ) (m : ℕ) → 1 ≤ length bs → eqb (get_or bs 0 0) 48 ≡ false → digits_after 0 bs ≡ Some m → 1 ≤ m
digits_some [] m h z e = absurd (omega arith)
digits_some (b ∷ bs) m h z e = grind (arith, nat_tests, digits_grow bs (b - 48) m)

pub period_bounds : (bs : List ℕ) (p : ℕ) → period_of bs ≡ Some p → (1 ≤ p) × (p ≤ 99)
period_bounds bs p e = (grind (arith, nat_tests, digits_some), grind (arith, nat_tests, number_below 2 bs p))

pub version_bounds : (bs : List ℕ) (v : ℕ) → version_of bs ≡ Some v → (1 ≤ v) × (v ≤ 999)
version_bounds bs v e = (grind (arith, nat_tests), grind (arith, nat_tests, number_below 3 bs v))

pub date_bound : (bs : List ℕ) (d : ℕ) → date_of bs ≡ Some d → d ≤ 99999999
date_bound bs d e = grind (arith, nat_tests, number_below 4 (take (length bs - 4) bs), number_below 4 (drop (length bs - 4) bs), length-take {A = ℕ}, length-drop {A = ℕ})

pub amount_bound : (bs : List ℕ) (a : Kwh) → amount_of bs ≡ Some a → a.0 ≤ 9999999
amount_bound bs a e = grind (arith, nat_tests, number_below 4 (take (length bs - 4) bs), number_below 3 (drop (length bs - 3) bs), length-take {A = ℕ}, length-drop {A = ℕ})
