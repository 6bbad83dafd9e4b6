-- A remainder over its divisor, brought to lowest terms by their greatest common divisor.
use Rattle.std.proofs.Common.{◌≡◌, ℕ, ◌+◌, ◌*◌, ◌/◌, ◌%◌, ◌<◌, ◌≤◌, ap, ◌∙◌, subst, lt_of_mul-lt-mul_right, le_of_mul-le-mul_right, arith}
use Prim.Native.Nat.{◌∣◌}
use native.Mathlib.Nat.{div-mul_cancel, pos_of_dvd_of_pos, mul-dvd-mul_right}
use Rattle.std.specs.Int.{IsGcd}
use Rattle.std.proofs.lemmas.Nat.{div-add-mod', mod_below}
use Rattle.std.proofs.lemmas.Nat.Gcd.{le_from_IsGcd}
use Rattle.energy.specs.declared.unit.Kwh.{Kwh}
use Rattle.energy.specs.Units.{kwh}
use Rattle.rationing.specs.declared.share.ExactShare.{ExactShare}
use Rattle.rationing.specs.Share.{Coprime, Exactly, over}

abbrev share : Kwh → ℕ → ℕ → ExactShare
share w n d = record { whole = w; numerator = n; denominator = d }

module _ (r s g : ℕ) (some : 0 < s) (common : IsGcd r s g) where
  pub common_some : 0 < g
  common_some = pos_of_dvd_of_pos common.1 some

  numerator_is : r / g * g ≡ r
  numerator_is = div-mul_cancel g common.0

  denominator_is : s / g * g ≡ s
  denominator_is = div-mul_cancel g common.1

  pub lowest_proper : r < s → r / g < s / g
  lowest_proper h =
      let below : r / g * g < s / g * g = omega (arith, numerator_is, denominator_is) in
      lt_of_mul-lt-mul_right g below

  pub lowest_value : (w : ℕ) → (w * (s / g) + r / g) * s ≡ (w * s + r) * (s / g)
  lowest_value w =
      let scaled : (w * (s / g) + r / g) * (s / g * g) ≡ (w * (s / g * g) + r / g * g) * (s / g) = omega arith in
      rw (denominator_is, numerator_is) at scaled

  pub lowest_coprime : Coprime (r / g) (s / g)
  lowest_coprime k m n =
      let left : k * g ∣ r = subst (λ (x : ℕ). k * g ∣ x) numerator_is (mul-dvd-mul_right k m g) in
      let right : k * g ∣ s = subst (λ (x : ℕ). k * g ∣ x) denominator_is (mul-dvd-mul_right k n g) in
      let most : k * g ≤ 1 * g = omega (arith, le_from_IsGcd r s g (k * g) common common_some left right) in
      let divided : 0 * g < s / g * g = omega (arith, denominator_is) in
      let least = pos_of_dvd_of_pos n (lt_of_mul-lt-mul_right g divided) in
      omega (arith, le_of_mul-le-mul_right most common_some)

-- the quotient of a division, and its remainder over the divisor in lowest terms, are the number divided
pub exact_part : (n s w r g : ℕ) → 0 < s → w ≡ n / s → r ≡ n % s → IsGcd r s g → Exactly (over n s) (share (kwh w) (r / g) (s / g))
exact_part n s w r g some whole rest common =
    let parts = div-add-mod' n s in
    let times = ap (λ (x : ℕ). x * s) whole in
    let dividend : w * s + r ≡ n = omega arith in
    record {
      value = lowest_value r s g some common w ∙ ap (λ (x : ℕ). x * (s / g)) dividend;
      proper = lowest_proper r s g some common (omega (arith, mod_below n s some));
      lowest = lowest_coprime r s g some common;
    }
