-- What comes from rounding down, with at most one kWh on top, is rounded down or up.
use Rattle.std.specs.Prelude.{ℕ, ◌+◌, ◌-◌, ◌*◌, ◌/◌, ◌%◌, ◌<◌, ◌≤◌}
use Rattle.std.proofs.Common.{inl, inr, ⊎_elim, sym, add-mul, le_of_lt, mul_comm, mul-le-mul_right, mul-le-mul_left, mul-lt-mul_of_pos_right, div-le_self, arith}
use Rattle.std.proofs.lemmas.Nat.{div_below}
use Rattle.std.proofs.lemmas.Bool.{cases_lt}
use Rattle.energy.proofs.Division.{div_up, div_add, div_le_add}
use Rattle.rationing.specs.Quota.{Rounded}

-- one more than the quotient, where a remainder is left
pub rounded_more : (s : ℕ) → 0 < s → (n : ℕ) → 0 < n % s → Rounded n s (n / s + 1)
rounded_more s some n h = inr (sym (div_up s some n h))

-- the step of a running quotient
pub rounded_step : (s : ℕ) → 0 < s → (x y : ℕ) → Rounded y s ((x + y) / s - x / s)
rounded_step s some x y =
    ⊎_elim (λ e. inl (omega arith))
    (λ e. let up = div_up s some y e.1 in inr (omega (arith, e.0)))
    (div_add s some x y)

-- a share of an amount below the sum is below its claim, or nothing
pub share_below : (a c s : ℕ) → a < s → a * c / s ≤ c - 1
share_below a c s h =
    ⊎_elim
    (λ (some : 0 < c). let below = div_below (a * c) s c (omega arith) (omega (arith, mul_comm c s, mul-lt-mul_of_pos_right h some)) in omega arith)
    (λ none. let nothing = mul-le-mul_left a none in omega (arith, div-le_self (a * c) s))
    (cases_lt 0 c)

-- a rounded share of an amount below the sum is at most its claim, and at least the share rounded down
pub rounded_most : (a c s w : ℕ) → a < s → Rounded (a * c) s w → w ≤ c
rounded_most a c s w h r =
    let within = mul-le-mul_right c (le_of_lt h) in
    let upper : a * c + (s - 1) < (c + 1) * s = omega (arith, add-mul c 1 s, mul_comm s c) in
    ⊎_elim (λ e. omega (arith, share_below a c s h))
    (λ e. omega (arith, div_below (a * c + (s - 1)) s (c + 1) (omega arith) upper))
    r

pub rounded_least : (n s w : ℕ) → 0 < s → Rounded n s w → n / s ≤ w
rounded_least n s w some r = ⊎_elim (λ e. omega arith) (λ e. omega (arith, div_le_add s some n (s - 1))) r
