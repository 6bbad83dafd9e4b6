-- Quotients of sums, and quotients rounded up.
use Rattle.std.proofs.Common.{◌≡◌, ℕ, ◌+◌, ◌-◌, ◌*◌, ◌/◌, ◌%◌, ◌<◌, ◌≤◌, ◌⊎◌, ap, ◌∙◌, inl, inr, ⊎_elim, add-mul, arith}
use Rattle.std.proofs.lemmas.Nat.{div-add-mod', div-mul-add, mod_below}
use Rattle.std.proofs.lemmas.Bool.{cases_lt}

module _ (s : ℕ) (some : 0 < s) where
  -- a number that is q times s and less than s more has the quotient q
  pub quotient : (n q r : ℕ) → n ≡ q * s + r → r < s → n / s ≡ q
  quotient n q r e h = ap (λ (m : ℕ). m / s) e ∙ div-mul-add q s r h

  -- where a remainder is left, rounding up is one more than rounding down
  pub div_up : (n : ℕ) → 0 < n % s → (n + (s - 1)) / s ≡ n / s + 1
  div_up n h =
      let parts = div-add-mod' n s in
      let more = add-mul (n / s) 1 s in
      let small = mod_below n s some in
      quotient (n + (s - 1)) (n / s + 1) (n % s - 1) (omega arith) (omega arith)

  -- the quotient of a sum is the sum of the quotients, or one more where the remainders reach s
  pub div_add : (x y : ℕ) → ((x + y) / s ≡ x / s + y / s) ⊎ (((x + y) / s ≡ x / s + y / s + 1) × (0 < y % s))
  div_add x y =
      let px = div-add-mod' x s in
      let py = div-add-mod' y s in
      let rx = mod_below x s some in
      let ry = mod_below y s some in
      let both = add-mul (x / s) (y / s) s in
      let more = add-mul (x / s + y / s) 1 s in
      ⊎_elim
      (λ h. inl (quotient (x + y) (x / s + y / s) (x % s + y % s) (omega arith) h))
      (λ h. inr (quotient (x + y) (x / s + y / s + 1) (x % s + y % s - s) (omega arith) (omega arith), omega arith))
      (cases_lt (x % s + y % s) s)

  -- a larger number has no smaller quotient
  pub div_le_add : (x y : ℕ) → x / s ≤ (x + y) / s
  div_le_add x y = ⊎_elim (λ e. omega arith) (λ e. omega (arith, e.0)) (div_add x y)
