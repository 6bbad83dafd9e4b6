-- When a sum is an energy of 64 bits.
use Rattle.std.proofs.Common.{◌≡◌, ℕ, ◌^◌, ◌<◌, ◌≤◌, Some, None, arith}
use Rattle.std.proofs.lemmas.Bool.Decides.{nat_tests}
use Rattle.energy.specs.Totals.{within64}
use Rattle.energy.specs.Units.{kwh}

pub within_fits : (m n : ℕ) → m ≡ n → m < 2 ^ 64 → Some (kwh m) ≡ within64 n
within_fits m n e h = grind (arith, nat_tests)

pub within_past : (n : ℕ) → 2 ^ 64 ≤ n → None ≡ within64 n
within_past n h = grind (arith, nat_tests)
