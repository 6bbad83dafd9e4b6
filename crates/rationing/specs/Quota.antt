-- The quota law, which every rationing rule keeps.
use Rattle.std.specs.Prelude.{◌≡◌, ℕ, ◌+◌, ◌-◌, ◌*◌, ◌/◌, ◌<◌, ◌≤◌, cond, ◌⊎◌, List, length, nat_le, slice_index_or}
use Rattle.energy.specs.declared.unit.Kwh.{Kwh}
use Rattle.energy.specs.Totals.{sum_kwh}
use Rattle.energy.specs.Units.{kwh}

-- n / s rounded down, and rounded up.
abbrev pub rounded_down : ℕ → ℕ → ℕ
rounded_down n s = n / s

abbrev pub rounded_up : ℕ → ℕ → ℕ
rounded_up n s = (n + (s - 1)) / s

-- w is n / s rounded down or up to a whole number.
abbrev pub Rounded : ℕ → ℕ → ℕ → Type 0
Rounded n s w = (w ≡ rounded_down n s) ⊎ (w ≡ rounded_up n s)

-- There is an award for each claim. An amount that covers the claims gives each its claim. A smaller
-- one is used up, and each award is amount × claim / sum of the claims, rounded down or up.
pub record Quota (amount : Kwh) (claims awards : List Kwh) : Type 0 where
  pub long : length awards ≡ length claims
  pub whole : sum_kwh claims ≤ amount.0 → awards ≡ claims
  pub used : amount.0 < sum_kwh claims → sum_kwh awards ≡ amount.0
  pub shared : amount.0 < sum_kwh claims → (k : ℕ) → k < length claims → Rounded (amount.0 * (slice_index_or claims k (kwh 0)).0) (sum_kwh claims) (slice_index_or awards k (kwh 0)).0

-- A rule gives each its claim where the amount covers the claims, and divides a smaller amount in its own way.
abbrev pub whole_or : (Kwh → List Kwh → List Kwh) → Kwh → List Kwh → List Kwh
whole_or divide amount claims = cond (nat_le (sum_kwh claims) amount.0) claims (divide amount claims)
