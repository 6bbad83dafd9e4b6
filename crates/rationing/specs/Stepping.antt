-- What the running rule gives: steps of the running part, each rounded, that add up to the amount.
use Rattle.std.specs.Prelude.{◌≡◌, ℕ, zero, suc, ◌+◌, ◌-◌, ◌*◌, ◌/◌, ◌<◌, ◌≤◌, List, map, length, take, slice_index_or}
use Rattle.std.proofs.Common.{ap, subst, sym, ◌∙◌, mul-add, mul-div_cancel, div-le_self, add-one, arith}
use Rattle.std.specs.List.{range_with_len}
use Rattle.std.proofs.lemmas.List.FromFn.{length-map-range_with_len, get_or-map-range_with_len, sum_by-map-range_with_len_more}
use Rattle.std.proofs.lemmas.List.{take_all}
use Rattle.std.proofs.lemmas.List.Sums.{sum_by_more, sum_by-take-le}
use Rattle.energy.specs.declared.unit.Kwh.{Kwh}
use Rattle.energy.specs.Totals.{sum_kwh}
use Rattle.energy.specs.Units.{kwh}
use Rattle.energy.proofs.Division.{div_le_add}
use Rattle.rationing.specs.Quota.{Quota, Rounded}
use Rattle.rationing.specs.Running.{up_to, step_at, divided_along, running}
use Rattle.rationing.specs.Quotas.{quota_divided}
use Rattle.rationing.specs.Rounding.{rounded_step}

-- the claims up to and with one stay within the sum of all
pub claimed_within : (claims : List Kwh) (i : ℕ) → i < length claims → sum_kwh (take i claims) + (slice_index_or claims i (kwh 0)).0 ≤ sum_kwh claims
claimed_within claims i h =
    omega (arith, sum_by_more (λ (x : Kwh). x.0) claims i (kwh 0) h, sum_by-take-le (λ (x : Kwh). x.0) claims (i + 1))

module _ (a : ℕ) (claims : List Kwh) where
  -- the amount's part up to and with a claim is that up to it, and the claim's own
  pub running_more : (i : ℕ) → i < length claims → a * sum_kwh (take (i + 1) claims) ≡ a * sum_kwh (take i claims) + a * (slice_index_or claims i (kwh 0)).0
  running_more i h =
      ap (λ (n : ℕ). a * n) (sum_by_more (λ (x : Kwh). x.0) claims i (kwh 0) h)
      ∙ mul-add a (sum_kwh (take i claims)) (slice_index_or claims i (kwh 0)).0

  module _ (some : 0 < sum_kwh claims) where
    pub up_to_le : (i : ℕ) → i < length claims → up_to a claims i ≤ up_to a claims (i + 1)
    up_to_le i h =
        subst (λ (n : ℕ). up_to a claims i ≤ n / sum_kwh claims) (sym (running_more i h))
        (div_le_add (sum_kwh claims) some (a * sum_kwh (take i claims)) (a * (slice_index_or claims i (kwh 0)).0))

    steps_sum : (m : ℕ) → m ≤ length claims → sum_kwh (map (step_at a claims) (range_with_len 0 m)) ≡ up_to a claims m
    steps_sum zero h = omega (arith, div-le_self (a * 0) (sum_kwh claims))
    steps_sum (suc m) h =
        let more = sum_by-map-range_with_len_more (λ (x : Kwh). x.0) (step_at a claims) 0 m m (omega arith) in
        let rise = up_to_le m (omega arith) in
        let before = steps_sum m (omega arith) in
        subst (λ (n : ℕ). sum_kwh (map (step_at a claims) (range_with_len 0 n)) ≡ up_to a claims n) (add-one m) (omega arith)

    step_rounded : (i : ℕ) → i < length claims → Rounded (a * (slice_index_or claims i (kwh 0)).0) (sum_kwh claims) (step_at a claims i).0
    step_rounded i h =
        subst (λ (n : ℕ). Rounded (a * (slice_index_or claims i (kwh 0)).0) (sum_kwh claims) (n / sum_kwh claims - up_to a claims i)) (sym (running_more i h))
        (rounded_step (sum_kwh claims) some (a * sum_kwh (take i claims)) (a * (slice_index_or claims i (kwh 0)).0))

-- the running rule keeps the quota law
pub running_quota : (amount : Kwh) (claims : List Kwh) → Quota amount claims (running amount claims)
running_quota amount claims =
    let a = amount.0 in
    let n = length claims in
    let f = step_at a claims in
    quota_divided divided_along amount claims (length-map-range_with_len f 0 n)
    (λ h.
    let some : 0 < sum_kwh claims = omega arith in
    let all = ap (λ (xs : List Kwh). a * sum_kwh xs / sum_kwh claims) (take_all n claims (omega arith)) in
    steps_sum a claims some n (omega arith) ∙ all ∙ mul-div_cancel a some)
    (λ h k j.
    subst (λ (x : Kwh). Rounded (a * (slice_index_or claims k (kwh 0)).0) (sum_kwh claims) x.0)
    (sym (get_or-map-range_with_len f 0 n k k (kwh 0) j (omega arith)))
    (step_rounded a claims (omega arith) k j))
