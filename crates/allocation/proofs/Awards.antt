-- What the quota law says of one party's award.
use Rattle.std.proofs.Common.{◌≡◌, ℕ, ◌*◌, ◌/◌, ◌<◌, ◌≤◌, min, ap, ◌∙◌, subst, ⊎_elim, arith}
use Rattle.std.proofs.lemmas.Bool.{cases_lt}
use Rattle.std.proofs.lemmas.List.{get_or_past}
use Rattle.energy.specs.declared.unit.Kwh.{Kwh}
use Rattle.energy.specs.Grids.{sum_to, listed, figure_at}
use Rattle.energy.specs.Totals.{sum_kwh}
use Rattle.energy.specs.Units.{kwh}
use Rattle.energy.proofs.Grids.{length_listed, figure_listed, sum_listed, sum_figures}
use Rattle.rationing.specs.Quota.{Quota, Rounded}
use Rattle.rationing.specs.Rounding.{rounded_most, rounded_least}
use Rattle.allocation.specs.Allocation.{Rule, award}
use Rattle.allocation.specs.Laws.{Keeps}

module _ (rule : Rule) (law : Keeps rule) (a n : ℕ) (f : ℕ → ℕ) where
  quota : Quota (kwh a) (listed n f) (rule (kwh a) (listed n f))
  quota = law (kwh a) (listed n f)

  pub award_whole : (k : ℕ) → k < n → sum_to n f ≤ a → award rule a n f k ≡ f k
  award_whole k h cover =
      ap (λ xs. figure_at xs k) (quota.whole (omega (arith, sum_listed n f))) ∙ figure_listed n f k h

  -- a share of an amount below the sum, rounded
  shared : (k : ℕ) → k < n → a < sum_to n f → Rounded (a * f k) (sum_to n f) (award rule a n f k)
  shared k h short =
      let claim = figure_listed n f k h in
      let all = sum_listed n f in
      subst (λ (s : ℕ). Rounded (a * f k) s (award rule a n f k)) all
      (subst (λ (c : ℕ). Rounded (a * c) (sum_kwh (listed n f)) (award rule a n f k)) claim
      (quota.shared (omega arith) k (omega (arith, length_listed n f))))

  -- past the claims there are none
  award_past : (k : ℕ) → n ≤ k → award rule a n f k ≡ 0
  award_past k h =
      ap (λ (x : Kwh). x.0) (get_or_past (rule (kwh a) (listed n f)) k (kwh 0) (omega (arith, quota.long, length_listed n f)))

  pub award_le : (k : ℕ) → award rule a n f k ≤ f k
  award_le k =
      ⊎_elim (λ (h : k < n).
      ⊎_elim (λ short. rounded_most a (f k) (sum_to n f) (award rule a n f k) short (shared k h short))
      (λ cover. omega (arith, award_whole k h cover))
      (cases_lt a (sum_to n f)))
      (λ (h : n ≤ k). omega (arith, award_past k h))
      (cases_lt k n)

  pub award_ge : (k : ℕ) → k < n → a < sum_to n f → a * f k / sum_to n f ≤ award rule a n f k
  award_ge k h short = rounded_least (a * f k) (sum_to n f) (award rule a n f k) (omega arith) (shared k h short)

  pub awards_sum : sum_to n (award rule a n f) ≡ min a (sum_to n f)
  awards_sum =
      let all = sum_listed n f in
      let figures = sum_figures (rule (kwh a) (listed n f)) n (omega (arith, quota.long, length_listed n f)) in
      ⊎_elim (λ short. omega (arith, quota.used (omega arith)))
      (λ cover. omega (arith, ap sum_kwh (quota.whole (omega arith))))
      (cases_lt a (sum_to n f))
