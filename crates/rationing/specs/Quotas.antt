-- A rule that gives each its claim where the amount covers the claims owes the quota law only elsewhere.
use Rattle.std.specs.Prelude.{◌≡◌, ℕ, ◌*◌, ◌<◌, List, length, slice_index_or, refl}
use Rattle.std.proofs.Common.{ap, subst, sym, ◌∙◌}
use Rattle.std.proofs.lemmas.Bool.{cond_both, cond-true, cond-false, le-leb, lt-leb}
use Rattle.energy.specs.declared.unit.Kwh.{Kwh}
use Rattle.energy.specs.Totals.{sum_kwh}
use Rattle.energy.specs.Units.{kwh}
use Rattle.rationing.specs.Quota.{Quota, Rounded, whole_or}

module _ (divide : Kwh → List Kwh → List Kwh) (amount : Kwh) (claims : List Kwh) where
  otherwise : amount.0 < sum_kwh claims → whole_or divide amount claims ≡ divide amount claims
  otherwise h = cond-false _ claims (divide amount claims) (lt-leb (sum_kwh claims) amount.0 h)

  pub quota_divided : length (divide amount claims) ≡ length claims → (amount.0 < sum_kwh claims → sum_kwh (divide amount claims) ≡ amount.0) → (amount.0 < sum_kwh claims → (k : ℕ) → k < length claims → Rounded (amount.0 * (slice_index_or claims k (kwh 0)).0) (sum_kwh claims) (slice_index_or (divide amount claims) k (kwh 0)).0) → Quota amount claims (whole_or divide amount claims)
  quota_divided long used shared = record {
    long = cond_both _ claims (divide amount claims) (λ (xs : List Kwh). length xs ≡ length claims) (λ _. refl) (λ _. long);
    whole = λ h. cond-true _ claims (divide amount claims) (le-leb (sum_kwh claims) amount.0 h);
    used = λ h. ap sum_kwh (otherwise h) ∙ used h;
    shared = λ h k j. subst (λ (xs : List Kwh). Rounded (amount.0 * (slice_index_or claims k (kwh 0)).0) (sum_kwh claims) (slice_index_or xs k (kwh 0)).0) (sym (otherwise h)) (shared h k j);
  }
