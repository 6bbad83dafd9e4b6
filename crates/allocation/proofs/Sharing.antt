-- What a rule answers to claims within its limits.
use Rattle.std.proofs.Common.{◌≡◌, ℕ, ◌-◌, ◌<◌, ◌≤◌, true, cond, List, ◌++◌, length, get_or, take, drop, replicate, sym, refl, ap, ◌∙◌, ⊎_elim, arith}
use Rattle.std.proofs.lemmas.List.{length-take-le, get_or_past, get_or_append_left, get_or-append_right, drop-replicate}
use Rattle.std.proofs.lemmas.Bool.{cases_lt, cond-true}
use Rattle.std.proofs.lemmas.Bool.Decides.{nat_tests}
use Rattle.energy.specs.declared.unit.Kwh.{Kwh}
use Rattle.energy.specs.Grids.{figure_at}
use Rattle.energy.specs.Totals.{sum_kwh}
use Rattle.energy.specs.Units.{kwh}
use Rattle.energy.proofs.Grids.{sum_to_bound}
use Rattle.rationing.specs.Admission.{admits}
use Rattle.allocation.specs.Allocation.{Rule}
use Rattle.allocation.proofs.Filling.{nil_row}
use Rattle.allocation.proofs.Summing.{sum_front}

-- nothing after a list changes none of its figures
nil_after : (xs : List Kwh) (m : ℕ) → figure_at (xs ++ replicate m (kwh 0)) ≡ figure_at xs
nil_after xs m =
    let at : (k : ℕ) → get_or (xs ++ replicate m (kwh 0)) k (kwh 0) ≡ get_or xs k (kwh 0) =
    λ k. ⊎_elim (λ (h : k < length xs). get_or_append_left xs (replicate m (kwh 0)) (kwh 0) k h)
    (λ (h : length xs ≤ k).
    get_or-append_right xs (replicate m (kwh 0)) (length xs) k (kwh 0) refl h ∙ nil_row m (k - length xs) ∙ sym (get_or_past xs k (kwh 0) h))
    (cases_lt k (length xs)) in
    λ i k. (at k i).0

-- at most 16 claims of at most what one party can trade are within the limits
pub claims_small : (n : ℕ) (xs : List Kwh) → n ≤ 16 → ((k : ℕ) → k < n → figure_at xs k ≤ 159999984) → sum_kwh (take n xs) ≤ 2559999744
claims_small n xs few small = omega (arith, sum_front n xs, sum_to_bound n 159999984 (figure_at xs) small)

pub answered : (rule : Rule) (amount : Kwh) (claims new : List Kwh) → length claims ≤ 16 → sum_kwh claims ≤ 2559999744 → new ≡ cond (admits claims (length (take (length claims) (replicate 16 (kwh 0))))) (rule amount claims) (take (length claims) (replicate 16 (kwh 0))) → figure_at (new ++ drop (length claims) (replicate 16 (kwh 0))) ≡ figure_at (rule amount claims)
answered rule amount claims new few small written =
    let blank : List Kwh = replicate 16 (kwh 0) in
    let before : length (take (length claims) blank) ≡ length claims = length-take-le (length claims) blank few in
    let admitted : admits claims (length (take (length claims) blank)) ≡ true = grind (arith, nat_tests) in
    ap (λ (xs : List Kwh). figure_at (xs ++ drop (length claims) blank)) (written ∙ cond-true (admits claims (length (take (length claims) blank))) (rule amount claims) (take (length claims) blank) admitted)
    ∙ ap (λ (ys : List Kwh). figure_at (rule amount claims ++ ys)) (drop-replicate (length claims) 16 (kwh 0))
    ∙ nil_after (rule amount claims) (16 - length claims)
