-- The sum of the first figures of a row.
use Rattle.std.proofs.Common.{◌≡◌, ℕ, zero, suc, ◌+◌, ◌^◌, ◌<◌, ◌≤◌, List, length, take, sym, refl, ap, ◌∙◌, subst, ⊎_elim, add-one, arith}
use Rattle.std.proofs.lemmas.List.{take_all, get_or_past}
use Rattle.std.proofs.lemmas.List.Sums.{sum_by_more}
use Rattle.std.proofs.lemmas.Bool.{cases_lt}
use Rattle.energy.specs.declared.unit.Kwh.{Kwh}
use Rattle.energy.specs.Grids.{sum_to, figure_at}
use Rattle.energy.specs.Totals.{sum_kwh}
use Rattle.energy.specs.Units.{kwh}
use Rattle.energy.proofs.Grids.{sum_to_bound}

-- past its end a row has nil, so that the sum by number takes nothing more than the row's own
pub sum_front : (n : ℕ) (xs : List Kwh) → sum_kwh (take n xs) ≡ sum_to n (figure_at xs)
sum_front zero xs = refl
sum_front (suc n) xs =
    let before = sum_front n xs in
    let next : sum_kwh (take (n + 1) xs) ≡ sum_to n (figure_at xs) + figure_at xs n =
    ⊎_elim
    (λ (h : n < length xs). omega (arith, sum_by_more (λ (x : Kwh). x.0) xs n (kwh 0) h))
    (λ (h : length xs ≤ n).
    let nil : figure_at xs n ≡ 0 = ap (λ (x : Kwh). x.0) (get_or_past xs n (kwh 0) h) in
    let same = ap sum_kwh (take_all (n + 1) xs (omega arith) ∙ sym (take_all n xs h)) in
    omega arith)
    (cases_lt n (length xs)) in
    subst (λ (m : ℕ). sum_kwh (take m xs) ≡ sum_to n (figure_at xs) + figure_at xs n) (add-one n) next

-- at most 16 figures of at most what one party can trade have a sum of 64 bits
pub front_small : (n : ℕ) (xs : List Kwh) → n ≤ 16 → ((k : ℕ) → k < n → figure_at xs k ≤ 159999984) → sum_kwh (take n xs) < 2 ^ 64
front_small n xs few small = omega (arith, sum_front n xs, sum_to_bound n 159999984 (figure_at xs) small)
