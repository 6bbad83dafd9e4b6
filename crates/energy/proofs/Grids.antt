-- Sums of figures by number.
use Rattle.std.proofs.Common.{◌≡◌, ℕ, zero, suc, ◌+◌, ◌*◌, ◌<◌, ◌≤◌, List, length, take, sym, refl, ap, ◌∙◌, subst, suc-mul, add-one, arith}
use Rattle.std.proofs.lemmas.List.FromFn.{length-map-range_with_len, get_or-map-range_with_len, sum_by-map-range_with_len_more}
use Rattle.std.proofs.lemmas.List.{take_all}
use Rattle.std.proofs.lemmas.List.Sums.{sum_by_more}
use Rattle.energy.specs.declared.unit.Kwh.{Kwh}
use Rattle.energy.specs.Grids.{sum_to, listed, figure_at}
use Rattle.energy.specs.Totals.{sum_kwh}
use Rattle.energy.specs.Units.{kwh}

pub sum_to_more : (n : ℕ) (f : ℕ → ℕ) → sum_to (n + 1) f ≡ sum_to n f + f n
sum_to_more n f = ap (λ (m : ℕ). sum_to m f) (add-one n)

pub sum_to_le : (n : ℕ) (f g : ℕ → ℕ) → ((k : ℕ) → k < n → f k ≤ g k) → sum_to n f ≤ sum_to n g
sum_to_le zero f g h = omega arith
sum_to_le (suc n) f g h = omega (arith, sum_to_le n f g (λ k j. h k (omega arith)), h n (omega arith))

pub sum_to_same : (n : ℕ) (f g : ℕ → ℕ) → ((k : ℕ) → k < n → f k ≡ g k) → sum_to n f ≡ sum_to n g
sum_to_same zero f g h = refl
sum_to_same (suc n) f g h = omega (arith, sum_to_same n f g (λ k j. h k (omega arith)), h n (omega arith))

pub sum_to_none : (n : ℕ) → sum_to n (λ _. 0) ≡ 0
sum_to_none zero = refl
sum_to_none (suc n) = omega (arith, sum_to_none n)

pub sum_to_add : (n : ℕ) (f g : ℕ → ℕ) → sum_to n (λ k. f k + g k) ≡ sum_to n f + sum_to n g
sum_to_add zero f g = refl
sum_to_add (suc n) f g = omega (arith, sum_to_add n f g)

-- the sum of a grid by rows is its sum by columns
pub sum_to_swap : (m n : ℕ) (f : ℕ → ℕ → ℕ) → sum_to m (λ i. sum_to n (f i)) ≡ sum_to n (λ j. sum_to m (λ i. f i j))
sum_to_swap zero n f = sym (sum_to_none n)
sum_to_swap (suc m) n f = omega (arith, sum_to_swap m n f, sum_to_add n (λ j. sum_to m (λ i. f i j)) (f m))

pub sum_to_bound : (n m : ℕ) (f : ℕ → ℕ) → ((k : ℕ) → k < n → f k ≤ m) → sum_to n f ≤ n * m
sum_to_bound zero m f h = omega arith
sum_to_bound (suc n) m f h =
    omega (arith, suc-mul n m, sum_to_bound n m f (λ k j. h k (omega arith)), h n (omega arith))

pub length_listed : (n : ℕ) (f : ℕ → ℕ) → length (listed n f) ≡ n
length_listed n f = length-map-range_with_len (λ (i : ℕ). kwh (f i)) 0 n

pub figure_listed : (n : ℕ) (f : ℕ → ℕ) (k : ℕ) → k < n → figure_at (listed n f) k ≡ f k
figure_listed n f k h = ap (λ (x : Kwh). x.0) (get_or-map-range_with_len (λ (i : ℕ). kwh (f i)) 0 n k k (kwh 0) h (omega arith))

pub sum_listed : (n : ℕ) (f : ℕ → ℕ) → sum_kwh (listed n f) ≡ sum_to n f
sum_listed zero f = refl
sum_listed (suc n) f =
    let more = sum_by-map-range_with_len_more (λ (x : Kwh). x.0) (λ (i : ℕ). kwh (f i)) 0 n n (omega arith) in
    let before = sum_listed n f in
    subst (λ (m : ℕ). sum_kwh (listed m f) ≡ sum_to n f + f n) (add-one n) (omega arith)

-- a list's sum is that of its figures
sum_front : (xs : List Kwh) (n : ℕ) → n ≤ length xs → sum_kwh (take n xs) ≡ sum_to n (figure_at xs)
sum_front xs zero h = refl
sum_front xs (suc n) h =
    let more = sum_by_more (λ (x : Kwh). x.0) xs n (kwh 0) (omega arith) in
    let before = sum_front xs n (omega arith) in
    subst (λ (m : ℕ). sum_kwh (take m xs) ≡ sum_to n (figure_at xs) + figure_at xs n) (add-one n) (omega arith)

pub sum_figures : (xs : List Kwh) (n : ℕ) → length xs ≡ n → sum_kwh xs ≡ sum_to n (figure_at xs)
sum_figures xs n e = ap sum_kwh (sym (take_all n xs (omega arith))) ∙ sum_front xs n (omega arith)
