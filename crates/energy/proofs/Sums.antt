-- Sums over a list, place by place.
use Rattle.std.proofs.Common.{◌≡◌, ℕ, ◌+◌, ◌*◌, ◌≤◌, List, [], ◌∷◌, sym, refl, ap, ◌∙◌, mul-add, arith}
use Rattle.std.proofs.lemmas.List.Sums.{sum_by-cons}
use Rattle.energy.specs.Totals.{sum_of}

module _ {X : Type 0} where
  -- larger figures have a larger sum
  pub sum_le : (f g : X → ℕ) → ((x : X) → f x ≤ g x) → (xs : List X) → sum_of f xs ≤ sum_of g xs
  sum_le f g h [] = omega arith
  sum_le f g h (x ∷ xs) = omega (arith, sum_by-cons f x xs, sum_by-cons g x xs, sum_le f g h xs, h x)

  pub sum_add : (f g : X → ℕ) (xs : List X) → sum_of (λ x. f x + g x) xs ≡ sum_of f xs + sum_of g xs
  sum_add f g [] = refl
  sum_add f g (x ∷ xs) =
      omega (arith, sum_by-cons (λ (y : X). f y + g y) x xs, sum_by-cons f x xs, sum_by-cons g x xs, sum_add f g xs)

  pub sum_times : (k : ℕ) (f : X → ℕ) (xs : List X) → sum_of (λ x. k * f x) xs ≡ k * sum_of f xs
  sum_times k f [] = omega arith
  sum_times k f (x ∷ xs) =
      sum_by-cons (λ (y : X). k * f y) x xs ∙ ap (λ (n : ℕ). k * f x + n) (sum_times k f xs)
      ∙ sym (ap (λ (n : ℕ). k * n) (sum_by-cons f x xs) ∙ mul-add k (f x) (sum_of f xs))
