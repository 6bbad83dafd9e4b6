-- Figures by number: of each of n parties, or of each pair.
use Rattle.std.specs.Prelude.{ℕ, zero, suc, ◌+◌, List, map, slice_index_or}
use Rattle.std.specs.List.{range_with_len}
use Rattle.energy.specs.declared.unit.Kwh.{Kwh}
use Rattle.energy.specs.Units.{kwh}

-- The sum of the figures of the numbers below n.
abbrev pub sum_to : ℕ → (ℕ → ℕ) → ℕ
sum_to zero f = 0
sum_to (suc n) f = sum_to n f + f n

-- The figures of the numbers below n, as a list of energies.
abbrev pub listed : ℕ → (ℕ → ℕ) → List Kwh
listed n f = map (λ i. kwh (f i)) (range_with_len 0 n)

-- The figure at a place of a list of energies.
abbrev pub figure_at : List Kwh → ℕ → ℕ
figure_at energies k = (slice_index_or energies k (kwh 0)).0
