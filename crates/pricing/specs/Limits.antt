-- The largest energies and rates that are priced.
use Rattle.std.specs.Prelude.{ℕ, ◌*◌, cond, Some, None, Option, nat_le}

-- A base, a nomination, an actual demand, an export and a spill are at most 200,000,000 kWh.
abbrev pub most_energy : ℕ
most_energy = 200000000

-- A shortage is at most 400,000,000 kWh, the largest actual demand and the largest export together.
abbrev pub most_shortage : ℕ
most_shortage = 2 * most_energy

-- A makeup rate is at most 100,000 millipence per kWh.
abbrev pub most_rate : ℕ
most_rate = 100000

-- An amount where it is at most so many of its unit, and none where it is more.
abbrev pub up_to : {A : Type 0} → (A → ℕ) → ℕ → A → Option A
up_to count most amount = cond (nat_le (count amount) most) (Some amount) None
