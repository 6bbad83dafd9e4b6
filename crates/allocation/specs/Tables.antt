-- One direction of a period as the code holds it, and the limits that it keeps.
use Rattle.std.specs.Prelude.{ℕ, ◌≤◌}
use Rattle.energy.specs.Grids.{figure_at}
use Rattle.allocation.specs.Allocation.{traded, matched}
use Rattle.allocation.specs.Periods.{Way}
use Rattle.allocation.specs.Told.{grid_at}
use Rattle.allocation.specs.declared.table.Table.{Table}

-- The direction that a table stands for.
abbrev pub way_of : Table → Way
way_of t = record {
  senders = t.senders;
  receivers = t.receivers;
  trade = grid_at t.trade;
  matches = grid_at t.matches;
  entitlement = figure_at t.entitlement;
  ntc = t.ntc.0;
}

-- At most 16 parties on each side, amounts of at most 9,999,999 kWh, entitlements of at most 159,984 MW in kWh, a capacity
-- that 32 bits hold in MW, and matches within trades.
pub record Sound (w : Way) : Type 0 where
  pub sending : w.senders ≤ 16
  pub receiving : w.receivers ≤ 16
  pub trades : (i j : ℕ) → w.trade i j ≤ 9999999
  pub matches : (i j : ℕ) → w.matches i j ≤ 9999999
  pub entitled : (i : ℕ) → w.entitlement i ≤ 79992000
  pub capacity : w.ntc ≤ 2147483647500
  pub fits : (i : ℕ) → matched w i ≤ traded w i
