-- The laws of flow and of service, for every rule that keeps the quota law.
use Rattle.std.specs.Prelude.{◌≡◌, ℕ, ◌+◌, ◌*◌, ◌/◌, ◌<◌, ◌≤◌, min, true, cond, List, nat_le}
use Rattle.energy.specs.declared.direction.Direction.{Direction}
use Rattle.energy.specs.declared.unit.Kwh.{Kwh}
use Rattle.energy.specs.Directions.{other}
use Rattle.energy.specs.Grids.{sum_to}
use Rattle.rationing.specs.Quota.{Quota}
use Rattle.allocation.specs.Allocation.{Rule, traded, matched, unmatched, volume, allocated, sent, received, flow}
use Rattle.allocation.specs.Periods.{Period, Way, way}

-- A rule keeps the quota law at every amount and every list of claims.
abbrev pub Keeps : Rule → Type 0
Keeps rule = (amount : Kwh) (claims : List Kwh) → Quota amount claims (rule amount claims)

-- A sender's scaled entitlement is its entitlement in kWh when those of its side sum to at most the net transfer capacity,
-- and otherwise entitlement × capacity / sum, rounded down.
abbrev pub scaled : Way → ℕ → ℕ
scaled w i =
    cond (nat_le (sum_to w.senders w.entitlement) w.ntc) (w.entitlement i)
    (w.entitlement i * w.ntc / sum_to w.senders w.entitlement)

-- Validated matches stay within validated trade, for each sender of each direction.
abbrev pub Fits : Period → Type 0
Fits p = (d : Direction) (i : ℕ) → i < (way p d).senders → matched (way p d) i ≤ traded (way p d) i

-- What holds where a direction's total is at least the other's.
pub record Law (rule : Rule) (p : Period) (d : Direction) : Type 0 where
  -- the net flow is within the net transfer capacity
  pub within : flow rule p d ≤ (way p d).ntc + flow rule p (other d)
  -- and fills it where a sender gets less than its validated trade
  pub used : (i : ℕ) → i < (way p d).senders → sent rule p d i < traded (way p d) i → flow rule p d ≡ (way p d).ntc + flow rule p (other d)
  -- each sender gets its matched trade and at least the lesser of its unmatched trade and its scaled entitlement
  pub least : (i : ℕ) → i < (way p d).senders → matched (way p d) i + min (unmatched (way p d) i) (scaled (way p d) i) ≤ sent rule p d i
  -- and at most its validated trade
  pub most : (i : ℕ) → i < (way p d).senders → sent rule p d i ≤ traded (way p d) i
  -- trade against the flow is whole
  pub against : (i j : ℕ) → allocated rule p (other d) i j ≡ (way p (other d)).trade i j

-- In service the law holds of the dominant direction, and of either at equal totals.
abbrev pub Lawful : Rule → Period → Type 0
Lawful rule p = p.service ≡ true → (d : Direction) → volume (way p (other d)) ≤ volume (way p d) → Law rule p d

-- For every rule that keeps the quota law, and every period whose matches stay within the trades.
abbrev pub LawOfFlow : Type 0
LawOfFlow = (rule : Rule) → Keeps rule → (p : Period) → Fits p → Lawful rule p

-- For every rule, what the senders of a direction get is what its receivers get.
abbrev pub FlowsMeet : Type 0
FlowsMeet = (rule : Rule) (p : Period) (d : Direction) → flow rule p d ≡ sum_to (way p d).receivers (received rule p d)
