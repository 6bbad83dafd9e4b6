-- Allocations as they are shown.
use Rattle.std.specs.Prelude.{ℕ, ◌-◌, Bool, cond, ◌&&◌, List, nat_lt}
use Rattle.energy.specs.declared.direction.Direction.{Direction}
use Rattle.energy.specs.declared.direction.Direction.TheVariants.{NorthSouth, SouthNorth}
use Rattle.energy.specs.declared.unit.Kwh.{Kwh}
use Rattle.allocation.specs.Allocation.{Rule, volume, rationed, allocated}
use Rattle.allocation.specs.Periods.{Period, Way, way}
use Rattle.allocation.specs.Told.{grid_at}
use Rattle.allocation.specs.declared.allocating.Treatment.{Treatment}
use Rattle.allocation.specs.declared.allocating.Treatment.TheVariants.{Nil, Cut, Whole}
use Rattle.allocation.specs.declared.shown.Allocations.{Allocations}

-- A total passes the other by more than the capacity.
abbrev pub cut_by : ℕ → ℕ → ℕ → Bool
cut_by total against capacity = nat_lt against total && nat_lt capacity (total - against)

-- Out of service a direction is nil; in service it is cut, or whole.
abbrev pub treatment : Bool → ℕ → ℕ → ℕ → Treatment
treatment on total against capacity = cond on (cond (cut_by total against capacity) Cut Whole) Nil

-- One direction's allocations, beside the other direction.
abbrev pub way_allocated : Rule → Bool → Way → Way → ℕ → ℕ → ℕ
way_allocated rule on w v i j =
    cond on (cond (cut_by (volume w) (volume v) w.ntc) (rationed rule w (volume v) i j) (w.trade i j)) 0

-- The figure of a sender and a receiver, nil where either is not registered.
abbrev pub figure_within : List (List Kwh) → ℕ → ℕ → ℕ → ℕ → ℕ
figure_within g sending receiving i j = cond (nat_lt i sending && nat_lt j receiving) (grid_at g i j) 0

-- What is shown of a direction.
abbrev pub shown_in : Allocations → Direction → ℕ → ℕ → ℕ
shown_in a NorthSouth i j = figure_within a.ns.grid a.ns.senders a.ns.receivers i j
shown_in a SouthNorth i j = figure_within a.sn.grid a.sn.senders a.sn.receivers i j

-- What is allocated to registered parties, and nil to others.
abbrev pub allocated_in : Rule → Period → Direction → ℕ → ℕ → ℕ
allocated_in rule p d i j = cond (nat_lt i (way p d).senders && nat_lt j (way p d).receivers) (allocated rule p d i j) 0
