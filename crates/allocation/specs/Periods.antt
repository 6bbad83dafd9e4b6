-- A period as its trades, capacities and service stand, and how it looks in each direction.
use Rattle.std.specs.Prelude.{ℕ, Bool}
use Rattle.energy.specs.declared.direction.Direction.{Direction}
use Rattle.energy.specs.declared.direction.Direction.TheVariants.{NorthSouth, SouthNorth}
use Rattle.energy.specs.declared.unit.Mw.{Mw}
use Rattle.energy.specs.Units.{half_hour}

-- How many parties each side has, their validated trades and matches by Northern and Southern party, their entitlements,
-- the net transfer capacity of each direction, and whether the link is in service.
pub record Period : Type 0 where
  pub north : ℕ
  pub south : ℕ
  pub ns : ℕ → ℕ → ℕ
  pub sn : ℕ → ℕ → ℕ
  pub matches : ℕ → ℕ → ℕ
  pub northern : ℕ → Mw
  pub southern : ℕ → Mw
  pub ns_ntc : Mw
  pub sn_ntc : Mw
  pub service : Bool

-- One direction of a period: its senders and receivers, the trade and the matches of each sender with each receiver, each
-- sender's entitlement and the net transfer capacity, in kWh.
pub record Way : Type 0 where
  pub senders : ℕ
  pub receivers : ℕ
  pub trade : ℕ → ℕ → ℕ
  pub matches : ℕ → ℕ → ℕ
  pub entitlement : ℕ → ℕ
  pub ntc : ℕ

-- Northern parties send NS, Southern parties SN.
abbrev pub way : Period → Direction → Way
way p NorthSouth = record {
  senders = p.north;
  receivers = p.south;
  trade = p.ns;
  matches = p.matches;
  entitlement = λ n. (half_hour (p.northern n)).0;
  ntc = (half_hour p.ns_ntc).0;
}
way p SouthNorth = record {
  senders = p.south;
  receivers = p.north;
  trade = λ s n. p.sn n s;
  matches = λ s n. p.matches n s;
  entitlement = λ s. (half_hour (p.southern s)).0;
  ntc = (half_hour p.sn_ntc).0;
}
