-- Sides and directions.
use Rattle.std.specs.Prelude.{ℕ, List, codes}
use Rattle.energy.specs.declared.side.Side.{Side}
use Rattle.energy.specs.declared.side.Side.TheVariants.{Northern, Southern}
use Rattle.energy.specs.declared.direction.Direction.{Direction}
use Rattle.energy.specs.declared.direction.Direction.TheVariants.{NorthSouth, SouthNorth}

-- Each side faces the other.
abbrev pub facing : Side → Side
facing Northern = Southern
facing Southern = Northern

-- The direction against a direction.
abbrev pub other : Direction → Direction
other NorthSouth = SouthNorth
other SouthNorth = NorthSouth

-- The Northern party sends an NS trade, the Southern party an SN trade.
abbrev pub sender : Direction → Side
sender NorthSouth = Northern
sender SouthNorth = Southern

-- The party that does not send a trade receives it.
abbrev pub receiver : Direction → Side
receiver d = facing (sender d)

-- A side sends in the direction that leads away from it.
abbrev pub sends : Side → Direction
sends Northern = NorthSouth
sends Southern = SouthNorth

-- A direction is written NS or SN.
abbrev pub direction_text : Direction → List ℕ
direction_text NorthSouth = codes "NS"
direction_text SouthNorth = codes "SN"
