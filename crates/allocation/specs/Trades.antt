-- Validated trades and matches.
use Rattle.std.specs.Prelude.{ℕ, Bool, cond, ◌&&◌, List, Some, None, Option, ◌==◌, nat_le}
use Rattle.std.specs.Option.{option_map}
use Rattle.energy.specs.declared.side.Side.TheVariants.{Northern, Southern}
use Rattle.energy.specs.Grids.{sum_to}
use Rattle.book.specs.declared.filed_row.FiledKind.TheVariants.{Trade, Match}
use Rattle.book.specs.declared.filed_row.FiledRow.{FiledRow}
use Rattle.allocation.specs.Cells.{filed, key_of}

-- What both filed alike stands; what one filed alone, or they filed differently, is nil.
abbrev pub alike : Option ℕ → Option ℕ → ℕ
alike None o = 0
alike (Some a) None = 0
alike (Some a) (Some b) = cond (a == b) a 0

-- A trade is validated in one direction when both parties filed the same kWh there; flags play no part.
abbrev pub validated : (FiledRow → ℕ) → List FiledRow → ℕ → ℕ → ℕ → ℕ
validated amount xs p n s =
    alike (option_map amount (filed xs (key_of p Trade Northern n s))) (option_map amount (filed xs (key_of p Trade Southern n s)))

abbrev pub valid_ns : List FiledRow → ℕ → ℕ → ℕ → ℕ
valid_ns = validated (λ x. x.ns.0)

abbrev pub valid_sn : List FiledRow → ℕ → ℕ → ℕ → ℕ
valid_sn = validated (λ x. x.sn.0)

-- A match is agreed when both filed it and all four amounts are equal.
abbrev pub same_four : Option FiledRow → Option FiledRow → ℕ
same_four None o = 0
same_four (Some a) None = 0
same_four (Some a) (Some b) = cond (a.ns.0 == a.sn.0 && (a.ns.0 == b.ns.0 && a.ns.0 == b.sn.0)) a.ns.0 0

abbrev pub agreed : List FiledRow → ℕ → ℕ → ℕ → ℕ
agreed xs p n s = same_four (filed xs (key_of p Match Northern n s)) (filed xs (key_of p Match Southern n s))

-- A Northern party's agreed matches fit when they total at most its validated NS trade, a Southern party's when they total
-- at most its validated SN trade. The totals take every agreed match.
abbrev pub north_fits : ℕ → List FiledRow → ℕ → ℕ → Bool
north_fits south xs p n = nat_le (sum_to south (agreed xs p n)) (sum_to south (valid_ns xs p n))

abbrev pub south_fits : ℕ → List FiledRow → ℕ → ℕ → Bool
south_fits north xs p s = nat_le (sum_to north (λ n. agreed xs p n s)) (sum_to north (λ n. valid_sn xs p n s))

-- An agreed match is validated exactly when those of both its parties fit.
abbrev pub valid_match : ℕ → ℕ → List FiledRow → ℕ → ℕ → ℕ → ℕ
valid_match north south xs p n s = cond (north_fits south xs p n && south_fits north xs p s) (agreed xs p n s) 0
