-- Which lists of claims a rule answers, and what it says to the others.
use Rattle.std.specs.Prelude.{ℕ, Bool, cond, ◌&&◌, List, ◌++◌, length, Ok, Err, codes, decimal, Result, ◌==◌, nat_le}
use Rattle.energy.specs.declared.unit.Kwh.{Kwh}
use Rattle.energy.specs.Totals.{sum_kwh}
use Rattle.energy.specs.Units.{kwh}
use Rattle.rationing.specs.declared.refusal.RationingRefusal.{RationingRefusal}
use Rattle.rationing.specs.declared.refusal.RationingRefusal.TheVariants.{ClaimsOutsideLimits}

-- A rule answers as many awards as there are claims, at most 16, whose sum is at most 2,559,999,744 kWh.
abbrev pub admits : List Kwh → ℕ → Bool
admits claims places = length claims == places && (nat_le (length claims) 16 && nat_le (sum_kwh claims) 2559999744)

-- The number of each refusal.
abbrev pub refusal_number : RationingRefusal → ℕ
refusal_number ClaimsOutsideLimits = 20

-- A refusal is written with its number.
abbrev pub refusal_text : RationingRefusal → List ℕ
refusal_text refusal = codes "refused " ++ decimal (refusal_number refusal)

-- A rule grants the claims that it admits, and refuses the others.
abbrev pub answered : Bool → Result (Unit {0}) RationingRefusal
answered b = cond b (Ok tt) (Err ClaimsOutsideLimits)

-- The sum of admitted claims, or the refusal.
abbrev pub admission : List Kwh → ℕ → Result Kwh RationingRefusal
admission claims places = cond (admits claims places) (Ok (kwh (sum_kwh claims))) (Err ClaimsOutsideLimits)
