use Rattle.std.proofs.Common.{arith}
use native.Mathlib.Nat.{eq-one_of_dvd-one}
use Rattle.rationing.proofs.share.whole_share.Goals as goal

-- a whole number is itself over 1
pub returns : goal.returns
returns c = record { value = omega arith; proper = omega arith; lowest = λ k m n. eq-one_of_dvd-one n }
