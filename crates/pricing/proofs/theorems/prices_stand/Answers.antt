use Rattle.std.proofs.Common.{pos, negsuc, refl, inl, inr, arith}
use Rattle.std.proofs.lemmas.Int.{ints}
use Rattle.pricing.specs.Theorems.{EitherWay}
use Rattle.pricing.proofs.Tables.{factor_range}
use Rattle.pricing.proofs.theorems.prices_stand.Goals as goal

either_way : EitherWay
either_way (pos n) = (inr refl, omega (arith, ints))
either_way (negsuc n) = (inl refl, omega (arith, ints))

pub returns-clause-factor_range : goal.returns-clause-factor_range
returns-clause-factor_range c = factor_range

pub returns-clause-either_way : goal.returns-clause-either_way
returns-clause-either_way c = either_way
