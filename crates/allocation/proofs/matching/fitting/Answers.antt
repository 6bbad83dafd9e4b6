use Rattle.std.proofs.Common.{ℕ, ◌^◌, ◌<◌, [], get_or, take, arith}
use Rattle.std.proofs.iter.Serving.{serving}
use Rattle.energy.specs.Totals.{sum_kwh}
use Rattle.allocation.proofs.Summing.{front_small}
use Rattle.allocation.proofs.matching.fitting.Goals as goal

pub from_fn-requires : goal.from_fn-requires
from_fn-requires c =
    let n = c.args.n in
    let matches : (i : ℕ) → sum_kwh (take n (get_or c.args.agreed.now i [])) < 2 ^ 64 =
    λ i. front_small n (get_or c.args.agreed.now i []) c.requires.few (λ j _. omega (arith, c.requires.matches i j)) in
    let trades : (i : ℕ) → sum_kwh (take n (get_or c.args.trade.now i [])) < 2 ^ 64 =
    λ i. front_small n (get_or c.args.trade.now i []) c.requires.few (λ j _. omega (arith, c.requires.trades i j)) in
    grind serving
