use Rattle.std.proofs.Common.{◌*◌, arith}
use Rattle.rationing.proofs.Fractions.{exact_part}
use Rattle.rationing.proofs.share.partial_share.Goals as goal

pub returns : goal.returns
returns c =
    exact_part (c.args.shortfall.amount.0 * c.args.claim.0) c.args.shortfall.sum.0 c.divided-whole.result.0 c.divided-whole.result.1 c.common_divisor-common.result
    (omega arith) c.divided-whole.ensures.whole c.divided-whole.ensures.rest c.common_divisor-common.ensures
