use Rattle.std.proofs.Common.{sym, arith, rules}
use Rattle.nomination.proofs.Digiting.{number_below}
use Rattle.nomination.proofs.numbers.read_period.Goals as goal

pub overflow_cast-result : goal.overflow_cast-result
overflow_cast-result c =
    let small = number_below 2 c.args.text.now c.in_ok-number.field-0 (omega arith) (sym c.in_ok-number.ensures) in
    search rules
