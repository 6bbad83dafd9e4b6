use Rattle.std.proofs.Common.{[], get_or, arith}
use Rattle.allocation.proofs.Summing.{sum_front, front_small}
use Rattle.allocation.proofs.table.Table.matched_by.Goals as goal

pub sum_of-requires : goal.sum_of-requires
sum_of-requires c =
    let t = c.args.self.now in
    front_small t.receivers (get_or t.matches c.args.i []) t.receiving (λ j _. omega (arith, t.smallmatches c.args.i j))

pub returns : goal.returns
returns c =
    let t = c.args.self.now in
    omega (arith, sum_front t.receivers (get_or t.matches c.args.i []))
