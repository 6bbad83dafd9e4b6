use Rattle.std.proofs.Common.{arith}
use Rattle.energy.specs.Grids.{figure_at}
use Rattle.energy.proofs.Grids.{sum_to_same}
use Rattle.allocation.specs.Allocation.{traded}
use Rattle.allocation.specs.Tables.{way_of}
use Rattle.allocation.proofs.Bounds.{sound_table, traded_small}
use Rattle.allocation.proofs.Summing.{sum_front, front_small}
use Rattle.allocation.proofs.table.Table.volume.Goals as goal

pub sum_of-requires : goal.sum_of-requires
sum_of-requires c =
    let t = c.args.self.now in
    front_small t.senders c.traded_by_all.result t.sending (λ k h. omega (arith, c.traded_by_all.ensures k, traded_small (way_of t) (sound_table t) k))

pub returns : goal.returns
returns c =
    let t = c.args.self.now in
    let row = c.traded_by_all.result in
    omega (arith, sum_front t.senders row, sum_to_same t.senders (figure_at row) (traded (way_of t)) (λ k h. c.traded_by_all.ensures k (omega arith)))
