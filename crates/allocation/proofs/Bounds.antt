-- The sums of a direction stay within limits.
use Rattle.std.proofs.Common.{ℕ, ◌≤◌, arith}
use Rattle.energy.specs.Grids.{sum_to}
use Rattle.energy.proofs.Grids.{sum_to_bound}
use Rattle.allocation.specs.Allocation.{Rule, traded, volume, lacking}
use Rattle.allocation.specs.Laws.{Keeps}
use Rattle.allocation.specs.Periods.{Way}
use Rattle.allocation.specs.Tables.{Sound, way_of}
use Rattle.allocation.specs.declared.table.Table.{Table}
use Rattle.allocation.proofs.Flow.{lacking_sum}

module _ (w : Way) (sound : Sound w) where
  pub traded_small : (i : ℕ) → traded w i ≤ 159999984
  traded_small i = omega (arith, sound.receiving, sum_to_bound w.receivers 9999999 (w.trade i) (λ j _. sound.trades i j))

  pub volume_small : volume w ≤ 2559999744
  volume_small = omega (arith, sound.sending, sum_to_bound w.senders 159999984 (traded w) (λ i _. traded_small i))

  pub lacking_small : (rule : Rule) → Keeps rule → (s : ℕ) → sum_to w.senders (lacking rule w) ≤ 2559999744
  lacking_small rule law s = omega (arith, lacking_sum rule law w s (λ i _. sound.fits i), volume_small)

-- every table keeps the limits
pub sound_table : (t : Table) → Sound (way_of t)
sound_table t = record {
  sending = t.sending;
  receiving = t.receiving;
  trades = t.smalltrades;
  matches = t.smallmatches;
  entitled = t.entitled;
  capacity = t.capacity;
  fits = t.fits;
}
