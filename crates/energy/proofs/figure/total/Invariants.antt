use Rattle.std.proofs.Common.{◌≡◌, ◌^◌, ◌<◌, take}
use Rattle.energy.specs.Totals.{sum_of}
use Rattle.energy.proofs.figure.total.Given as goal

abbrev pub invariant-loop-item : goal.invariant-loop-item
invariant-loop-item g l = (l.sum < 2 ^ 64) × (l.sum ≡ sum_of g.T.EnergyFigure.figure (take l.item-index l.items))
