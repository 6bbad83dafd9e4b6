use Rattle.std.proofs.Common.{ℕ}
use Rattle.energy.specs.declared.unit.Kwh.{Kwh}
use Rattle.allocation.proofs.Filling.{Filled}
use Rattle.allocation.proofs.square.square_of.Given as goal

abbrev pub invariant-loop-i : goal.invariant-loop-i
invariant-loop-i g l = Filled (λ (i j : ℕ) (e : Kwh). g.F.Fn.post l.figure (i, (j, tt)) e) l.grid l.i-counter
