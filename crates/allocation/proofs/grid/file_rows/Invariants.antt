use Rattle.allocation.proofs.Gathering.{Square, Gathered, seen}
use Rattle.allocation.proofs.grid.file_rows.Given as goal

abbrev pub invariant-loop-row : goal.invariant-loop-row
invariant-loop-row l = Square l.cells × Gathered l.cells (seen l.yielded) l.period
