use Rattle.std.proofs.Common.{rules}
use Rattle.allocation.proofs.matching.match_grid.Goals as goal

pub returns-clause-inside : goal.returns-clause-inside
returns-clause-inside c i j hi hj = search (rules, c.square_of.ensures.inside i j hi hj)
