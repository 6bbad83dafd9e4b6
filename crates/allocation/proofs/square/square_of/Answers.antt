use Rattle.std.proofs.Common.{rules, ℕ, ◌≤◌, List, [], ap, ⊎_elim, arith}
use Rattle.std.proofs.lemmas.List.{get_or_past}
use Rattle.energy.specs.declared.unit.Kwh.{Kwh}
use Rattle.energy.specs.Grids.{figure_at}
use Rattle.energy.specs.Units.{kwh}
use Rattle.allocation.proofs.Filling.{filled_none, filled_more}
use Rattle.allocation.proofs.Making.{made_at}
use Rattle.allocation.proofs.square.square_of.Goals as goal

pub loop-i-init : goal.loop-i-init
loop-i-init g c = filled_none (λ (i j : ℕ) (e : Kwh). g.F.Fn.post c.args.figure (i, (j, tt)) e)

pub loop-i-preserved : goal.loop-i-preserved
loop-i-preserved g c =
    let i = c.loop-i.i-counter in
    let post = λ (k j : ℕ) (e : Kwh). g.F.Fn.post c.args.figure (k, (j, tt)) e in
    filled_more post c.loop-i.grid i c.from_fn.result c.loop-i-test.true c.loop-i.invariant
    (λ j. made_at c.from_fn.ensures.items (post i) (λ k y q p. search rules) j (kwh 0))
    (omega (arith, c.from_fn.ensures.items.long))

pub returns-clause-inside : goal.returns-clause-inside
returns-clause-inside g c i j hi hj = c.loop-i.invariant.inside i j (omega arith) hj

pub returns-clause-outside : goal.returns-clause-outside
returns-clause-outside g c i j =
    ⊎_elim (λ (h : 16 ≤ i). ap (λ (r : List Kwh). figure_at r j) (get_or_past c.loop-i.grid i [] (omega (arith, c.loop-i.invariant.long))))
    (c.loop-i.invariant.outside i j)
