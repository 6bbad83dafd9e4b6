use Rattle.std.proofs.Common.{rules, ◌≡◌, ℕ, ◌≤◌, ◌⊎◌, List, [], sym, ap, ◌∙◌, ⊎_elim, arith}
use Rattle.std.proofs.lemmas.List.{get_or_past}
use Rattle.energy.specs.declared.unit.Kwh.{Kwh}
use Rattle.energy.specs.Grids.{figure_at}
use Rattle.allocation.specs.Told.{grid_at}
use Rattle.allocation.proofs.Filling.{square_is}
use Rattle.allocation.proofs.square.transposed.Goals as goal

pub returns : goal.returns
returns c =
    let grid = c.args.grid.now in
    let none : (i j : ℕ) → (16 ≤ i) ⊎ (16 ≤ j) → grid_at grid j i ≡ 0 =
    λ i j. ⊎_elim (λ (h : 16 ≤ i). c.requires.outside j i h) (λ (h : 16 ≤ j). ap (λ (r : List Kwh). figure_at r i) (get_or_past grid j [] (omega arith))) in
    square_is (λ i j. grid_at grid j i) (grid_at c.square_of.result) (λ i j hi hj. search (rules, c.square_of.ensures.inside i j hi hj))
    (λ i j h. c.square_of.ensures.outside i j h ∙ sym (none i j h))
