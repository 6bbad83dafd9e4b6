use Rattle.std.proofs.Common.{◌≡◌, List, [], ◌∷◌, get_or, set, refl, sym, ap, ◌∙◌, subst}
use Rattle.std.proofs.lemmas.Iterator.Adapters.{YieldsList-from_rev_slice}
use Rattle.std.proofs.lemmas.Iterator.Consumers.{YieldsList-at, YieldsList-end}
use Rattle.std.proofs.lemmas.List.{reverse-reverse}
use mathlib.Core.List.{reverse}
use Rattle.book.specs.declared.filed_row.FiledRow.{FiledRow}
use Rattle.allocation.specs.Cells.{cell_of}
use Rattle.allocation.specs.declared.cell.Cell.{Cell}
use Rattle.allocation.proofs.Gathering.{Square, Gathered, seen, seen_more, square_blank, gathered_blank, square_set, gathered_in, grid_is}
use Rattle.allocation.proofs.grid.file_rows.Goals as goal

pub loop-row-init : goal.loop-row-init
loop-row-init c =
    let e = cell_of [] 0 0 0 in
    subst (λ (g : List (List Cell)). Square g × Gathered g [] c.args.period) (sym c.requires) (square_blank e, gathered_blank e c.args.period refl)

pub loop-row-preserved-then-stands_in : goal.loop-row-preserved-then-stands_in
loop-row-preserved-then-stands_in c =
    let x = c.in-Some.row in
    let ys = c.loop-row.yielded in
    let g = c.loop-row.cells in
    let next = gathered_in g (seen ys) c.args.period x.now c.loop-row.invariant.0 (sym c.if-stands_in.ensures) c.loop-row.invariant.1 in (
      square_set g x.now.north x.now.south c.file.new.self c.loop-row.invariant.0,
      rw (seen_more ys x) (subst (λ (v : Cell). Gathered (set g x.now.north (set (get_or g x.now.north []) x.now.south v)) (x.now ∷ seen ys) c.args.period) (sym c.file.ensures) next),
    )

pub returns : goal.returns
returns c =
    let rows = c.args.rows.now in
    let items = YieldsList-at c.into_iter-row-iterator.ensures.into_iter_gives (YieldsList-from_rev_slice rows cc) in
    let all = YieldsList-end items c.loop-row.yielded _ c.loop-row.yielded_by _ _ c.in-None.is c.next.ensures.steps in
    let every : seen c.loop-row.yielded ≡ rows = ap reverse all.0 ∙ reverse-reverse rows in
    grid_is c.loop-row.cells rows c.args.period c.loop-row.invariant.0 (subst (λ (xs : List FiledRow). Gathered c.loop-row.cells xs c.args.period) every c.loop-row.invariant.1)
