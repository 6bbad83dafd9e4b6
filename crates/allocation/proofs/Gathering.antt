-- Filings gathered from the last row to the first.
use Rattle.std.proofs.Common.{◌≡◌, ℕ, ◌<◌, ◌≤◌, Bool, true, false, cond, ◌&&◌, eqb, ◌⊎◌, List, [], ◌∷◌, ◌++◌, length, get_or, map, set, replicate, Bor, Some, None, Option, sym, refl, ap, ◌∙◌, arith}
use mathlib.Core.List.{reverse}
use Rattle.std.proofs.lemmas.List.{length-set, get_or-replicate, reverse-append, map-append}
use Rattle.std.proofs.lemmas.Grind.{common_steps}
use Rattle.std.proofs.lemmas.Bool.Decides.{nat_tests}
use Rattle.std.specs.Option.{option_map}
use Rattle.energy.specs.declared.side.Side.{Side}
use Rattle.energy.specs.declared.side.Side.TheVariants.{Northern, Southern}
use Rattle.book.specs.FiledRows.{filed_fit, filed_under, same_kind, same_side}
use Rattle.book.specs.declared.filed_row.FiledKey.{FiledKey}
use Rattle.book.specs.declared.filed_row.FiledKind.{FiledKind}
use Rattle.book.specs.declared.filed_row.FiledKind.TheVariants.{Trade, Match}
use Rattle.book.specs.declared.filed_row.FiledRow.{FiledRow}
use Rattle.allocation.specs.Cells.{filed, key_of, amounts, cell_of, put_as, put}
use Rattle.allocation.specs.Grids.{cell_in, empty_grid, standing}
use Rattle.allocation.specs.declared.cell.Amounts.{Amounts}
use Rattle.allocation.specs.declared.cell.Cell.{Cell}
use Rattle.allocation.proofs.Filling.{square_is}

-- a row stands for an entry of this period between these two parties
abbrev pub of_pair : FiledRow → ℕ → ℕ → ℕ → Bool
of_pair x p n s = filed_fit x && (eqb x.period p && (eqb x.north n && eqb x.south s))

module _ (x : FiledRow) (a b c d : Option FiledRow) where
  abbrev four : (FiledKind → Side → Option FiledRow → Option Amounts) → Cell
  four f = record { north_trade = f Trade Northern a; south_trade = f Trade Southern b; north_match = f Match Northern c; south_match = f Match Southern d }

  placed : (fits pair : Bool) (k : FiledKind) (by : Side) → four (λ what f o. option_map amounts (cond (fits && (pair && (same_kind k what && same_side by f))) (Some x) o)) ≡ cond (fits && pair) (put_as k by (Some (amounts x)) (four (λ _ _ o. option_map amounts o))) (four (λ _ _ o. option_map amounts o))
  placed false pair k by = refl
  placed true false k by = refl
  placed true true Trade Northern = refl
  placed true true Trade Southern = refl
  placed true true Match Northern = refl
  placed true true Match Southern = refl

pub cell_of_more : (x : FiledRow) (xs : List FiledRow) (p n s : ℕ) → cell_of (x ∷ xs) p n s ≡ cond (of_pair x p n s) (put x (cell_of xs p n s)) (cell_of xs p n s)
cell_of_more x xs p n s =
    placed x (filed xs (key_of p Trade Northern n s)) (filed xs (key_of p Trade Southern n s)) (filed xs (key_of p Match Northern n s)) (filed xs (key_of p Match Southern n s))
    (filed_fit x) (eqb x.period p && (eqb x.north n && eqb x.south s)) x.kind x.filer

pair_in : (x : FiledRow) (p n s : ℕ) → standing x p ≡ true → of_pair x p n s ≡ (eqb x.north n && eqb x.south s)
pair_in x p n s e = grind (arith, nat_tests)

out_of_square : (x : FiledRow) (k : FiledKey) → (16 ≤ k.north) ⊎ (16 ≤ k.south) → (filed_fit x && filed_under x k) ≡ false
out_of_square x k h = grind (arith, nat_tests)

-- 16 rows of 16 cells
abbrev pub Square : List (List Cell) → Type 0
Square g = (length g ≡ 16) × ((n : ℕ) → n < 16 → length (get_or g n []) ≡ 16)

-- the cells are those of these rows
abbrev pub Gathered : List (List Cell) → List FiledRow → ℕ → Type 0
Gathered g rows p = (n s : ℕ) → n < 16 → s < 16 → cell_in g n s ≡ cell_of rows p n s

cell_in_set : (g : List (List Cell)) (a b n s : ℕ) (v : Cell) → a < length g → b < length (get_or g a []) → cell_in (set g a (set (get_or g a []) b v)) n s ≡ cond (eqb a n && eqb b s) v (cell_in g n s)
cell_in_set g a b n s v ha hb = grind (arith, common_steps, nat_tests)

pub square_set : (g : List (List Cell)) (a b : ℕ) (v : Cell) → Square g → Square (set g a (set (get_or g a []) b v))
square_set g a b v q = (length-set g a _ ∙ q.0, λ n h. grind (arith, common_steps, nat_tests, q.1 n h, q.1 a))

-- an entry is of parties inside the square
pub standing_inside : (x : FiledRow) (p : ℕ) → standing x p ≡ true → (x.north < 16) × (x.south < 16)
standing_inside x p e = grind (arith, nat_tests)

-- an entry of the period goes into its cell
pub gathered_in : (g : List (List Cell)) (rows : List FiledRow) (p : ℕ) (x : FiledRow) → Square g → standing x p ≡ true → Gathered g rows p → Gathered (set g x.north (set (get_or g x.north []) x.south (put x (cell_in g x.north x.south)))) (x ∷ rows) p
gathered_in g rows p x q stands before n s hn hs =
    let inside = standing_inside x p stands in
    let wide = q.1 x.north inside.0 in
    let more = cell_of_more x rows p n s in
    let test = pair_in x p n s stands in
    let here = before n s hn hs in
    let wrote = cell_in_set g x.north x.south n s (put x (cell_in g x.north x.south)) (omega (arith, q.0)) (omega arith) in
    grind (arith, nat_tests)

-- no entry has a party number above 15
pub filed_outside : (xs : List FiledRow) (k : FiledKey) → (16 ≤ k.north) ⊎ (16 ≤ k.south) → filed xs k ≡ None
filed_outside [] k h = refl
filed_outside (x ∷ xs) k h =
    let rest = filed_outside xs k h in
    let out = out_of_square x k h in
    grind (arith, nat_tests)

-- a cell of none is what no rows make
none_made : (a b c d : Option Amounts) → a ≡ None → b ≡ None → c ≡ None → d ≡ None → ◌≡◌ {A = Cell} (record { north_trade = a; south_trade = b; north_match = c; south_match = d }) (cell_of [] 0 0 0)
none_made a b c d ha hb hc hd = cc

outside : (xs : List FiledRow) (p n s : ℕ) → (16 ≤ n) ⊎ (16 ≤ s) → cell_of xs p n s ≡ cell_of [] 0 0 0
outside xs p n s h =
    let none : (what : FiledKind) (by : Side) → option_map amounts (filed xs (key_of p what by n s)) ≡ None = λ what by. ap (option_map amounts) (filed_outside xs (key_of p what by n s) h) in
    none_made _ _ _ _ (none Trade Northern) (none Trade Southern) (none Match Northern) (none Match Southern)

-- past the square the cells are empty, as the definition has them
past_square : (g : List (List Cell)) (n s : ℕ) → Square g → (16 ≤ n) ⊎ (16 ≤ s) → cell_in g n s ≡ cell_of [] 0 0 0
past_square g n s q h = grind (arith, common_steps, q.1 n)

pub grid_is : (g : List (List Cell)) (rows : List FiledRow) (p : ℕ) → Square g → Gathered g rows p → cell_in g ≡ cell_of rows p
grid_is g rows p q all =
    square_is (cell_of rows p) (cell_in g) all (λ n s h. past_square g n s q h ∙ sym (outside rows p n s h))

-- at first every cell is empty
abbrev blank : Cell → List (List Cell)
blank e = replicate 16 (replicate 16 e)

pub square_blank : (e : Cell) → Square (blank e)
square_blank e = (refl, λ n h. grind (arith, common_steps))

pub gathered_blank : (e : Cell) (p : ℕ) → e ≡ cell_of [] 0 0 0 → Gathered (blank e) [] p
gathered_blank e p made n s hn hs = rw get_or-replicate (rw get_or-replicate made)

pub blank_is : (e : Cell) → (e.north_trade ≡ None) × ((e.south_trade ≡ None) × ((e.north_match ≡ None) × (e.south_match ≡ None))) → blank e ≡ empty_grid
blank_is e is = ap blank (none_made e.north_trade e.south_trade e.north_match e.south_match is.0 is.1.0 is.1.1.0 is.1.1.1)

-- the rows that a loop from the last row has seen, in their own order
abbrev pub seen : List (Bor FiledRow) → List FiledRow
seen ys = reverse (map (λ y. y.now) ys)

pub seen_more : (ys : List (Bor FiledRow)) (y : Bor FiledRow) → seen (ys ++ (y ∷ [])) ≡ y.now ∷ seen ys
seen_more ys y = ap reverse (map-append (λ (x : Bor FiledRow). x.now) ys (y ∷ [])) ∙ reverse-append (map (λ (x : Bor FiledRow). x.now) ys) (y.now ∷ [])
