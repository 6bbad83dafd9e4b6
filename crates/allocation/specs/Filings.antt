-- A period as its terms and the rows of a book make it.
use Rattle.std.specs.Prelude.{ℕ, List, slice_index_or}
use Rattle.energy.specs.declared.unit.Mw.{Mw}
use Rattle.energy.specs.Units.{mw}
use Rattle.book.specs.declared.filed_row.FiledRow.{FiledRow}
use Rattle.allocation.specs.Periods.{Period}
use Rattle.allocation.specs.Told.{grid_at}
use Rattle.allocation.specs.Trades.{valid_ns, valid_sn, valid_match}
use Rattle.allocation.specs.declared.figures.Figures.{Figures}
use Rattle.allocation.specs.declared.terms.PeriodTerms.{PeriodTerms}

-- The capacity at a place of a list, none past its end.
abbrev pub capacity_at : List Mw → ℕ → Mw
capacity_at capacities i = slice_index_or capacities i (mw 0)

-- A period with these validated trades and matches.
abbrev pub period_with : PeriodTerms → (ℕ → ℕ → ℕ) → (ℕ → ℕ → ℕ) → (ℕ → ℕ → ℕ) → Period
period_with t ns_trades sn_trades valid = record {
  north = t.north;
  south = t.south;
  ns = ns_trades;
  sn = sn_trades;
  matches = valid;
  northern = capacity_at t.northern;
  southern = capacity_at t.southern;
  ns_ntc = t.ns_ntc;
  sn_ntc = t.sn_ntc;
  service = t.service;
}

-- A period with the trades and matches that the code holds.
abbrev pub period_of : PeriodTerms → Figures → Period
period_of t f = period_with t (grid_at f.ns) (grid_at f.sn) (grid_at f.matches)

-- A period has the trades and matches that were validated.
abbrev pub period_in : PeriodTerms → List FiledRow → ℕ → Period
period_in t xs p = period_with t (valid_ns xs p) (valid_sn xs p) (valid_match t.north t.south xs p)
