-- Allocations that were worked out by hand, through the whole way from filed rows.
use Rattle.std.specs.Prelude.{◌≡◌, ℕ, Bool, true, false, List, [], ◌∷◌, ◌++◌, map, slice_index}
use Rattle.std.specs.List.{range_with_len}
use Rattle.energy.specs.declared.direction.Direction.TheVariants.{NorthSouth}
use Rattle.energy.specs.declared.side.Side.{Side}
use Rattle.energy.specs.declared.side.Side.TheVariants.{Northern, Southern}
use Rattle.energy.specs.Units.{kwh, mw}
use Rattle.book.specs.declared.filed_row.FiledKind.{FiledKind}
use Rattle.book.specs.declared.filed_row.FiledKind.TheVariants.{Trade, Match}
use Rattle.book.specs.declared.filed_row.FiledRow.{FiledRow}
use Rattle.book.specs.declared.filed_row.Flag.TheVariants.{Brown}
use Rattle.rationing.specs.Register.{register}
use Rattle.rationing.specs.Running.{running}
use Rattle.allocation.specs.Allocation.{Rule, sent, flow}
use Rattle.allocation.specs.Periods.{Period}
use Rattle.allocation.specs.Trades.{valid_ns, valid_sn, valid_match}

-- What both parties filed alike in period 1: a trade, or a match.
abbrev pub filed_by : Side → FiledKind → ℕ → ℕ → ℕ → ℕ → FiledRow
filed_by by what n s a b = record { filer = by; kind = what; period = 1; north = n; south = s; ns = kwh a; sn = kwh b; flag = Brown }

abbrev pub both_filed : FiledKind → ℕ → ℕ → ℕ → ℕ → List FiledRow
both_filed what n s a b = filed_by Northern what n s a b ∷ filed_by Southern what n s a b ∷ []

-- Period 1 with so many Northern parties and one Southern, the Northern entitlements, the NS capacity and these rows.
abbrev pub period_of : ℕ → List ℕ → ℕ → Bool → List FiledRow → Period
period_of parties entitlements capacity on rows = record {
  north = parties;
  south = 1;
  ns = valid_ns rows 1;
  sn = valid_sn rows 1;
  matches = valid_match parties 1 rows 1;
  northern = λ i. mw (slice_index entitlements i);
  southern = λ i. mw 0;
  ns_ntc = mw capacity;
  sn_ntc = mw 0;
  service = on;
}

-- What each Northern party gets to send.
abbrev pub sent_by : Rule → Period → List ℕ
sent_by rule p = map (sent rule p NorthSouth) (range_with_len 0 p.north)

-- Trades NS 1, 1, 3, 3 with one Southern party, against SN trade.
abbrev pub four_senders : ℕ → List FiledRow
four_senders against =
    both_filed Trade 0 0 1 against ++ (both_filed Trade 1 0 1 0 ++ (both_filed Trade 2 0 3 0 ++ both_filed Trade 3 0 3 0))

-- Trades NS 10 and 10 against SN 6, the first party matched so far.
abbrev pub matched_first : ℕ → List FiledRow
matched_first m = both_filed Trade 0 0 10 6 ++ (both_filed Trade 1 0 10 0 ++ both_filed Match 0 0 m m)

-- One line for each worked case.
pub record WorkedAllocations : Type 0 where
  pub none : flow register (period_of 2 [] 1 true []) NorthSouth ≡ 0
  pub two_by_register : sent_by register (period_of 4 [] 0 true (four_senders 2)) ≡ 1 ∷ 1 ∷ 0 ∷ 0 ∷ []
  pub two_by_running : sent_by running (period_of 4 [] 0 true (four_senders 2)) ≡ 0 ∷ 0 ∷ 1 ∷ 1 ∷ []
  pub three_by_register : sent_by register (period_of 4 [] 0 true (four_senders 3)) ≡ 1 ∷ 0 ∷ 1 ∷ 1 ∷ []
  pub three_by_running : sent_by running (period_of 4 [] 0 true (four_senders 3)) ≡ 0 ∷ 0 ∷ 1 ∷ 2 ∷ []
  pub entitled : sent_by register (period_of 2 (1 ∷ 2 ∷ []) 1 true (both_filed Trade 0 0 100 0 ++ both_filed Trade 1 0 900 0)) ≡ 100 ∷ 400 ∷ []
  pub matched_six : sent_by register (period_of 2 [] 0 true (matched_first 6)) ≡ 6 ∷ 0 ∷ []
  pub matched_seven : sent_by register (period_of 2 [] 0 true (matched_first 7)) ≡ 3 ∷ 3 ∷ []
  pub whole : sent_by register (period_of 1 [] 1 true (both_filed Trade 0 0 500 0)) ≡ 500 ∷ []
  pub cut : sent_by register (period_of 1 [] 1 true (both_filed Trade 0 0 501 0)) ≡ 500 ∷ []
  pub out_of_service : sent_by register (period_of 4 [] 0 false (four_senders 2)) ≡ 0 ∷ 0 ∷ 0 ∷ 0 ∷ []
