-- From validated to allocated trades.
use Rattle.std.specs.Prelude.{ℕ, ◌+◌, ◌-◌, min, Bool, cond, ◌&&◌, List, nat_lt}
use Rattle.energy.specs.declared.direction.Direction.{Direction}
use Rattle.energy.specs.declared.unit.Kwh.{Kwh}
use Rattle.energy.specs.Directions.{other}
use Rattle.energy.specs.Grids.{sum_to, listed, figure_at}
use Rattle.energy.specs.Units.{kwh}
use Rattle.allocation.specs.Periods.{Period, Way, way}

-- A sender's validated trade is the sum over its receivers, its matched trade the sum of its validated matches, and its
-- unmatched trade the rest.
abbrev pub traded : Way → ℕ → ℕ
traded w i = sum_to w.receivers (w.trade i)

abbrev pub matched : Way → ℕ → ℕ
matched w i = sum_to w.receivers (w.matches i)

abbrev pub unmatched : Way → ℕ → ℕ
unmatched w i = traded w i - matched w i

-- The total of a direction's validated trades.
abbrev pub volume : Way → ℕ
volume w = sum_to w.senders (traded w)

-- The meaning of a rationing rule, and one party's award of an amount among n claims.
abbrev pub Rule : Type 0
Rule = Kwh → List Kwh → List Kwh

abbrev pub award : Rule → ℕ → ℕ → (ℕ → ℕ) → ℕ → ℕ
award rule amount n claims k = figure_at (rule (kwh amount) (listed n claims)) k

-- First the entitlements are claims on the net transfer capacity.
abbrev pub entitled : Rule → Way → ℕ → ℕ
entitled rule w i = award rule w.ntc w.senders w.entitlement i

-- Each sender keeps its matched trade, and gets the lesser of its unmatched trade and that award.
abbrev pub kept : Rule → Way → ℕ → ℕ
kept rule w i = matched w i + min (unmatched w i) (entitled rule w i)

-- What a sender still lacks.
abbrev pub lacking : Rule → Way → ℕ → ℕ
lacking rule w i = traded w i - kept rule w i

-- What is left of the net transfer capacity and the trade against the flow.
abbrev pub left : Rule → Way → ℕ → ℕ
left rule w against = (w.ntc + against) - sum_to w.senders (kept rule w)

-- What is left goes to what the senders still lack.
abbrev pub granted : Rule → Way → ℕ → ℕ → ℕ
granted rule w against i = kept rule w i + award rule (left rule w against) w.senders (lacking rule w) i

-- A sender's grant goes to its trades with each receiver.
abbrev pub rationed : Rule → Way → ℕ → ℕ → ℕ → ℕ
rationed rule w against i j = award rule (granted rule w against i) w.receivers (w.trade i) j

-- A direction is dominant when its total is the larger one, and it is cut when the larger total less the smaller is more
-- than its net transfer capacity.
abbrev pub dominant : Period → Direction → Bool
dominant p d = nat_lt (volume (way p (other d))) (volume (way p d))

abbrev pub scarce : Period → Direction → Bool
scarce p d = dominant p d && nat_lt (way p d).ntc (volume (way p d) - volume (way p (other d)))

-- Out of service nothing is allocated. In service a direction that is cut is rationed, and any other is whole.
abbrev pub allocated : Rule → Period → Direction → ℕ → ℕ → ℕ
allocated rule p d i j =
    cond p.service (cond (scarce p d) (rationed rule (way p d) (volume (way p (other d))) i j) ((way p d).trade i j)) 0

-- What a sender gets is the sum of its allocations, and so is what a receiver gets; the flow of a direction is the sum of
-- them all.
abbrev pub sent : Rule → Period → Direction → ℕ → ℕ
sent rule p d i = sum_to (way p d).receivers (allocated rule p d i)

abbrev pub received : Rule → Period → Direction → ℕ → ℕ
received rule p d j = sum_to (way p d).senders (λ i. allocated rule p d i j)

abbrev pub flow : Rule → Period → Direction → ℕ
flow rule p d = sum_to (way p d).senders (sent rule p d)
