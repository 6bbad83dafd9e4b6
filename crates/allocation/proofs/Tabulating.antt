-- Tables and the directions that they stand for.
use Rattle.std.proofs.Common.{◌≡◌, ℕ, ◌<◌, ◌≤◌, Bool, true, false, cond, ◌&&◌, ltb, List, sym, refl, ap, ◌∙◌, subst, inr, ⊎_elim, arith}
use Rattle.std.proofs.lemmas.Bool.{cases_lt, cond_both, and_parts, leb-true, ltb-true}
use Rattle.energy.specs.declared.direction.Direction.{Direction}
use Rattle.energy.specs.declared.direction.Direction.TheVariants.{NorthSouth, SouthNorth}
use Rattle.energy.specs.declared.unit.Kwh.{Kwh}
use Rattle.energy.specs.Directions.{other}
use Rattle.energy.specs.Grids.{sum_to}
use Rattle.energy.proofs.Grids.{sum_to_none, sum_to_le}
use Rattle.book.specs.declared.filed_row.FiledRow.{FiledRow}
use Rattle.allocation.specs.Allocation.{Rule, traded, matched, allocated}
use Rattle.allocation.specs.Filings.{period_in, period_with}
use Rattle.allocation.specs.Laws.{Fits}
use Rattle.allocation.specs.Periods.{Way, way}
use Rattle.allocation.specs.Shown.{figure_within, allocated_in, way_allocated}
use Rattle.allocation.specs.Tables.{Sound}
use Rattle.allocation.specs.Told.{grid_at, Within16}
use Rattle.allocation.specs.Trades.{valid_ns, valid_sn, agreed, north_fits, south_fits, valid_match}
use Rattle.allocation.specs.declared.terms.PeriodTerms.{PeriodTerms}
use Rattle.allocation.proofs.Flow.{matched_swap}
use Rattle.allocation.proofs.Validating.{ns_small, sn_small, agreed_small, cond_small, trade_outside, match_outside}

abbrev way_with : ℕ → ℕ → (ℕ → ℕ → ℕ) → (ℕ → ℕ → ℕ) → (ℕ → ℕ) → ℕ → Way
way_with n m t a e k = record { senders = n; receivers = m; trade = t; matches = a; entitlement = e; ntc = k }

-- equal figures make equal directions
pub same_way : (n m : ℕ) (t t' a a' : ℕ → ℕ → ℕ) (e e' : ℕ → ℕ) (k k' : ℕ) → t ≡ t' → a ≡ a' → e ≡ e' → k ≡ k' → way_with n m t a e k ≡ way_with n m t' a' e' k'
same_way n m t t' a a' e e' k k' pt pa pe pk = cc

-- a sum of figures that count only where a test passes is within a limit that the tests imply
gated : (n m : ℕ) (open? : ℕ → Bool) (f : ℕ → ℕ) → ((k : ℕ) → open? k ≡ true → sum_to n f ≤ m) → sum_to n (λ k. cond (open? k) (f k) 0) ≤ m
gated n m open? f h =
    ⊎_elim
    (λ (past : m < sum_to n f).
    let none = sum_to_le n (λ k. cond (open? k) (f k) 0) (λ _. 0)
    (λ k _. cond_both (open? k) (f k) 0 (λ (x : ℕ). x ≤ 0) (λ e. omega (arith, h k e)) (λ e. omega arith)) in
    omega (arith, sum_to_none n))
    (λ (within : sum_to n f ≤ m).
    omega (arith, sum_to_le n (λ k. cond (open? k) (f k) 0) f (λ k _. cond_both (open? k) (f k) 0 (λ (x : ℕ). x ≤ f k) (λ e. omega arith) (λ e. omega arith))))
    (cases_lt m (sum_to n f))

-- validated matches stay within validated trades
matched_le : (t : PeriodTerms) (xs : List FiledRow) (p : ℕ) (d : Direction) (i : ℕ) → matched (way (period_in t xs p) d) i ≤ traded (way (period_in t xs p) d) i
matched_le t xs p NorthSouth n =
    gated t.south (sum_to t.south (valid_ns xs p n)) (λ s. north_fits t.south xs p n && south_fits t.north xs p s) (agreed xs p n)
    (λ s e. leb-true (sum_to t.south (agreed xs p n)) (sum_to t.south (valid_ns xs p n)) (and_parts (north_fits t.south xs p n) (south_fits t.north xs p s) e).0)
matched_le t xs p SouthNorth s =
    gated t.north (sum_to t.north (λ n. valid_sn xs p n s)) (λ n. north_fits t.south xs p n && south_fits t.north xs p s) (λ n. agreed xs p n s)
    (λ n e. leb-true (sum_to t.north (λ n. agreed xs p n s)) (sum_to t.north (λ n. valid_sn xs p n s)) (and_parts (north_fits t.south xs p n) (south_fits t.north xs p s) e).1)

pub matches_fit : (t : PeriodTerms) (xs : List FiledRow) (p : ℕ) → Fits (period_in t xs p)
matches_fit t xs p d i _ = matched_le t xs p d i

-- the directions of a period keep the limits of a table
pub sound_way : (t : PeriodTerms) (xs : List FiledRow) (p : ℕ) (d : Direction) → Sound (way (period_in t xs p) d)
sound_way t xs p NorthSouth = record {
  sending = t.northfew;
  receiving = t.southfew;
  trades = ns_small xs p;
  matches = λ n s. cond_small (north_fits t.south xs p n && south_fits t.north xs p s) (agreed xs p n s) (agreed_small xs p n s);
  entitled = λ i. omega (arith, t.northsmall i);
  capacity = omega (arith, t.nsmost);
  fits = matched_le t xs p NorthSouth;
}
sound_way t xs p SouthNorth = record {
  sending = t.southfew;
  receiving = t.northfew;
  trades = λ s n. sn_small xs p n s;
  matches = λ s n. cond_small (north_fits t.south xs p n && south_fits t.north xs p s) (agreed xs p n s) (agreed_small xs p n s);
  entitled = λ i. omega (arith, t.southsmall i);
  capacity = omega (arith, t.snmost);
  fits = matched_le t xs p SouthNorth;
}

cond_only : (t : Bool) (a b : ℕ) → (t ≡ true → a ≡ b) → cond t a 0 ≡ cond t b 0
cond_only true a b h = h refl
cond_only false a b h = refl

-- a table made from the validated figures stands for its direction of the period
pub way_is : (t : PeriodTerms) (xs : List FiledRow) (p : ℕ) (d : Direction) (w : Way) (a b m : ℕ → ℕ → ℕ) → w ≡ way (period_with t a b m) d → a ≡ valid_ns xs p → b ≡ valid_sn xs p → m ≡ valid_match t.north t.south xs p → w ≡ way (period_in t xs p) d
way_is t xs p d w a b m e ea eb em = cc

-- the two tables of a period hold the same matches
pub exchanged : (t : PeriodTerms) (xs : List FiledRow) (p : ℕ) (d : Direction) (w v : Way) → w ≡ way (period_in t xs p) d → v ≡ way (period_in t xs p) (other d) → sum_to w.senders (matched w) ≡ sum_to v.senders (matched v)
exchanged t xs p d w v ew ev = cc (matched_swap (period_in t xs p) d)

-- a table made from the validated figures keeps the limits
pub sound_with : (t : PeriodTerms) (xs : List FiledRow) (p : ℕ) (d : Direction) (a b m : ℕ → ℕ → ℕ) → a ≡ valid_ns xs p → b ≡ valid_sn xs p → m ≡ valid_match t.north t.south xs p → Sound (way (period_with t a b m) d)
sound_with t xs p d a b m ea eb em = subst Sound (sym (way_is t xs p d (way (period_with t a b m) d) a b m refl ea eb em)) (sound_way t xs p d)

-- what is shown of a direction is what is allocated in it
pub shown_is : (rule : Rule) (t : PeriodTerms) (xs : List FiledRow) (p : ℕ) (d : Direction) (w v : Way) (g : List (List Kwh)) → w ≡ way (period_in t xs p) d → v ≡ way (period_in t xs p) (other d) → ((i j : ℕ) → i < w.senders → j < w.receivers → grid_at g i j ≡ way_allocated rule t.service w v i j) → (i j : ℕ) → figure_within g (way (period_in t xs p) d).senders (way (period_in t xs p) d).receivers i j ≡ allocated_in rule (period_in t xs p) d i j
shown_is rule t xs p d w v g ew ev filled i j =
    let o = way (period_in t xs p) d in
    let test = ltb i o.senders && ltb j o.receivers in
    cond_only test (grid_at g i j) (allocated rule (period_in t xs p) d i j)
    (λ e.
    let both = and_parts (ltb i o.senders) (ltb j o.receivers) e in
    let hi : i < w.senders = omega (arith, ltb-true i o.senders both.0, ap (λ (x : Way). x.senders) ew) in
    let hj : j < w.receivers = omega (arith, ltb-true j o.receivers both.1, ap (λ (x : Way). x.receivers) ew) in
    filled i j hi hj ∙ ap (λ (x : Way). way_allocated rule t.service x v i j) ew ∙ ap (λ (x : Way). way_allocated rule t.service o x i j) ev)

-- validated figures are nil past the square
pub sn_nil : (xs : List FiledRow) (p : ℕ) (g : ℕ → ℕ → ℕ) → g ≡ valid_sn xs p → Within16 g
sn_nil xs p g e i j h = ap (λ (f : ℕ → ℕ → ℕ). f i j) e ∙ trade_outside xs p (λ x. x.sn.0) i j (inr h)

pub match_nil : (t : PeriodTerms) (xs : List FiledRow) (p : ℕ) (g : ℕ → ℕ → ℕ) → g ≡ valid_match t.north t.south xs p → Within16 g
match_nil t xs p g e i j h = ap (λ (f : ℕ → ℕ → ℕ). f i j) e ∙ match_outside xs p t.north t.south i j (inr h)

pub each_way : (P : Direction → Type 0) → P NorthSouth → P SouthNorth → (d : Direction) → P d
each_way P a b NorthSouth = a
each_way P a b SouthNorth = b
