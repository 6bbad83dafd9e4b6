use Rattle.std.proofs.Common.{◌≡◌, ℕ, ◌<◌, ◌≤◌, false, cond, ◌&&◌, leb, get_or, sym, ap, ◌∙◌, inr, rules}
use Rattle.energy.specs.Grids.{sum_to}
use Rattle.allocation.specs.Told.{grid_at}
use Rattle.allocation.proofs.Filling.{pointwise}
use Rattle.allocation.proofs.Gathering.{blank_is}
use Rattle.allocation.proofs.Validating.{ns_small, sn_small, agreed_small, trade_outside, agreed_outside, match_is, ns_read, sn_read, match_read}
use Rattle.allocation.proofs.figures.figures_of.Goals as goal

-- equal squares are equal with senders and receivers exchanged
turned : {f g : ℕ → ℕ → ℕ} → f ≡ g → ◌≡◌ {A = ℕ → ℕ → ℕ} (λ i j. f j i) (λ i j. g j i)
turned e = ap {B = ℕ → ℕ → ℕ} (λ (f : ℕ → ℕ → ℕ) (i j : ℕ). f j i) e

-- and of them the same matches fit
fits_same : (n k : ℕ) {a b t u : ℕ → ℕ → ℕ} → a ≡ b → t ≡ u → leb (sum_to n (a k)) (sum_to n (t k)) ≡ leb (sum_to n (b k)) (sum_to n (u k))
fits_same n k {a} {b} {t} {u} e d =
    ap (λ (f : ℕ → ℕ → ℕ). leb (sum_to n (f k)) (sum_to n (t k))) e ∙ ap (λ (f : ℕ → ℕ → ℕ). leb (sum_to n (b k)) (sum_to n (f k))) d

pub file_rows-requires : goal.file_rows-requires
file_rows-requires c = blank_is c.default.result c.default.ensures

pub fitting-own-requires-clause-matches : goal.fitting-own-requires-clause-matches
fitting-own-requires-clause-matches c = pointwise (λ _ _ x. x ≤ 9999999) _ _ (match_read c.args.rows.now c.args.period _ c.file_rows.ensures _ (λ i j hi hj. search (rules, c.square_of-agreed.ensures.inside i j hi hj)) c.square_of-agreed.ensures.outside) (agreed_small c.args.rows.now c.args.period)

pub fitting-own-requires-clause-trades : goal.fitting-own-requires-clause-trades
fitting-own-requires-clause-trades c = pointwise (λ _ _ x. x ≤ 9999999) _ _ (ns_read c.args.rows.now c.args.period _ c.file_rows.ensures _ (λ i j hi hj. search (rules, c.square_of-ns.ensures.inside i j hi hj)) c.square_of-ns.ensures.outside) (ns_small c.args.rows.now c.args.period)

pub transposed-requires : goal.transposed-requires
transposed-requires c = record { outside = pointwise (λ _ j x. 16 ≤ j → x ≡ 0) _ _ (match_read c.args.rows.now c.args.period _ c.file_rows.ensures _ (λ i j hi hj. search (rules, c.square_of-agreed.ensures.inside i j hi hj)) c.square_of-agreed.ensures.outside) (λ i j h. agreed_outside c.args.rows.now c.args.period i j (inr h)) }

pub transposed-requires-2 : goal.transposed-requires-2
transposed-requires-2 c = record { outside = pointwise (λ _ j x. 16 ≤ j → x ≡ 0) _ _ (sn_read c.args.rows.now c.args.period _ c.file_rows.ensures _ (λ i j hi hj. search (rules, c.square_of-sn.ensures.inside i j hi hj)) c.square_of-sn.ensures.outside) (λ i j h. trade_outside c.args.rows.now c.args.period (λ x. x.sn.0) i j (inr h)) }

pub fitting-facing-requires-clause-matches : goal.fitting-facing-requires-clause-matches
fitting-facing-requires-clause-matches c =
    pointwise (λ _ _ x. x ≤ 9999999) _ _ (c.transposed.ensures ∙ turned (match_read c.args.rows.now c.args.period _ c.file_rows.ensures _ (λ i j hi hj. search (rules, c.square_of-agreed.ensures.inside i j hi hj)) c.square_of-agreed.ensures.outside)) (λ i j. agreed_small c.args.rows.now c.args.period j i)

pub fitting-facing-requires-clause-trades : goal.fitting-facing-requires-clause-trades
fitting-facing-requires-clause-trades c =
    pointwise (λ _ _ x. x ≤ 9999999) _ _ (c.transposed-2.ensures ∙ turned (sn_read c.args.rows.now c.args.period _ c.file_rows.ensures _ (λ i j hi hj. search (rules, c.square_of-sn.ensures.inside i j hi hj)) c.square_of-sn.ensures.outside)) (λ i j. sn_small c.args.rows.now c.args.period j i)

pub returns-clause-ns : goal.returns-clause-ns
returns-clause-ns c = ns_read c.args.rows.now c.args.period _ c.file_rows.ensures _ (λ i j hi hj. search (rules, c.square_of-ns.ensures.inside i j hi hj)) c.square_of-ns.ensures.outside

pub returns-clause-sn : goal.returns-clause-sn
returns-clause-sn c = sn_read c.args.rows.now c.args.period _ c.file_rows.ensures _ (λ i j hi hj. search (rules, c.square_of-sn.ensures.inside i j hi hj)) c.square_of-sn.ensures.outside

pub returns-clause-matches : goal.returns-clause-matches
returns-clause-matches c =
    let rows = c.args.rows.now in
    let p = c.args.period in
    let north = c.args.terms.now.north in
    let south = c.args.terms.now.south in
    let ns = ns_read c.args.rows.now c.args.period _ c.file_rows.ensures _ (λ i j hi hj. search (rules, c.square_of-ns.ensures.inside i j hi hj)) c.square_of-ns.ensures.outside in
    let sn = sn_read c.args.rows.now c.args.period _ c.file_rows.ensures _ (λ i j hi hj. search (rules, c.square_of-sn.ensures.inside i j hi hj)) c.square_of-sn.ensures.outside in
    let matches = match_read c.args.rows.now c.args.period _ c.file_rows.ensures _ (λ i j hi hj. search (rules, c.square_of-agreed.ensures.inside i j hi hj)) c.square_of-agreed.ensures.outside in
    match_is rows p north south c.fitting-own.result c.fitting-facing.result (grid_at c.match_grid-matches.result)
    (λ k h. c.fitting-own.ensures k h ∙ fits_same south k matches ns)
    (λ k h. c.fitting-facing.ensures k h ∙ fits_same north k (c.transposed.ensures ∙ turned matches) (c.transposed-2.ensures ∙ turned sn))
    (pointwise (λ i j x. i < 16 → j < 16 → grid_at c.match_grid-matches.result i j ≡ cond (get_or c.fitting-own.result i false && get_or c.fitting-facing.result j false) x 0) _ _ (sym matches) c.match_grid-matches.ensures.inside)
    c.match_grid-matches.ensures.outside
