-- What the senders of a direction keep and get.
use Rattle.std.proofs.Common.{◌≡◌, ℕ, ◌+◌, ◌-◌, ◌<◌, ◌≤◌, List, length, take, sym, ap, ◌∙◌, arith}
use Rattle.std.proofs.lemmas.List.{get_or-take}
use Rattle.std.proofs.lemmas.List.FromFn.{fill_by_all}
use Rattle.energy.specs.declared.unit.Kwh.{Kwh}
use Rattle.energy.specs.Grids.{sum_to, listed, figure_at}
use Rattle.energy.specs.Units.{kwh}
use Rattle.energy.proofs.Grids.{sum_to_same}
use Rattle.allocation.specs.Allocation.{Rule, traded, matched, award, kept, lacking, left, granted}
use Rattle.allocation.specs.Laws.{Keeps}
use Rattle.allocation.specs.Periods.{Way}
use Rattle.allocation.specs.Tables.{Sound}
use Rattle.allocation.proofs.Awards.{award_le}
use Rattle.allocation.proofs.Bounds.{traded_small, lacking_small}
use Rattle.allocation.proofs.Flow.{kept_sum}

-- the first n claims of a row are those of a function that agrees with it, and so are their awards
pub award_is : (rule : Rule) (amount : Kwh) (n : ℕ) (xs : List Kwh) (a : ℕ) (f : ℕ → ℕ) → n ≡ length (take n xs) → amount.0 ≡ a → ((k : ℕ) → k < n → figure_at xs k ≡ f k) → figure_at (rule amount (take n xs)) ≡ award rule a n f
award_is rule amount n xs a f within e same =
    let claims : take n xs ≡ listed n f =
    fill_by_all (λ (i : ℕ). kwh (f i)) (take n xs) n (kwh 0) (sym within) (λ k h. get_or-take n xs k (kwh 0) h ∙ ap kwh (same k h)) in
    ap (λ (ys : List Kwh). figure_at (rule amount ys)) claims ∙ ap (λ (m : ℕ). figure_at (rule (kwh m) (listed n f))) e

module _ {rule : Rule} (law : Keeps rule) {w : Way} (sound : Sound w) where
  kept_most : (k : ℕ) → kept rule w k ≤ traded w k
  kept_most k = omega (arith, sound.fits k)

  pub granted_most : (s k : ℕ) → granted rule w s k ≤ 159999984
  granted_most s k = omega (arith, kept_most k, award_le rule law (left rule w s) w.senders (lacking rule w) k, traded_small w sound k)

  -- rows that agree with the definitions
  module _ {held : ℕ → ℕ} (keeps : (k : ℕ) → k < 16 → held k ≡ kept rule w k) where
    pub held_most : (k : ℕ) → k < 16 → held k ≤ traded w k
    held_most k h = omega (arith, keeps k h, kept_most k)

    pub held_small : (k : ℕ) → k < w.senders → held k ≤ 159999984
    held_small k h = omega (arith, held_most k (omega (arith, sound.sending)), traded_small w sound k)

    pub held_sum : sum_to w.senders held ≡ sum_to w.senders (kept rule w)
    held_sum = sum_to_same w.senders held (kept rule w) (λ k h. keeps k (omega (arith, sound.sending)))

    pub held_within : (s : ℕ) → sum_to w.senders (matched w) ≤ s → sum_to w.senders held ≤ w.ntc + s
    held_within s some = omega (arith, held_sum, kept_sum rule law w s (λ k _. sound.fits k) some)

    module _ {short : ℕ → ℕ} (lacks : (k : ℕ) → k < 16 → short k ≡ traded w k - held k) where
      pub short_is : (k : ℕ) → k < w.senders → short k ≡ lacking rule w k
      short_is k h = omega (arith, lacks k (omega (arith, sound.sending)), keeps k (omega (arith, sound.sending)))

      pub short_small : sum_to w.senders short ≤ 2559999744
      short_small = omega (arith, sum_to_same w.senders short (lacking rule w) short_is, lacking_small w sound rule law 0)
