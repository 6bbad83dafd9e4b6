-- The laws of flow and of service, from the quota law alone.
use Rattle.std.proofs.Common.{◌≡◌, ℕ, ◌+◌, ◌-◌, ◌*◌, ◌/◌, ◌<◌, ◌≤◌, min, true, false, cond, ◌&&◌, ltb, leb, sym, ap, ◌∙◌, ⊎_elim, mul_comm, arith}
use Rattle.std.proofs.lemmas.Bool.{cond_both, cond-true, cond-false, leb-true, leb-false, cases_Bool, and_left, le-ltb}
use Rattle.std.proofs.lemmas.Bool.Decides.{nat_tests}
use Rattle.energy.specs.declared.direction.Direction.{Direction}
use Rattle.energy.specs.declared.direction.Direction.TheVariants.{NorthSouth, SouthNorth}
use Rattle.energy.specs.Directions.{other}
use Rattle.energy.specs.Grids.{sum_to}
use Rattle.energy.proofs.Grids.{sum_to_le, sum_to_same, sum_to_add, sum_to_swap}
use Rattle.allocation.specs.Allocation.{Rule, traded, matched, unmatched, volume, award, entitled, kept, lacking, left, granted, rationed, dominant, scarce, allocated, sent, flow}
use Rattle.allocation.specs.Laws.{Keeps, Fits, Law, LawOfFlow, FlowsMeet, scaled}
use Rattle.allocation.specs.Periods.{Period, Way, way}
use Rattle.allocation.proofs.Awards.{award_whole, award_le, award_ge, awards_sum}

module _ (rule : Rule) (law : Keeps rule) where
  module _ (w : Way) (s : ℕ) (fits : (i : ℕ) → i < w.senders → matched w i ≤ traded w i) where
    scaled_le : (i : ℕ) → i < w.senders → scaled w i ≤ entitled rule w i
    scaled_le i h =
        let all = sum_to w.senders w.entitlement in
        cond_both (leb all w.ntc) (w.entitlement i) (w.entitlement i * w.ntc / all) (λ (x : ℕ). x ≤ entitled rule w i)
        (λ e. omega (arith, award_whole rule law w.ntc w.senders w.entitlement i h (leb-true all w.ntc e)))
        (λ e.
        let swapped = ap (λ (x : ℕ). x / all) (mul_comm (w.entitlement i) w.ntc) in
        omega (arith, award_ge rule law w.ntc w.senders w.entitlement i h (leb-false all w.ntc e)))

    pub kept_le : (i : ℕ) → i < w.senders → kept rule w i ≤ traded w i
    kept_le i h = omega (arith, fits i h)

    pub granted_le : (i : ℕ) → i < w.senders → granted rule w s i ≤ traded w i
    granted_le i h = omega (arith, kept_le i h, award_le rule law (left rule w s) w.senders (lacking rule w) i)

    granted_ge : (i : ℕ) → i < w.senders → matched w i + min (unmatched w i) (scaled w i) ≤ granted rule w s i
    granted_ge i h = omega (arith, scaled_le i h)

    rationed_sum : (i : ℕ) → i < w.senders → sum_to w.receivers (rationed rule w s i) ≡ granted rule w s i
    rationed_sum i h = omega (arith, awards_sum rule law (granted rule w s i) w.receivers (w.trade i), granted_le i h)

    pub lacking_sum : sum_to w.senders (kept rule w) + sum_to w.senders (lacking rule w) ≡ volume w
    lacking_sum =
        sym (sum_to_add w.senders (kept rule w) (lacking rule w))
        ∙ sum_to_same w.senders (λ i. kept rule w i + lacking rule w i) (traded w) (λ i h. omega (arith, kept_le i h))

    module _ (some : sum_to w.senders (matched w) ≤ s) where
      -- what the senders keep leaves something of the capacity and the trade against the flow
      pub kept_sum : sum_to w.senders (kept rule w) ≤ w.ntc + s
      kept_sum =
          omega (
            arith,
            sum_to_le w.senders (kept rule w) (λ i. matched w i + entitled rule w i) (λ i h. omega arith),
            sum_to_add w.senders (matched w) (entitled rule w),
            awards_sum rule law w.ntc w.senders w.entitlement,
          )

      granted_sum : w.ntc + s < volume w → sum_to w.senders (granted rule w s) ≡ w.ntc + s
      granted_sum short =
          let second = award rule (left rule w s) w.senders (lacking rule w) in
          omega (
            arith,
            kept_sum,
            lacking_sum,
            awards_sum rule law (left rule w s) w.senders (lacking rule w),
            sum_to_add w.senders (kept rule w) second,
          )

-- a period's matches sum alike over the senders of either direction
pub matched_swap : (p : Period) (d : Direction) → sum_to (way p d).senders (matched (way p d)) ≡ sum_to (way p (other d)).senders (matched (way p (other d)))
matched_swap p NorthSouth = sum_to_swap p.north p.south p.matches
matched_swap p SouthNorth = sym (sum_to_swap p.north p.south p.matches)

-- the smaller total is not cut
smaller_whole : (p : Period) (d : Direction) → volume (way p (other d)) ≤ volume (way p d) → scarce p (other d) ≡ false
smaller_whole p NorthSouth h = and_left (dominant p SouthNorth) _ (le-ltb (volume (way p NorthSouth)) (volume (way p SouthNorth)) h)
smaller_whole p SouthNorth h = and_left (dominant p NorthSouth) _ (le-ltb (volume (way p SouthNorth)) (volume (way p NorthSouth)) h)

-- a direction is cut exactly where its total passes its capacity and the other total
cut_past : (v s n : ℕ) → (ltb s v && ltb n (v - s)) ≡ true → n + s < v
cut_past v s n e = grind (arith, nat_tests)

uncut_within : (v s n : ℕ) → s ≤ v → (ltb s v && ltb n (v - s)) ≡ false → v ≤ n + s
uncut_within v s n h e = grind (arith, nat_tests)

module _ (rule : Rule) (p : Period) (on : p.service ≡ true) (d : Direction) where
  when_in_service : (i j : ℕ) → allocated rule p d i j ≡ cond (scarce p d) (rationed rule (way p d) (volume (way p (other d))) i j) ((way p d).trade i j)
  when_in_service i j = cond-true p.service _ 0 on

  when_whole : scarce p d ≡ false → (i j : ℕ) → allocated rule p d i j ≡ (way p d).trade i j
  when_whole e i j = when_in_service i j ∙ cond-false (scarce p d) _ ((way p d).trade i j) e

  when_cut : scarce p d ≡ true → (i j : ℕ) → allocated rule p d i j ≡ rationed rule (way p d) (volume (way p (other d))) i j
  when_cut e i j = when_in_service i j ∙ cond-true (scarce p d) _ ((way p d).trade i j) e

  sent_whole : scarce p d ≡ false → (i : ℕ) → sent rule p d i ≡ traded (way p d) i
  sent_whole e i = sum_to_same (way p d).receivers (allocated rule p d i) ((way p d).trade i) (λ j _. when_whole e i j)

  flow_whole : scarce p d ≡ false → flow rule p d ≡ volume (way p d)
  flow_whole e = sum_to_same (way p d).senders (sent rule p d) (traded (way p d)) (λ i _. sent_whole e i)

module _ (rule : Rule) (law : Keeps rule) (p : Period) (fits : Fits p) (on : p.service ≡ true) (d : Direction) (larger : volume (way p (other d)) ≤ volume (way p d)) where
  calm : scarce p (other d) ≡ false
  calm = smaller_whole p d larger

  some : sum_to (way p d).senders (matched (way p d)) ≤ volume (way p (other d))
  some =
      omega (
        arith,
        matched_swap p d,
        sum_to_le (way p (other d)).senders (matched (way p (other d))) (traded (way p (other d))) (fits (other d)),
      )

  law_whole : scarce p d ≡ false → Law rule p d
  law_whole e = record {
    within = omega (
      arith,
      flow_whole rule p on d e,
      flow_whole rule p on (other d) calm,
      uncut_within (volume (way p d)) (volume (way p (other d))) (way p d).ntc larger e,
    );
    used = λ i h cut. absurd (omega (arith, sent_whole rule p on d e i));
    least = λ i h. omega (arith, sent_whole rule p on d e i, fits d i h);
    most = λ i h. omega (arith, sent_whole rule p on d e i);
    against = when_whole rule p on (other d) calm;
  }

  law_cut : scarce p d ≡ true → Law rule p d
  law_cut e =
      let w = way p d in
      let s = volume (way p (other d)) in
      let opposed = flow_whole rule p on (other d) calm in
      let short = cut_past (volume w) s w.ntc e in
      let each : (i : ℕ) → i < w.senders → sent rule p d i ≡ granted rule w s i =
      λ i h. sum_to_same w.receivers (allocated rule p d i) (rationed rule w s i) (λ j _. when_cut rule p on d e i j)
      ∙ rationed_sum rule law w s (fits d) i h in
      let all = sum_to_same w.senders (sent rule p d) (granted rule w s) each ∙ granted_sum rule law w s (fits d) some short in
      record {
        within = omega arith;
        used = λ i h cut. omega arith;
        least = λ i h. omega (arith, each i h, granted_ge rule law w s (fits d) i h);
        most = λ i h. omega (arith, each i h, granted_le rule law w s (fits d) i h);
        against = when_whole rule p on (other d) calm;
      }

pub lawful : LawOfFlow
lawful rule law p fits on d larger =
    ⊎_elim (law_cut rule law p fits on d larger) (law_whole rule law p fits on d larger) (cases_Bool (scarce p d))

-- the flow of a direction by senders and by receivers
pub flows_meet : FlowsMeet
flows_meet rule p d = sum_to_swap (way p d).senders (way p d).receivers (allocated rule p d)
