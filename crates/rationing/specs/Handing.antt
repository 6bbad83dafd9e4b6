-- What the register rule hands out: an award for each claim, rounded, that use the amount up.
use Rattle.std.specs.Prelude.{◌≡◌, ℕ, zero, suc, ◌+◌, ◌-◌, ◌*◌, ◌<◌, ◌≤◌, cond, ◌&&◌, ◌⊎◌, List, [], ◌∷◌, ◌++◌, length, get_or, take, drop, nat_lt, slice_index_or, slice_set, refl}
use Rattle.std.proofs.Common.{append_assoc, inl, inr, ⊎_elim, ap, subst, sym, mul-add, mul_comm, le_of_suc-le-suc, not-suc-le-zero, arith}
use Rattle.std.proofs.Math.Nat.{div-add-mod, le_of_mul-le-mul_left}
use Rattle.std.proofs.lemmas.Nat.{mod_below}
use Rattle.std.proofs.lemmas.List.{at_drop_more, take_more_set}
use Rattle.std.proofs.lemmas.List.Sums.{sum_by-cons}
use Rattle.std.proofs.lemmas.Bool.{and_parts, cond_both, ltb-true, ltb-false}
use Rattle.std.proofs.lemmas.Bool.Decides.{nat_tests}
use Rattle.energy.specs.declared.unit.Kwh.{Kwh}
use Rattle.energy.specs.Totals.{sum_kwh, sum_of}
use Rattle.energy.specs.Units.{kwh}
use Rattle.energy.proofs.Sums.{sum_le, sum_add, sum_times}
use Rattle.rationing.specs.Quota.{Quota, Rounded}
use Rattle.rationing.specs.Register.{down, over, odd, handed, spare, handed_out, register}
use Rattle.rationing.specs.Quotas.{quota_divided}
use Rattle.rationing.specs.Rounding.{rounded_more}

-- 1 for a claim whose division leaves a remainder
abbrev uneven : ℕ → ℕ → Kwh → ℕ
uneven a s c = cond (nat_lt 0 (over a s c)) 1 0

-- an odd kWh is none, or one for a remainder; what then is left is still owed to the other remainders
odd_is : (l r : ℕ) → (odd l r ≡ 0) ⊎ ((odd l r ≡ 1) × (0 < r))
odd_is l r =
    cond_both (nat_lt 0 l && nat_lt 0 r) 1 0 (λ (x : ℕ). (x ≡ 0) ⊎ ((x ≡ 1) × (0 < r)))
    (λ e. inr (refl, ltb-true 0 r (and_parts (nat_lt 0 l) (nat_lt 0 r) e).1))
    (λ e. inl refl)

odd_le : (l r : ℕ) → odd l r ≤ l
odd_le l r = grind (arith, nat_tests)

pub odd_le_one : (l r : ℕ) → odd l r ≤ 1
odd_le_one l r = grind (arith, nat_tests)

odd_rest : (l r n : ℕ) → l ≤ cond (nat_lt 0 r) 1 0 + n → l - odd l r ≤ n
odd_rest l r n h = grind (arith, nat_tests)

module _ (a s : ℕ) where
  pub handed_length : (l : ℕ) (cs : List Kwh) → length (handed a s l cs) ≡ length cs
  handed_length l [] = refl
  handed_length l (c ∷ cs) = ap suc (handed_length (l - odd l (over a s c)) cs)

  -- one award more is written, and what is left is handed to the other claims
  pub handed_more : (l : ℕ) (claims out : List Kwh) (i w o : ℕ) → i < length claims → i < length out → w ≡ down a s (slice_index_or claims i (kwh 0)) → o ≡ odd l (over a s (slice_index_or claims i (kwh 0))) → take (i + 1) (slice_set out i (kwh (w + o))) ++ handed a s (l - o) (drop (i + 1) claims) ≡ take i out ++ handed a s l (drop i claims)
  handed_more l claims out i w o within place whole one =
      let next = at_drop_more (handed a s l) claims i (kwh 0) within in
      let front = take_more_set out i (kwh (w + o)) place in
      let joined = append_assoc (take i out) (kwh (w + o) ∷ []) (handed a s (l - o) (drop (i + 1) claims)) in
      cc

  handed_sum : (l : ℕ) (cs : List Kwh) → l ≤ sum_of (uneven a s) cs → sum_kwh (handed a s l cs) ≡ sum_of (down a s) cs + l
  handed_sum l [] h = omega arith
  handed_sum l (c ∷ cs) h =
      let one = odd l (over a s c) in
      let owed = sum_by-cons (uneven a s) c cs in
      let downs = sum_by-cons (down a s) c cs in
      let awards = sum_by-cons (λ (x : Kwh). x.0) (kwh (down a s c + one)) (handed a s (l - one) cs) in
      let rest : l - one ≤ sum_of (uneven a s) cs = odd_rest l (over a s c) (sum_of (uneven a s) cs) (omega arith) in
      omega (arith, handed_sum (l - one) cs rest, odd_le l (over a s c))

  module _ (some : 0 < s) where
    -- the shares rounded down are within the amount's part, and one more for each remainder covers it
    share_parts : (c : Kwh) → (s * down a s c ≤ a * c.0) × (a * c.0 ≤ s * (down a s c + uneven a s c))
    share_parts c =
        let parts = div-add-mod (a * c.0) s in
        let small = mod_below (a * c.0) s some in (
          omega arith,
          cond_both (nat_lt 0 (over a s c)) 1 0 (λ (u : ℕ). a * c.0 ≤ s * (down a s c + u))
              (λ e. omega (arith, mul-add s (down a s c) 1))
              (λ e. omega (arith, mul-add s (down a s c) 0, ltb-false 0 (over a s c) e)),
        )

    downs_within : (cs : List Kwh) → s * sum_of (down a s) cs ≤ a * sum_kwh cs
    downs_within cs =
        let each = sum_le (λ (c : Kwh). s * down a s c) (λ (c : Kwh). a * c.0) (λ c. (share_parts c).0) cs in
        omega (arith, sum_times s (down a s) cs, sum_times a (λ (c : Kwh). c.0) cs)

    downs_cover : (cs : List Kwh) → a * sum_kwh cs ≤ s * (sum_of (down a s) cs + sum_of (uneven a s) cs)
    downs_cover cs =
        let each = sum_le (λ (c : Kwh). a * c.0) (λ (c : Kwh). s * (down a s c + uneven a s c)) (λ c. (share_parts c).1) cs in
        let both = ap (λ (n : ℕ). s * n) (sum_add (down a s) (uneven a s) cs) in
        omega (arith, sum_times s (λ (c : Kwh). down a s c + uneven a s c) cs, sum_times a (λ (c : Kwh). c.0) cs)

    handed_at : (l : ℕ) (cs : List Kwh) (k : ℕ) → k < length cs → Rounded (a * (get_or cs k (kwh 0)).0) s (get_or (handed a s l cs) k (kwh 0)).0
    handed_at l [] k h = absurd (not-suc-le-zero h)
    handed_at l (c ∷ cs) zero h =
        ⊎_elim (λ e. inl (omega arith))
        (λ e. subst (λ (o : ℕ). Rounded (a * c.0) s (down a s c + o)) (sym e.0) (rounded_more s some (a * c.0) e.1))
        (odd_is l (over a s c))
    handed_at l (c ∷ cs) (suc k) h = handed_at (l - odd l (over a s c)) cs k (le_of_suc-le-suc h)

-- the shares rounded down are within an amount below the sum of the claims
pub downs_le : (a s : ℕ) (claims : List Kwh) → s ≡ sum_kwh claims → a < s → sum_of (down a s) claims ≤ a
downs_le a s claims e h =
    let within = downs_within a s (omega arith) claims in
    let all = ap (λ (n : ℕ). a * n) e in
    let most : s * sum_of (down a s) claims ≤ s * a = omega (arith, mul_comm a s) in
    le_of_mul-le-mul_left most (omega arith)

-- the register rule keeps the quota law
pub register_quota : (amount : Kwh) (claims : List Kwh) → Quota amount claims (register amount claims)
register_quota amount claims =
    let a = amount.0 in
    let s = sum_kwh claims in
    let l = spare a claims in
    quota_divided handed_out amount claims (handed_length a s l claims)
    (λ h.
    let some : 0 < s = omega arith in
    let within = downs_le a s claims refl h in
    let least : s * a ≤ s * (sum_of (down a s) claims + sum_of (uneven a s) claims) = omega (arith, downs_cover a s some claims, mul_comm a s) in
    let cover = le_of_mul-le-mul_left least some in
    omega (arith, handed_sum a s l claims (omega arith)))
    (λ h k j. handed_at a s (omega arith) l claims k j)
