-- A claim's exact share of an amount.
use Rattle.std.specs.Prelude.{◌≡◌, ℕ, ◌+◌, ◌*◌, ◌<◌, cond, List, ◌++◌, codes, decimal, ◌==◌, nat_le}
use Rattle.std.specs.Int.{◌∣◌}
use Rattle.energy.specs.declared.unit.Kwh.{Kwh}
use Rattle.rationing.specs.declared.share.ExactShare.{ExactShare}

-- A quotient, dividend over divisor.
pub record Quotient : Type 0 where
  pub dividend : ℕ
  pub divisor : ℕ

abbrev pub over : ℕ → ℕ → Quotient
over n s = record { dividend = n; divisor = s }

-- An amount that covers the sum of the claims gives a claim whole; otherwise its share is amount × claim / sum.
abbrev pub quotient : Kwh → Kwh → Kwh → Quotient
quotient amount claim all =
    cond (nat_le all.0 amount.0) (over claim.0 1) (over (amount.0 * claim.0) all.0)

-- Only 1 divides both.
abbrev pub Coprime : ℕ → ℕ → Type 0
Coprime m n = (k : ℕ) → k ∣ m → k ∣ n → k ≡ 1

-- The share is that quotient: whole + numerator / denominator equals it, the fraction is below one and in lowest terms.
pub record Exactly (q : Quotient) (share : ExactShare) : Type 0 where
  pub value : (share.whole.0 * share.denominator + share.numerator) * q.divisor ≡ q.dividend * share.denominator
  pub proper : share.numerator < share.denominator
  pub lowest : Coprime share.numerator share.denominator

-- A fraction is written as numerator, stroke and denominator.
abbrev pub fraction_text : ExactShare → List ℕ
fraction_text share = decimal share.numerator ++ (codes "/" ++ decimal share.denominator)

-- A share is written as its whole part, its fraction, or both with a space between; a fraction of 0 is left out, and so
-- is a whole part of 0 before a fraction.
abbrev pub share_text : ExactShare → List ℕ
share_text share =
    cond (share.numerator == 0) (decimal share.whole.0)
    (cond (share.whole.0 == 0) (fraction_text share) (decimal share.whole.0 ++ (codes " " ++ fraction_text share)))
