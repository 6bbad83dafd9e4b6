-- How large a number can be that so many digits write.
use Rattle.std.proofs.Common.{◌≡◌, ℕ, suc, ◌+◌, ◌-◌, ◌*◌, ◌^◌, ◌<◌, ◌≤◌, true, List, [], ◌∷◌, length, Some, pow-suc, add-zero, add-one, arith}
use native.Mathlib.Nat.{pow-le-pow_right}
use Rattle.std.proofs.lemmas.Bool.Decides.{nat_tests}
use Rattle.nomination.specs.Digits.{is_digit, digits_after, number_of}

-- one digit more
pub digit_more : (n k b : ℕ) → is_digit b ≡ true → n < 10 ^ k → n * 10 + (b - 48) < 10 ^ (k + 1)
digit_more n k b e h = rw (add-one, pow-suc) (grind (arith, nat_tests))

pub digits_small : (bs : List ℕ) (n k m : ℕ) → n < 10 ^ k → digits_after n bs ≡ Some m → m < 10 ^ (k + length bs)
digits_small [] n k m h e = grind (arith, add-zero)
digits_small (b ∷ bs) n k m h e =
    let more = digits_small bs (n * 10 + (b - 48)) (k + 1) m in
    let a : (k + 1) + length bs ≡ k + suc (length bs) = omega arith in
    grind (arith, nat_tests, digit_more n k b)

-- a number of at most k digits is below 10 to the k
pub number_below : (k : ℕ) (bs : List ℕ) (m : ℕ) → length bs ≤ k → number_of bs ≡ Some m → m < 10 ^ k
number_below k bs m h e =
    let ten : 0 < 10 = omega arith in
    let most = pow-le-pow_right ten h in
    grind (arith, nat_tests, digits_small bs 0 0 m)
