-- Numbers as digits.
use Rattle.std.specs.Prelude.{ℕ, ◌+◌, ◌-◌, ◌*◌, Bool, cond, ◌&&◌, List, [], ◌∷◌, length, Some, None, Option, nat_le}

-- A digit is 0 to 9.
abbrev pub is_digit : ℕ → Bool
is_digit b = nat_le 48 b && nat_le b 57

-- The number that digits write after the digits of n.
abbrev pub digits_after : ℕ → List ℕ → Option ℕ
digits_after n [] = Some n
digits_after n (b ∷ bs) = cond (is_digit b) (digits_after (n * 10 + (b - 48)) bs) None

-- A number is one to four digits.
abbrev pub number_of : List ℕ → Option ℕ
number_of bytes = cond (nat_le 1 (length bytes) && nat_le (length bytes) 4) (digits_after 0 bytes) None

-- Two numbers, one after the other, as one.
abbrev pub joined_by : ℕ → Option ℕ → Option ℕ → Option ℕ
joined_by k (Some n) (Some m) = Some (n * k + m)
joined_by k (Some n) None = None
joined_by k None o = None
