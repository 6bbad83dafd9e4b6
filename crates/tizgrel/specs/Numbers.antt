-- Whole numbers in a user's words.
use Rattle.std.specs.Prelude.{ℕ, ◌+◌, ◌-◌, ◌*◌, ◌^◌, cond, ◌&&◌, List, [], ◌∷◌, length, Ok, Err, Result, nat_lt}
use Rattle.std.specs.Str.{all_ascii_digits}
use Rattle.tizgrel.specs.declared.number.NumberFault.{NumberFault}
use Rattle.tizgrel.specs.declared.number.NumberFault.TheVariants.{NotDigits, TooLarge}

-- The number that digits write after the digits of n.
abbrev pub read_on : ℕ → List ℕ → ℕ
read_on n [] = n
read_on n (b ∷ bs) = read_on (10 * n + (b - 48)) bs

-- A word of one or more digits, leading zeros too, writes a number, which is taken below 2^64.
abbrev pub whole_number : List ℕ → Result ℕ NumberFault
whole_number word =
    cond (nat_lt 0 (length word) && all_ascii_digits word) (cond (nat_lt (read_on 0 word) (2 ^ 64)) (Ok (read_on 0 word)) (Err TooLarge)) (Err NotDigits)
