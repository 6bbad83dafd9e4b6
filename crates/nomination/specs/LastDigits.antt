-- The last digits of a number.
use Rattle.std.specs.Prelude.{ℕ, zero, suc, ◌/◌, ◌^◌, List, [], ◌∷◌}
use Rattle.nomination.specs.Texts.{digit}

-- So many of them, the last behind the others.
abbrev pub last_digits : ℕ → ℕ → List ℕ
last_digits zero n = []
last_digits (suc k) n = digit (n / 10 ^ k) ∷ last_digits k n
