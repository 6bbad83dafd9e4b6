-- The codes of parties.
use Rattle.std.specs.Prelude.{ℕ, Bool, cond, ◌&&◌, ◌||◌, List, [], ◌∷◌, length, Some, None, Option, ◌==◌, nat_le, slice_index}

-- A character of a code is A to Z or 0 to 9.
abbrev pub code_char : ℕ → Bool
code_char b = (nat_le 65 b && nat_le b 90) || (nat_le 48 b && nat_le b 57)

-- The first four bytes of a text.
abbrev pub first_four : List ℕ → List ℕ
first_four bytes = slice_index bytes 0 ∷ slice_index bytes 1 ∷ slice_index bytes 2 ∷ slice_index bytes 3 ∷ []

-- A code is four such characters.
abbrev pub well_formed : List ℕ → Bool
well_formed bytes =
    (length bytes == 4)
    && ((code_char (slice_index bytes 0) && code_char (slice_index bytes 1)) && (code_char (slice_index bytes 2) && code_char (slice_index bytes 3)))

-- The code that a text is, where it is one.
abbrev pub code_read : List ℕ → Option (List ℕ)
code_read bytes = cond (well_formed bytes) (Some (first_four bytes)) None

-- Codes are the same where all four characters are.
abbrev pub same_code : List ℕ → List ℕ → Bool
same_code a b =
    (slice_index a 0 == slice_index b 0 && slice_index a 1 == slice_index b 1)
    && (slice_index a 2 == slice_index b 2 && slice_index a 3 == slice_index b 3)
