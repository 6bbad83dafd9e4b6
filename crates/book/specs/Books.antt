-- Books: the rows in use, and the entries among them.
use Rattle.std.specs.Prelude.{ℕ, ◌+◌, ◌-◌, min, Bool, cond, ◌&&◌, List, [], ◌∷◌, length, drop, Some, None, Ok, Err, Option, Result, nat_lt, slice_set, position}

-- A row that passes its check stands for an entry, and any other for none.
abbrev pub checked : {R : Type 0} → (R → Bool) → R → Option R
checked fits x = cond (fits x) (Some x) None

-- Where the first entry under a key stands: rows that fail the check are passed over.
abbrev pub place_under : {R K : Type 0} → (R → Bool) → (R → K → Bool) → K → List R → Option ℕ
place_under fits keyed k xs = position (λ x. fits x && keyed x k) xs

-- A book takes as many rows as it is long, and at most those of its kind.
abbrev pub space_left : {R : Type 0} → ℕ → List R → ℕ → ℕ
space_left most_of xs n = min (length xs) most_of - n

-- The entry at a place of the rows in use.
abbrev pub first_entry : {R : Type 0} → (R → Bool) → List R → Option R
first_entry fits [] = None
first_entry fits (x ∷ xs) = checked fits x

abbrev pub entry_at : {R : Type 0} → (R → Bool) → ℕ → List R → Option R
entry_at fits k xs = first_entry fits (drop k xs)

-- A new entry goes behind the rows in use, where the book has space.
abbrev pub added : {R F : Type 0} → ℕ → F → List R → ℕ → R → List R × ℕ × Result (Unit {0}) F
added most_of full xs n x = cond (nat_lt 0 (space_left most_of xs n)) (slice_set xs n x, n + 1, Ok tt) (xs, n, Err full)

-- An entry takes the place of another row in use.
abbrev pub changed : {R F : Type 0} → F → List R → ℕ → ℕ → R → List R × Result (Unit {0}) F
changed absent xs n k x = cond (nat_lt k n) (slice_set xs k x, Ok tt) (xs, Err absent)
