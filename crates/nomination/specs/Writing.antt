-- Text written over a part of a buffer.
use Rattle.std.specs.Prelude.{ℕ, ◌+◌, cond, List, ◌++◌, length, take, drop, Some, None, Option, nat_le}

-- A buffer with a text written over it from a place on: what stands before and behind stays.
unfoldable pub over : List ℕ → ℕ → List ℕ → List ℕ
over buffer at text = take at buffer ++ (text ++ drop (at + length text) buffer)

-- A text is written, and its length answered, where it fits behind the place; otherwise nothing is.
abbrev pub placed : List ℕ → List ℕ → ℕ → List ℕ × Option ℕ
placed text buffer at = cond (nat_le (at + length text) (length buffer)) (over buffer at text, Some (length text)) (buffer, None)
