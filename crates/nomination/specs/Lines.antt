-- A text as lines, and a line as fields.
use Rattle.std.specs.Prelude.{ℕ, Bool, true, false, cond, List, [], ◌∷◌, ◌==◌}
use Rattle.std.specs.List.{slice_split}

-- A line: its bytes without byte 10, and whether byte 10 ends it.
pub record Line : Type 0 where
  pub ended : Bool
  pub bytes : List ℕ

-- One byte more in front of the first of some lines.
abbrev pub longer : ℕ → List Line → List Line
longer b [] = record { ended = false; bytes = b ∷ [] } ∷ []
longer b (l ∷ ls) = record { ended = l.ended; bytes = b ∷ l.bytes } ∷ ls

-- The lines of a text: each byte 10 ends one, and what follows the last, if anything, is a line that is not ended.
unfoldable pub lines_of : List ℕ → List Line
lines_of [] = []
lines_of (b ∷ bs) = cond (b == 10) (record { ended = true; bytes = [] } ∷ lines_of bs) (longer b (lines_of bs))

-- The fields of a line: commas (byte 44) stand between them, so that there is one more than there are commas.
unfoldable pub fields_of : List ℕ → List (List ℕ)
fields_of bytes = slice_split (λ b. b == 44) bytes
