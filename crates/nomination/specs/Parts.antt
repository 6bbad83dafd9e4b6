-- Parts of a text, with their places.
use Rattle.std.specs.Prelude.{ℕ, ◌+◌, List, [], ◌∷◌, length, take, slice_index_or}
use Rattle.std.specs.List.{sum_by}
use Rattle.nomination.specs.declared.part.Part.{Part}

-- A part of a text: its bytes, and the place at which it starts.
pub record TextPart : Type 0 where
  pub bytes : List ℕ
  pub at : ℕ

-- What a part of the program shows.
abbrev pub part_seen : Part → TextPart
part_seen p = record { bytes = p.bytes.now; at = p.at }

-- Where a field of a line starts: behind those before it, each with its comma.
abbrev pub start_of : List (List ℕ) → ℕ → ℕ
start_of fs k = sum_by (λ f. length f + 1) (take k fs)

-- A field of a line that starts at a place of the text.
abbrev pub part_of : ℕ → List (List ℕ) → ℕ → TextPart
part_of base fs k = record { bytes = slice_index_or fs k []; at = base + start_of fs k }

-- Each field of a line that starts at a place.
abbrev pub parts_from : ℕ → List (List ℕ) → List TextPart
parts_from base [] = []
parts_from base (f ∷ fs) = record { bytes = f; at = base } ∷ parts_from (base + length f + 1) fs
